-- Time goes on: advance, timer_advance, adc_advance, rtc_irq_advance. Where the Rust leaves a word alone the same
-- value is put back, which changes nothing.
use Rattle.std.specs.Prelude.{ℕ, Bool, List, slice_index_or, Float, Err, Ok}
use Rattle.map.specs.Refusals.{code_of}
use Rattle.state.specs.Each.{list_of}
use Rattle.map.specs.Numbers.{TIMER_COUNT, RTC_IRQ_STATUS, ADC_CONTROL, ADC_RESULT, LCD_STATUS}
use Rattle.registers.specs.Words.{own_at, own_with}
use Rattle.timer.specs.declared.Timer.{Timer}
use Rattle.timer.specs.Timers.{advanced_of}
use Rattle.clock.specs.declared.Times.{Times}
use Rattle.clock.specs.declared.RtcIrq.{RtcIrq}
use Rattle.clock.specs.declared.Signal.{Signal}
use Rattle.clock.specs.declared.Ticked.{Ticked}
use Rattle.clock.specs.declared.Adc.{Adc}
use Rattle.clock.specs.Times.{Moved}
use Rattle.clock.specs.Times.{moved_of}
use Rattle.clock.specs.Sources.{vsync_of, ticked_of}
use Rattle.clock.specs.Adc.{converted_of}
use Rattle.keys.specs.declared.Keys.{Keys}
use Rattle.keys.specs.Live.{held_of}
use Rattle.keys.specs.Lines.{sync_of}
use Rattle.state.specs.declared.Clocks.{Clocks}
use Rattle.time.specs.Clocks.{control_word, reload_word}
use Rattle.state.specs.Parts.{none}

-- ---- the timers

unfoldable pub timer_after : List ℕ → ℕ → Timer → Float → ℕ → Timer
timer_after slots n t now clock = advanced_of t now clock (control_word slots n) (reload_word slots n)

unfoldable pub timers_after : List ℕ → List Timer → Float → ℕ → List Timer
timers_after slots ts now clock = list_of (λ n. timer_after slots n (slice_index_or ts n none) now clock) 0 TIMER_COUNT

-- ---- the panel's vertical sync

-- the words, and the last sync seen
pub record Synced : Type 0 where
  pub slots : List ℕ
  pub vsync : ℕ

abbrev pub synced : List ℕ → ℕ → Synced
synced slots vsync = record { slots = slots; vsync = vsync }

abbrev pub signalled : List ℕ → Signal → Synced
signalled slots s = synced (own_with slots LCD_STATUS s.status) s.seen

unfoldable pub synced_of : List ℕ → ℕ → Float → Synced
synced_of slots last now = signalled slots (vsync_of last now (own_at slots LCD_STATUS))

-- ---- the ADC

-- the words, and whether it converts
pub record Converted : Type 0 where
  pub slots : List ℕ
  pub converting : Bool

abbrev pub converted : List ℕ → Bool → Converted
converted slots converting = record { slots = slots; converting = converting }

abbrev pub stored_in : List ℕ → Adc → Converted
stored_in slots adc = converted (own_with (own_with slots ADC_RESULT adc.result) ADC_CONTROL adc.control)
    adc.converting

unfoldable pub converted_in : List ℕ → Bool → Converted
converted_in slots converting =
    stored_in slots (converted_of (record {
      converting = converting;
      control = own_at slots ADC_CONTROL;
      result = own_at slots
          ADC_RESULT;
    }))

-- ---- the 1 Hz tick

-- the words, and the SoC's clock
pub record Ticking : Type 0 where
  pub slots : List ℕ
  pub irq : RtcIrq

abbrev pub ticked : List ℕ → RtcIrq → Ticking
ticked slots irq = record { slots = slots; irq = irq }

abbrev pub ticked_with : List ℕ → Ticked → Ticking
ticked_with slots t = ticked (own_with slots RTC_IRQ_STATUS t.status) t.irq

unfoldable pub ticked_in : List ℕ → RtcIrq → Float → Ticking
ticked_in slots irq game = ticked_with slots (ticked_of irq game (own_at slots RTC_IRQ_STATUS))

-- ---- all devices, at later times t

-- the words, and the clocks
pub record Devices : Type 0 where
  pub slots : List ℕ
  pub clocks : Clocks

abbrev pub devices : List ℕ → Clocks → Devices
devices slots clocks = record { slots = slots; clocks = clocks }

-- timers 0 to 5, vsync, ADC, 1 Hz tick
unfoldable pub devices_of : List ℕ → Clocks → ℕ → Times → Devices
devices_of slots c clock t =
    let timers = timers_after slots c.timers t.now clock in
    let s = synced_of slots c.vsync t.now in
    let a = converted_in s.slots c.converting in
    let h = ticked_in a.slots c.irq t.game in
    devices h.slots (record {
      times = t;
      timers = timers;
      irq = h.irq;
      vsync = s.vsync;
      converting = a.converting;
    })

-- ---- the whole

-- the words, the GPIO memory, 01's number, the clocks, and what is applied to the lines
pub record Outcome : Type 0 where
  pub slots : List ℕ
  pub gpio : List ℕ
  pub refusal : ℕ
  pub clocks : Clocks
  pub applied : ℕ

abbrev pub outcome : List ℕ → List ℕ → ℕ → Clocks → ℕ → Outcome
outcome slots gpio refusal clocks applied = record {
  slots = slots;
  gpio = gpio;
  refusal = refusal;
  clocks = clocks;
  applied = applied;
}

-- the devices, and the keys that are down at the new time
unfoldable pub moved_to : List ℕ → List ℕ → List Float → List ℕ → Clocks → Keys → ℕ → Times → Outcome
moved_to slots gpio starts codes c k clock t =
    let d = devices_of slots c clock t in
    let l = sync_of gpio k.applied (held_of starts codes k t.now) in
    outcome d.slots l.gpio 0 d.clocks l.applied

-- a time that is refused changes nothing
unfoldable pub by_move : List ℕ → List ℕ → List Float → List ℕ → Clocks → Keys → ℕ → Moved → Outcome
by_move slots gpio starts codes c k clock (Ok t) = moved_to slots gpio starts codes c k clock t
by_move slots gpio starts codes c k clock (Err r) = outcome slots gpio (code_of r) c k.applied

-- game time and now first
unfoldable pub advance_of : List ℕ → List ℕ → List Float → List ℕ → Clocks → Keys → ℕ → Float → Outcome
advance_of slots gpio starts codes c k clock to = by_move slots gpio starts codes c k clock (moved_of c.times to)
