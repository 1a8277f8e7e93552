-- What each call leaves of the state, from what the crates below leave of the bank and of the lent arrays.
use Prim.Native.Nat.{ℕ}
use mathlib.Core.Path.{◌≡◌, refl, ap, ◌∙◌}
use mathlib.Core.Bool.{Bool, false}
use mathlib.Core.List.{List}
use lib.Ieee.{Float}
use lib.ListN.{length, replicate}
use Rattle.std.specs.Prelude.{Err, Ok}
use Rattle.registers.specs.declared.Registers.{Registers}
use Rattle.registers.specs.Words.{fresh_registers}
use Rattle.flash.specs.declared.Chip.{Chip}
use Rattle.flash.specs.declared.SpiFlash.{SpiFlash}
use Rattle.flash.specs.declared.Mode.TheVariants.{Rust}
use Rattle.flash.specs.Board.{chip_with_page}
use Rattle.flash.specs.Flash.{made_in}
use Rattle.panel.specs.declared.Panel.{Panel}
use Rattle.panel.specs.Lcd.{fresh_panel}
use Rattle.clock.specs.declared.Rtc.{Rtc}
use Rattle.clock.specs.Times.{Paced}
use Rattle.clock.specs.Times.{paced_of}
use Rattle.clock.specs.Rtc.{fresh_rtc}
use Rattle.timer.specs.declared.Event.{Event}
use Rattle.timer.specs.declared.Queue.{Queue}
use Rattle.timer.specs.declared.Ring.{Ring}
use Rattle.timer.specs.declared.Tone.{Tone}
use Rattle.timer.specs.Sound.{silence}
use Rattle.timer.specs.Events as events
use Rattle.timer.specs.Events.{ring_of, queue_of, empty_queue}
use Rattle.keys.specs.declared.Keys.{Keys}
use Rattle.keys.specs.Keys.{Buttons, buttons, fresh_keys, fresh_buttons}
use Rattle.keys.specs.Live as live
use Rattle.keys.specs.Script as script
use Rattle.state.specs.declared.Clocks.{Clocks}
use Rattle.state.specs.declared.Devices.{Devices}
use Rattle.state.specs.declared.Parts.{Parts}
use Rattle.state.specs.Parts.{devices_of, parts}
use Rattle.state.specs.Bank.{mode_in, maybe_in, chip_in, panel_in, times_in, timer_in, irq_in, latch_in, tone_in}
use Rattle.state.specs.Bank.{ring_in, keys_in}
use Rattle.state.specs.Packed.{mode_number, maybe_number, chip_cells, panel_cells, clock_cells, key_cells, times_floats}
use Rattle.state.specs.Packed.{cells_of, floats_of, Packed}
use Rattle.time.specs.Clocks.{clock_in, fresh_clocks}
use Rattle.time.specs.Next.{NextTime}
use Rattle.time.specs.Advance as move
use Rattle.time.specs.Irq as irq
use Rattle.time.specs.Next as next
use Rattle.time.specs.Bank.{MovedBank, moved_bank, moves_of, Asked, asked, paced_put, keys_asked, Pressed, pressed}
use Rattle.time.specs.Bank.{pressed_of, Took, took, took_of}
use Rattle.bus.specs.Answers.{Got}
use Rattle.bus.specs.Answers.{WriteAnswer}
use Rattle.bus.specs.World.{world}
use Rattle.bus.specs.Bank.{out_of}
use Rattle.bus.specs.Sounds.{noted}
use Rattle.bus.specs.Read as read
use Rattle.bus.specs.Read.{ReadOut, got}
use Rattle.bus.specs.Write as write
use Rattle.bus.specs.Write.{Noted, noted_write}
use Rattle.system.specs.declared.System.{System}
use Rattle.system.specs.Calls.{Read}
use Rattle.system.specs.Calls.{Taken}
use Rattle.system.specs.System.{Machine, machine, left, system_of, presses, with_slots, with_presses, with_queue}
use Rattle.system.specs.System.{with_world, fresh_devices, fresh_system}
use Rattle.system.specs.Calls.{changed, reading, read_of, write_of, moved, advance_of, next_of, pending_of, wanted_of}
use Rattle.system.specs.Calls.{turbo_of, pacing, take_of, press_of, live_of, hold_of, wiped_of}
use Rattle.system.specs.Bank.{fresh_parts}
use Rattle.system.specs.Inner.{parts_of, with_parts}

-- ---- reads and writes

pub read_done : (s : System) (ram sram gpio : List ℕ) (a n : ℕ) {slots : List ℕ} {x : Parts} {v : Got} {t : System}
    → x ≡ parts_of s
    → got slots v ≡ read.read_of s.registers ram sram gpio x.devices a n → t ≡ with_slots s slots
    → ◌≡◌ {A = Read} (record { refusal = v.refusal; value = v.value; system = t }) (read_of s ram sram gpio a n)
unfolding read_of
read_done s ram sram gpio a n i e h =
    rw h (ap (λ (z : ReadOut). reading s z) (e ∙ ap (λ (z : Parts). read.read_of s.registers ram sram gpio
    z.devices a n)
    i))

-- d and k: the devices and the keys that are then in the bank
pub write_done : (m : Machine) (a n v : ℕ) {r : Registers} {rtc page ram sram gpio fb : List ℕ} {d : Devices} {k : Keys}
    {q : Queue} {x : Parts} {t : WriteAnswer} → x ≡ parts_of m.system
    → record { out = out_of (world r rtc page ram sram gpio fb d) t; queue = q }
    ≡ noted_write
    (world m.system.registers m.system.rtc m.system.page m.ram m.sram m.gpio m.fb x.devices)
    (queue_of m.system.queue.onsets m.system.queue.frequencies m.system.queue.duties x.ring) a n v
    → k ≡ x.keys
    → left (machine (system_of r rtc page d q m.system.presses k) ram sram gpio fb) t.refusal ≡ write_of m a n v
unfolding write_of noted_write
write_done m a n v {r} {rtc} {page} {ram} {sram} {gpio} {fb} {d} {k} {q} {x} {t} i e h =
    rw (h ∙ ap (λ (z : Parts). z.keys) i)
    (ap (λ (z : Noted). left (with_world m z.out.world z.queue) z.out.refusal) e
    ∙ ap
    (λ (z : Parts).
    let w = world m.system.registers m.system.rtc m.system.page m.ram m.sram m.gpio m.fb
    z.devices in
    let o = write.write_of w (events.full_of z.ring) a n v in
    let u = queue_of m.system.queue.onsets m.system.queue.frequencies m.system.queue.duties z.ring in
    left (with_world m o.world (noted u o.world.devices o.event)) o.refusal)
    i)

-- ---- time

module _ (s : System) {x : Parts} (i : x ≡ parts_of s) where
  pub pending_done : {n : ℕ} → n ≡ irq.pending_of s.registers.slots x.devices.clocks.timers → n ≡ pending_of s
  unfolding pending_of
  pending_done h = h ∙ ap (λ (z : Parts). irq.pending_of s.registers.slots z.devices.clocks.timers) i

  pub wanted_done : {b : Bool} → b ≡ irq.wanted_of s.registers.slots x.devices.clocks.timers → b ≡ wanted_of s
  unfolding wanted_of
  wanted_done h = h ∙ ap (λ (z : Parts). irq.wanted_of s.registers.slots z.devices.clocks.timers) i

  pub next_done : (sram : List ℕ) {r : NextTime} → r ≡ next.next_of s.registers.slots s.presses.starts
      x.devices.clocks x.keys (clock_in sram) → r ≡ next_of s sram
  unfolding next_of
  next_done sram h = h ∙ ap (λ (z : Parts). next.next_of s.registers.slots s.presses.starts z.devices.clocks
      z.keys (clock_in sram)) i

pub advance_done : (s : System) (sram gpio : List ℕ) (to : Float) {slots gpio₁ : List ℕ} {n : ℕ} {x y : Parts}
    → x ≡ parts_of s
    → moved_bank slots gpio₁ n y
    ≡ moves_of x (move.advance_of s.registers.slots gpio s.presses.starts s.presses.codes x.devices.clocks
    x.keys (clock_in sram) to)
    → moved (changed n (with_parts (with_slots s slots) y)) gpio₁ ≡ advance_of s sram gpio to
unfolding advance_of
advance_done s sram gpio to {slots} {gpio₁} {n} {x} {y} i h =
    let e : moved_bank slots gpio₁ n y ≡ moves_of (parts_of s)
    (move.advance_of s.registers.slots gpio s.presses.starts s.presses.codes s.devices.clocks
    s.keys (clock_in sram) to)
    = h ∙ ap (λ (z : Parts). moves_of z (move.advance_of s.registers.slots gpio s.presses.starts
    s.presses.codes z.devices.clocks z.keys (clock_in sram) to)) i in
    ap (λ (z : MovedBank). moved (changed z.refusal (with_parts (with_slots s z.slots) z.parts)) z.gpio) e

pub turbo_done : (s : System) (to : Float) {x y : Parts} {n : ℕ} → x ≡ parts_of s
    → asked y n ≡ paced_put x (paced_of x.devices.clocks.times to)
    → changed n (with_parts s y) ≡ turbo_of s to
unfolding turbo_of
turbo_done s to {x} {y} {n} i h =
    ap (λ (z : Asked). changed z.refusal (with_parts s z.parts))
    (h ∙ ap (λ (z : Parts). paced_put z (paced_of z.devices.clocks.times to)) i)
    ∙ by_pace (paced_of s.devices.clocks.times to)
  where
    by_pace : (p : Paced) → changed (paced_put (parts_of s) p).refusal (with_parts s (paced_put (parts_of s) p).parts) ≡
        pacing s p
    by_pace (Ok t) = refl
    by_pace (Err r) = refl

pub take_done : (s : System) {a f u : List Float} {x y : Parts} {n : ℕ} {e : Event} → x ≡ parts_of s
    → took a f u (asked y n) e ≡ took_of x
    (events.take_of (queue_of s.queue.onsets s.queue.frequencies s.queue.duties x.ring))
    → ◌≡◌ {A = Taken} (record {
      refusal = n;
      event = e;
      system = with_queue (with_parts s y) (queue_of a f u y.ring);
    }) (take_of s)
unfolding take_of
take_done s i h =
    ap
    (λ (z : Took). record {
      refusal = z.asked.refusal;
      event = z.event;
      system = with_queue (with_parts s z.asked.parts) (queue_of z.onsets z.frequencies z.duties
          z.asked.parts.ring);
    })
    (h ∙ ap (λ (z : Parts). took_of z
    (events.take_of (queue_of s.queue.onsets s.queue.frequencies s.queue.duties z.ring))) i)

-- ---- keys

module _ (s : System) {x y : Parts} {n : ℕ} (i : x ≡ parts_of s) where
  keys_done : (of : Keys → live.Outcome) → asked y n ≡ keys_asked x (of x.keys)
      → changed n (with_parts s y) ≡ changed (of s.keys).refusal
      (with_parts s (keys_asked (parts_of s) (of s.keys)).parts)
  keys_done of h =
      ap (λ (z : Asked). changed z.refusal (with_parts s z.parts))
      (h ∙ ap (λ (z : Parts). keys_asked z (of z.keys)) i)

  pub live_done : (key : ℕ) (down : Bool) → asked y n ≡ keys_asked x (live.live_of x.keys key down)
      → changed n (with_parts s y) ≡ live_of s key down
  unfolding live_of
  live_done key down h = keys_done (λ k. live.live_of k key down) h

  pub hold_done : (key : ℕ) (until : Float) → asked y n ≡ keys_asked x (live.hold_of x.keys key until)
      → changed n (with_parts s y) ≡ hold_of s key until
  unfolding hold_of
  hold_done key until h = keys_done (λ k. live.hold_of k key until) h

pub press_done : (s : System) (key : ℕ) (at : Float) {x y : Parts} {n : ℕ} {starts : List Float} {codes : List ℕ}
    → x ≡ parts_of s
    → pressed starts codes (asked y n)
    ≡ pressed_of x (script.press_of (script.script s.presses.starts s.presses.codes x.keys.count) key at
    x.devices.clocks.times.now)
    → changed n (with_presses (with_parts s y) (presses starts codes)) ≡ press_of s key at
unfolding press_of
press_done s key at i h =
    ap (λ (z : Pressed). changed z.asked.refusal (with_presses (with_parts s z.asked.parts)
    (presses z.starts z.codes)))
    (h ∙ ap (λ (z : Parts). pressed_of z
    (script.press_of (script.script s.presses.starts s.presses.codes z.keys.count) key at
    z.devices.clocks.times.now)) i)

-- ---- the fresh state

pub parts_fresh : {f : SpiFlash} {p : Panel} {c : Clocks} {r : Rtc} {t : Tone} {k : Keys} → f ≡ made_in Rust
    → p ≡ fresh_panel → c ≡ fresh_clocks → r ≡ fresh_rtc → t ≡ silence
    → k ≡ fresh_keys → parts (devices_of f.chip p c r.latch t false) (ring_of 0 0) k ≡ fresh_parts
unfolding fresh_devices
parts_fresh e h i j k l = rw (e, h, i, j, k, l)

-- a bank is packed from the first reset on
pub fresh_packed : Packed (cells_of fresh_parts) (floats_of fresh_parts)
unfolding fresh_devices fresh_clocks fresh_rtc mode_in maybe_in mode_number maybe_number chip_in panel_in times_in
    timer_in irq_in
    latch_in tone_in ring_in keys_in chip_cells panel_cells clock_cells key_cells times_floats cells_of floats_of
fresh_packed = record { cells = refl; floats = refl }

-- f: the chip that was made
pub state_fresh : (f : Chip) {g : Registers} {r : Rtc} {page : List ℕ} {a h u : List Float} {q : Ring}
    {starts : List Float} {codes : List ℕ} {k : Keys} {x : Parts} → g ≡ fresh_registers → r ≡ fresh_rtc
    → chip_with_page f page ≡ made_in Rust → queue_of a h u q ≡ empty_queue → buttons starts codes k ≡ fresh_buttons
    → x ≡ fresh_parts
    → system_of g r.regs page x.devices (queue_of a h u x.ring) (presses starts codes) x.keys ≡ fresh_system
unfolding fresh_system empty_queue fresh_buttons
state_fresh f {g} {r} {page} {a} {h} {u} {q} {starts} {codes} {k} {x} e i j l m n =
    rw (n, e, i)
    (ap (λ (z : SpiFlash). system_of fresh_registers fresh_rtc.regs z.page fresh_devices
    (queue_of a h u (ring_of 0 0)) (presses starts codes) fresh_keys) j
    ∙ ap (λ (z : Queue). system_of fresh_registers fresh_rtc.regs (made_in Rust).page fresh_devices
    (queue_of z.onsets z.frequencies z.duties (ring_of 0 0)) (presses starts codes) fresh_keys) l
    ∙ ap (λ (z : Buttons). system_of fresh_registers fresh_rtc.regs (made_in Rust).page fresh_devices empty_queue
    (presses z.starts z.codes) fresh_keys) m)

pub wiped_by : (ram sram gpio fb : List ℕ) {ram' sram' gpio' fb' : List ℕ} {s : System}
    → ram' ≡ replicate (length ram) 0
    → sram' ≡ replicate (length sram) 0 → gpio' ≡ replicate (length gpio) 0 → fb' ≡ replicate (length fb) 0
    → s ≡ fresh_system → machine s ram' sram' gpio' fb' ≡ wiped_of (length ram) (length sram) (length gpio) (length fb)
unfolding wiped_of
wiped_by ram sram gpio fb e h i j k = rw (e, h, i, j, k)
