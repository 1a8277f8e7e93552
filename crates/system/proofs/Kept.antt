-- The limits hold after a wipe, and every operation but a write keeps them. That a write does is in Writes.
use Prim.Native.Nat.{ℕ}
use mathlib.Core.Path.{◌≡◌, refl, ◌∙◌}
use mathlib.Core.Bool.{Bool}
use mathlib.Core.List.{List}
use lib.ListN.{length, replicate}
use lib.Ieee.{Float, of_bits}
use Rattle.std.specs.Prelude.{Err, Ok}
use Rattle.whole.proofs.Words.{either}
use Rattle.registers.specs.declared.Registers.{Registers}
use Rattle.registers.specs.declared.View.{View}
use Rattle.registers.specs.declared.View.TheVariants.{TimerCounter, SpiAnswer, RtcReady, RtcOut, FlashStatus}
use Rattle.registers.specs.declared.View.TheVariants.{FlashAnswer, ClockStatus, Pending, PendingFiq}
use Rattle.registers.specs.declared.Port.{Port}
use Rattle.registers.specs.declared.Port.TheVariants.{Select, Send, LcdControl, RtcCommand, Acts, Shows, Holds, Other}
use Rattle.registers.specs.Ports.{port_of}
use Rattle.registers.specs.Words.{registers_of}
use Rattle.registers.specs.Within.{Tidy}
use Rattle.registers.proofs.Own.{own_length}
use Rattle.registers.proofs.Tidy.{tidy_fresh}
use Rattle.registers.proofs.Every.{each_fresh}
use Rattle.memory.specs.declared.Place.{Place}
use Rattle.memory.specs.declared.Place.TheVariants.{Ram, Sram, Gpio, Register, Stray}
use Rattle.memory.specs.Places.{place_of}
use Rattle.memory.specs.Access.{good_size}
use Rattle.memory.proofs.Stored.{load_fits}
use Rattle.flash.specs.declared.Mode.TheVariants.{Rust}
use Rattle.reach.proofs.Kept.{made_reached}
use Rattle.timer.specs.Within.{ToneFinite}
use Rattle.timer.specs.Sound.{silence}
use Rattle.timer.proofs.Tidy.{empty_canonical, take_canonical}
use Rattle.timer.proofs.Finite.{empty_events, take_events}
use Rattle.panel.proofs.Limits as panel_limits
use Rattle.clock.specs.Times.{Moved}
use Rattle.clock.specs.Times.{Paced}
use Rattle.clock.specs.Times.{moved_of, paced_of}
use Rattle.clock.proofs.TimeLimits.{paces_within}
use Rattle.clock.proofs.RtcLimits.{fresh_latched, later_latched}
use Rattle.keys.specs.declared.Keys.{Keys}
use Rattle.keys.specs.Keys.{buttons}
use Rattle.keys.specs.Live.{held_of}
use Rattle.keys.specs.Within as keys
use Rattle.keys.proofs.Limits as keys_limits
use Rattle.keys.proofs.Kept.{press_within}
use Rattle.state.specs.declared.Clocks.{Clocks}
use Rattle.time.specs.Advance as move
use Rattle.time.proofs.Limits as time_limits
use Rattle.state.specs.declared.Devices.{Devices}
use Rattle.time.specs.Clocks.{clock_in}
use Rattle.bus.specs.Read as read
use Rattle.bus.specs.Read.{ReadOut, view_of, read_by, word_read, reg_read, read_at}
use Rattle.system.specs.System.{Machine, machine, buttons_in, fresh_devices, fresh_system}
use Rattle.system.specs.Calls.{read_of, advance_of, pacing, turbo_of, take_of, live_of, hold_of, press_of, wiped_of}
use Rattle.system.specs.Steps.{with_system}
use Rattle.system.specs.Carried.{array_in}
use Rattle.system.specs.Limits.{RegisterWord, WithinLimits}

-- ---- after a wipe

silence_finite : ToneFinite silence
unfolding of_bits
silence_finite = record { frequency = tt; duty = tt }

-- over memories of any contents: the limits ask only for how long the flash's array is
pub fresh_limits_over : (ram sram gpio fb : List ℕ) → WithinLimits (machine fresh_system ram sram gpio fb)
unfolding fresh_system fresh_devices
fresh_limits_over ram sram gpio fb = record {
  registers = tidy_fresh;
  others = each_fresh RegisterWord;
  clocks = time_limits.fresh_within;
  rtc = fresh_latched _ (time_limits.fresh_within).times.game_limit;
  tone = silence_finite;
  queue = empty_canonical;
  events = empty_events;
  keys = keys_limits.fresh_within;
  panel = panel_limits.fresh_within;
  flash = record { mode = refl; reached = made_reached Rust (array_in ram) };
}

pub fresh_limits : (ram sram gpio fb : ℕ) → WithinLimits (wiped_of ram sram gpio fb)
unfolding wiped_of
fresh_limits ram sram gpio fb =
    fresh_limits_over (replicate ram 0) (replicate sram 0) (replicate gpio 0) (replicate fb 0)

-- ---- words with storage of their own are replaced

pub own_tidy : (r : Registers) (slots : List ℕ) → Tidy r → length slots ≡ length r.slots
    → Tidy (registers_of slots r.addresses r.values)
own_tidy r slots w e = record { slots = e ∙ w.slots; others = w.others }

-- ---- a read

read_length : (slots : List ℕ) (d : Devices) (clock word old : ℕ)
    → length (word_read slots d clock word old).slots ≡ length
    slots
unfolding word_read
read_length slots d clock word old = at (port_of word)
  where
    shown : (v : View) → length (view_of v slots d clock word old).slots ≡ length slots
    shown TimerCounter = refl
    shown SpiAnswer = own_length slots _ _
    shown RtcReady = refl
    shown RtcOut = refl
    shown FlashStatus = refl
    shown FlashAnswer = refl
    shown ClockStatus = refl
    shown Pending = refl
    shown PendingFiq = refl

    at : (p : Port) → length (read_by p slots d clock word old).slots ≡ length slots
    at Select = refl
    at Send = refl
    at LcdControl = refl
    at RtcCommand = refl
    at (Acts e) = refl
    at (Shows v) = shown v
    at Holds = refl
    at Other = refl

module _ (r : Registers) (ram sram gpio : List ℕ) (d : Devices) (a n : ℕ) where
  placed_length : (p : Place) → length (read_at p r ram sram gpio d a n).slots ≡ length r.slots
  unfolding reg_read
  placed_length (Ram o) = refl
  placed_length (Sram o) = refl
  placed_length (Gpio o) = refl
  placed_length Register = read_length r.slots d _ _ _
  placed_length Stray = refl

  given_length : length (read.read_of r ram sram gpio d a n).slots ≡ length r.slots
  unfolding read.read_of
  given_length = either (λ (x : ReadOut). length x.slots ≡ length r.slots) (good_size n) _ _
      (placed_length (place_of a)) refl

module _ (m : Machine) (w : WithinLimits m) where
  pub read_limits : (a n : ℕ) → WithinLimits
      (with_system m (read_of m.system m.ram m.sram m.gpio a n).system)
  unfolding read_of
  read_limits a n = record {
    registers = own_tidy m.system.registers _ w.registers (given_length m.system.registers m.ram
        m.sram m.gpio m.system.devices a n);
    others = w.others;
    clocks = w.clocks;
    rtc = w.rtc;
    tone = w.tone;
    queue = w.queue;
    events = w.events;
    keys = w.keys;
    panel = w.panel;
    flash = w.flash;
  }

  -- ---- keys and events

  pub live_limits : (key : ℕ) (down : Bool) → WithinLimits (with_system m (live_of m.system key down).system)
  unfolding live_of
  live_limits key down = record {
    registers = w.registers;
    others = w.others;
    clocks = w.clocks;
    rtc = w.rtc;
    tone = w.tone;
    queue = w.queue;
    events = w.events;
    keys = keys_limits.live_within (buttons_in m.system) key down w.keys;
    panel = w.panel;
    flash = w.flash;
  }

  pub hold_limits : (key : ℕ) (until : Float) → WithinLimits (with_system m (hold_of m.system key until).system)
  unfolding hold_of
  hold_limits key until = record {
    registers = w.registers;
    others = w.others;
    clocks = w.clocks;
    rtc = w.rtc;
    tone = w.tone;
    queue = w.queue;
    events = w.events;
    keys = keys_limits.hold_within (buttons_in m.system) key until w.keys;
    panel = w.panel;
    flash = w.flash;
  }

  pub press_limits : (key : ℕ) (at : Float) → WithinLimits (with_system m (press_of m.system key at).system)
  unfolding press_of
  press_limits key at = record {
    registers = w.registers;
    others = w.others;
    clocks = w.clocks;
    rtc = w.rtc;
    tone = w.tone;
    queue = w.queue;
    events = w.events;
    keys = press_within (buttons_in m.system) key at m.system.devices.clocks.times.now w.keys;
    panel = w.panel;
    flash = w.flash;
  }

  pub take_limits : WithinLimits (with_system m (take_of m.system).system)
  unfolding take_of
  take_limits = record {
    registers = w.registers;
    others = w.others;
    clocks = w.clocks;
    rtc = w.rtc;
    tone = w.tone;
    queue = take_canonical m.system.queue w.queue;
    events = take_events m.system.queue w.queue.most w.events;
    keys = w.keys;
    panel = w.panel;
    flash = w.flash;
  }

  -- ---- another turbo

  pub turbo_limits : (to : Float) → WithinLimits (with_system m (turbo_of m.system to).system)
  unfolding turbo_of
  turbo_limits to = by (paced_of m.system.devices.clocks.times to) refl
    where
      by : (p : Paced) → paced_of m.system.devices.clocks.times to ≡ p
          → WithinLimits (with_system m (pacing m.system p).system)
      by (Ok t) e = record {
        registers = w.registers;
        others = w.others;
        clocks = time_limits.turbo_within m.system.devices.clocks w.clocks t to e;
        rtc = rw (paces_within m.system.devices.clocks.times t to w.clocks.times e).2 w.rtc;
        tone = w.tone;
        queue = w.queue;
        events = w.events;
        keys = w.keys;
        panel = w.panel;
        flash = w.flash;
      }
      by (Err r) e = w

-- ---- time goes on

module _ (slots gpio : List ℕ) (starts : List Float) (codes : List ℕ) (c : Clocks) (k : Keys) (clock : ℕ) where
  moved_length : (x : Moved) → length (move.by_move slots gpio starts codes c k clock x).slots ≡ length slots
  unfolding move.by_move move.moved_to move.devices_of move.synced_of move.converted_in move.ticked_in
  moved_length (Ok t) = own_length _ _ _ ∙ own_length _ _ _ ∙ own_length _ _ _ ∙ own_length _ _ _
  moved_length (Err r) = refl

  moved_keys : (x : Moved) → keys.Within (buttons starts codes k)
      → keys.Within (buttons starts codes (keys.with_applied k
      (move.by_move slots gpio starts codes c k clock x).applied))
  unfolding move.by_move move.moved_to
  moved_keys (Ok t) w = keys_limits.sync_within (buttons starts codes k) gpio (held_of starts codes k t.now) w
  moved_keys (Err r) w = w

pub advance_limits : (m : Machine) (to : Float) → WithinLimits m
    → WithinLimits (machine (advance_of m.system m.sram m.gpio to).changed.system m.ram m.sram
    (advance_of m.system m.sram m.gpio to).gpio m.fb)
unfolding advance_of move.advance_of
advance_limits m to w =
    let c = m.system.devices.clocks in
    let slots = m.system.registers.slots in
    let clock = clock_in m.sram in
    let later = time_limits.later_times slots m.gpio m.system.presses.starts m.system.presses.codes c
    m.system.keys clock to w.clocks in
    let within = time_limits.advance_within slots m.gpio m.system.presses.starts m.system.presses.codes c
    m.system.keys clock to w.clocks
    (load_fits m.sram 0x90A4 4) in
    record {
      registers = own_tidy m.system.registers _ w.registers
          (moved_length slots m.gpio m.system.presses.starts m.system.presses.codes c m.system.keys
          clock (moved_of c.times to));
      others = w.others;
      clocks = within;
      rtc = later_latched m.system.rtc m.system.devices.latch c.times.game _
          w.clocks.times.game_limit within.times.game_limit
          later.game_later w.rtc;
      tone = w.tone;
      queue = w.queue;
      events = w.events;
      keys = moved_keys slots m.gpio m.system.presses.starts m.system.presses.codes c m.system.keys
          clock (moved_of c.times to) w.keys;
      panel = w.panel;
      flash = w.flash;
    }
