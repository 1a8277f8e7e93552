-- Every step answers the first refusal of 01's order that holds, or 0: each operation but a write.
use Prim.Native.Nat.{ℕ}
use mathlib.Core.Path.{◌≡◌, refl, sym, ap, ◌∙◌}
use mathlib.Core.Bool.{Bool, true, false, cond, not, ◌||◌}
use lib.Dec.{eqb, leb}
use lib.Ieee.{Float, binary64, of_bits, lt}
use Rattle.std.specs.Prelude.{Err, Ok}
use Rattle.map.specs.declared.refusals.Refusal.TheVariants.{BadTime, BadTurbo}
use Rattle.map.specs.Numbers.{BAD_SIZE, DONE, BAD_TIME, BAD_KEY, NO_EVENT}
use Rattle.whole.specs.Limits.{good_time, good_turbo}
use Rattle.memory.specs.declared.Place.{Place}
use Rattle.memory.specs.declared.Place.TheVariants.{Ram, Sram, Gpio, Register, Stray}
use Rattle.memory.specs.Places.{place_of}
use Rattle.memory.specs.Access.{good_size}
use Rattle.timer.specs.declared.Event.{Event}
use Rattle.timer.specs.declared.Queue.{Queue}
use Rattle.timer.specs.Events as events
use Rattle.timer.proofs.Waiting.{waiting_count}
use Rattle.clock.specs.declared.Times.{Times}
use Rattle.clock.specs.Times.{game_after, moved_of, paced_of}
use Rattle.keys.specs.declared.Keys.{Keys}
use Rattle.keys.specs.Live as keys
use Rattle.keys.proofs.Full.{keys_full_lem}
use Rattle.state.specs.declared.Clocks.{Clocks}
use Rattle.time.specs.Next.{NextTime}
use Rattle.time.specs.Advance as move
use Rattle.time.specs.Next as next
use Rattle.time.specs.Clocks.{clock_in}
use Rattle.bus.specs.Read as reads
use Rattle.bus.specs.Read.{read_at}
use Rattle.system.specs.System.{Machine}
use Rattle.system.specs.Calls.{read_of, advance_of, next_of, pacing, turbo_of, take_of, live_of, hold_of, press_of}
use Rattle.system.specs.Steps.{read, advance, next_event, turbo, live, hold, press, take_event, step}
use Rattle.system.specs.Refusals.{keys_full, order, given, first_of, refusal_of}

abbrev next_time : ℕ → Float → NextTime
next_time n t = record { refusal = n; time = t }

module _ (m : Machine) where
  pub read_order : (a n : ℕ) → (step m (read a n)).refusal ≡ refusal_of m (read a n)
  unfolding step read_of reads.read_of refusal_of first_of given order
  read_order a n = by (good_size n) (place_of a)
    where
      by : (b : Bool) (p : Place) → ◌≡◌ {A = ℕ}
          (cond b (read_at p m.system.registers m.ram m.sram m.gpio m.system.devices a n)
          (reads.got m.system.registers.slots (record { refusal = BAD_SIZE; value = 0 }))).got.refusal (cond
          (not b) 9 0)
      by true (Ram o) = refl
      by true (Sram o) = refl
      by true (Gpio o) = refl
      by true Register = refl
      by true Stray = refl
      by false p = refl

  pub advance_order : (to : Float) → (step m (advance to)).refusal ≡ refusal_of m (advance to)
  unfolding step advance_of move.advance_of move.by_move move.moved_to moved_of refusal_of first_of given order
  advance_order to =
      by (good_time to) (lt to c.times.now) (lt (of_bits binary64 0x41E0_0000_0000_0000) (game_after c.times to))
      (record { now = to; game = game_after c.times to; turbo = c.times.turbo })
    where
      c : Clocks
      c = m.system.devices.clocks

      by : (good back high : Bool) (t : Times)
          → ◌≡◌ {A = ℕ} (move.by_move m.system.registers.slots m.gpio m.system.presses.starts
          m.system.presses.codes c m.system.keys
          (clock_in m.sram)
          (cond good (cond back (Err BadTime) (cond high (Err BadTime) (Ok t))) (Err BadTime))).refusal
          (cond (not good || back || high) 1 0)
      by false back high t = refl
      by true true high t = refl
      by true false true t = refl
      by true false false t = refl

  pub next_order : (step m next_event).refusal ≡ refusal_of m next_event
  unfolding step next_of next.next_of next.answered refusal_of first_of given order
  next_order =
      by (next.finite (next.event_of m.system.registers.slots m.system.presses.starts
      m.system.devices.clocks m.system.keys (clock_in m.sram))) _ _
    where
      by : (b : Bool) (t z : Float) → ◌≡◌ {A = ℕ} (cond b (next_time 0 t) (next_time 13 z)).refusal (cond (not b) 13 0)
      by true t z = refl
      by false t z = refl

  pub turbo_order : (to : Float) → (step m (turbo to)).refusal ≡ refusal_of m (turbo to)
  unfolding step turbo_of paced_of refusal_of first_of given order
  turbo_order to = by (good_turbo to) _
    where
      by : (b : Bool) (t : Times) → ◌≡◌ {A = ℕ} (pacing m.system (cond b (Ok t) (Err BadTurbo))).refusal
          (cond (not b) 2 0)
      by true t = refl
      by false t = refl

  pub live_order : (key : ℕ) (down : Bool) → (step m (live key down)).refusal ≡ refusal_of m (live key down)
  unfolding step live_of keys.live_of refusal_of first_of given order
  live_order key down = by (leb key 2) _
    where
      by : (b : Bool) (k : Keys) → ◌≡◌ {A = ℕ}
          (cond b (keys.outcome DONE k) (keys.outcome BAD_KEY m.system.keys)).refusal (cond (not b) 8 0)
      by true k = refl
      by false k = refl

  pub hold_order : (key : ℕ) (until : Float) → (step m (hold key until)).refusal ≡ refusal_of m (hold key until)
  unfolding step hold_of keys.hold_of refusal_of first_of given order
  hold_order key until = by (leb key 2) (good_time until) _
    where
      by : (a b : Bool) (k : Keys)
          → ◌≡◌ {A = ℕ} (cond a (cond b (keys.outcome DONE k) (keys.outcome BAD_TIME m.system.keys))
          (keys.outcome BAD_KEY m.system.keys)).refusal
          (cond (not a) 8 (cond (not b) 1 0))
      by false b k = refl
      by true false k = refl
      by true true k = refl

  pub press_order : (key : ℕ) (at : Float) → (step m (press key at)).refusal ≡ refusal_of m (press key at)
  unfolding step press_of refusal_of first_of given order
  press_order key at = keys_full_lem _ key at _ ∙ by (leb key 2) (good_time at) (keys_full m.system)
    where
      by : (a b c : Bool) → ◌≡◌ {A = ℕ} (cond a (cond b (cond c 3 0) 1) 8)
          (cond (not a) 8 (cond (not b) 1 (cond c 3 0)))
      by false b c = refl
      by true false c = refl
      by true true c = refl

  pub take_order : (step m take_event).refusal ≡ refusal_of m take_event
  unfolding step take_of events.take_of refusal_of first_of given order
  take_order = by (eqb m.system.queue.ring.count 0) _ _ ∙ ap (λ (n : ℕ). cond (eqb n 0) 12 0)
      (sym (waiting_count m.system.queue))
    where
      by : (b : Bool) (e : Event) (q : Queue)
          → ◌≡◌ {A = ℕ} (cond b (events.take_outcome NO_EVENT events.nothing m.system.queue)
          (events.take_outcome DONE e q)).refusal (cond b 12 0)
      by true e q = refl
      by false e q = refl
