-- Within the limits every step answers the first refusal of 01's order that holds, or 0.
use Prim.Native.Nat.{ℕ, ◌<◌, ◌≤◌}
use mathlib.Core.Path.{◌≡◌, refl, sym, ap, ◌∙◌}
use mathlib.Core.Bool.{Bool, true, false, cond}
use native.Mathlib.Omega.{arith}
use lib.Dec.{eqb}
use lib.ListN.{length}
use borrow.Author.Tests.{eq-eqb, ne_eqb, le-leb, lt-leb}
use Rattle.registers.specs.declared.Port.{Port}
use Rattle.registers.specs.Ports.{port_of}
use Rattle.registers.specs.Within.{Tidy}
use Rattle.whole.proofs.Choice.{by_same}
use Rattle.registers.proofs.Slots.{port_own, has_slot}
use Rattle.timer.specs.declared.Queue.{Queue}
use Rattle.timer.specs.Canonical.{Canonical}
use Rattle.timer.specs.Events.{waiting, full_of}
use Rattle.timer.proofs.Waiting.{waiting_count}
use Rattle.bus.specs.World.{World, Out}
use Rattle.bus.specs.Write.{stored_word, port_written, word_address, reg_written}
use Rattle.time.specs.Clocks.{clock_in}
use Rattle.bus.proofs.Branches.{by_write, by_port, by_stores}
use Rattle.system.specs.System.{Machine, world_in}
use Rattle.system.specs.Calls.{write_of}
use Rattle.system.specs.Steps.{Op, read, write, advance, next_event, pending, turbo, live, hold, press}
use Rattle.system.specs.Steps.{take_event, counters, pixel, wipe}
use Rattle.system.specs.Steps.{peek8, peek32, poke, keys_held, irq_wanted, carry_on, step}
use Rattle.system.specs.Limits.{WithinLimits}
use Rattle.system.specs.Refusals.{no_room, sound_word, new_word, order, given, first_of, refusal_of}
use Rattle.system.proofs.Ordered.{read_order, advance_order, next_order, turbo_order, live_order, hold_order}
use Rattle.system.proofs.Ordered.{press_order, take_order}
use Rattle.system.proofs.Room.{room_own, put_order, on_effect, word_number, adds_none, number_none, word_order}
use Rattle.system.proofs.Room.{port_silent}

-- ---- a register

port_order : (w : World) (full : Bool) (word old new part : ℕ) → Tidy w.registers
    → (port_written w full word old new part).refusal ≡ word_number w.registers w.devices (clock_in w.sram) full
    word new
unfolding stored_word
port_order w full word old new part tidy =
    by_port (λ (x : Out). x.refusal ≡ word_number w.registers w.devices (clock_in w.sram) full word new) w
    full word old new part
    (λ e. quiet (ap has_slot e) (ap acts e))
    (λ e. quiet (ap has_slot e) (ap acts e))
    (λ e. quiet (ap has_slot e) (ap acts e))
    (λ e. quiet (ap has_slot e) (ap acts e))
    (λ x e. word_order w.registers w.devices (clock_in w.sram) full word new old part x e)
    (λ p e s. put_order w.registers word new tidy ∙ alone
    (port_silent word (ap acts e ∙ by_stores (λ (q : Port). acts q ≡ false) (λ v. refl) refl refl p s)))
  where
    acts : Port → Bool
    acts p = on_effect (λ x n. true) p 0

    quiet : has_slot (port_of word) ≡ true → acts (port_of word) ≡ false
        → 0 ≡ word_number w.registers w.devices (clock_in w.sram) full word new
    quiet h k =
        number_none w.registers w.devices (clock_in w.sram) full word new
        (room_own w.registers word new (port_own word h))
        (port_silent word k)

    alone : sound_word word ≡ false → ◌≡◌ {A = ℕ} (cond (no_room w.registers word new) 4 0)
        (word_number w.registers w.devices (clock_in w.sram) full word new)
    alone silent = rw (adds_none w.registers w.devices (clock_in w.sram) full word new silent)

-- ---- a write

-- 256 wait exactly where the ring is full
full_is : (q : Queue) → Canonical q → full_of q.ring ≡ eqb (length (waiting q)) 256
full_is q good =
    rw waiting_count
    (by_same q.ring.count 256
    (λ e. let l : 256 ≤ q.ring.count = omega arith in le-leb _ _ l ∙ sym (eq-eqb _ _ e))
    (λ n. let l : q.ring.count < 256 = omega (arith, good.most) in lt-leb _ _ l ∙ sym (ne_eqb _ _ n)))

module _ (m : Machine) (w : WithinLimits m) where
  write_order : (a n v : ℕ) → (step m (write a n v)).refusal ≡ refusal_of m (write a n v)
  unfolding step write_of reg_written refusal_of first_of given order
  write_order a n v =
      by_write (λ (x : Out). x.refusal ≡ refusal_of m (write a n v)) (world_in m) (full_of m.system.queue.ring) a n v
      (λ g. rw g) (λ o g e. rw (g, e)) (λ o g e. rw (g, e)) (λ o g e. rw (g, e))
      (λ g e. rw (g, e)
      (port_order (world_in m) (full_of m.system.queue.ring) (word_address a) _
      (new_word m.system.registers a n v) _ w.registers
      ∙ ap (λ (b : Bool). word_number m.system.registers m.system.devices (clock_in m.sram) b (word_address a)
      (new_word m.system.registers a n v))
      (full_is m.system.queue w.queue)))
      (λ g e. rw (g, e))

pub refused_in_order : (m : Machine) (o : Op) → WithinLimits m → (step m o).refusal ≡ refusal_of m o
unfolding step refusal_of first_of given order
refused_in_order m (read a n) w = read_order m a n
refused_in_order m (write a n v) w = write_order m w a n v
refused_in_order m (advance to) w = advance_order m to
refused_in_order m next_event w = next_order m
refused_in_order m pending w = refl
refused_in_order m (turbo to) w = turbo_order m to
refused_in_order m (live key down) w = live_order m key down
refused_in_order m (hold key until) w = hold_order m key until
refused_in_order m (press key at) w = press_order m key at
refused_in_order m take_event w = take_order m
refused_in_order m counters w = refl
refused_in_order m (pixel k) w = refl
refused_in_order m wipe w = refl
refused_in_order m (peek8 a) w = refl
refused_in_order m (peek32 a) w = refl
refused_in_order m (poke a bytes) w = refl
refused_in_order m keys_held w = refl
refused_in_order m irq_wanted w = refl
refused_in_order m carry_on w = refl
