-- A refusal answers zeros beside its number and leaves the machine as it was, for every machine and every operation.
use Prim.Native.Nat.{ℕ}
use mathlib.Core.Path.{◌≡◌, refl, ap}
use mathlib.Core.Bool.{Bool, false}
use mathlib.Core.List.{List}
use mathlib.Core.Logic.{◌≢◌, ◌⊎◌, inl, inr}
use lib.Dec.{eqb, leb}
use lib.Ieee.{Float}
use Rattle.std.specs.Prelude.{Err, Ok}
use Rattle.map.specs.Numbers.{DONE}
use Rattle.whole.specs.Limits.{good_time}
use Rattle.whole.proofs.Words.{either}
use Rattle.registers.specs.declared.Registers.{Registers}
use Rattle.registers.specs.declared.Effect.{Effect}
use Rattle.registers.specs.Words as words
use Rattle.registers.specs.Words.{put_word}
use Rattle.registers.proofs.Spots.{put_cases}
use Rattle.registers.proofs.Stays.{refused_stays}
use Rattle.memory.specs.declared.Place.{Place}
use Rattle.memory.specs.declared.Place.TheVariants.{Ram, Sram, Gpio, Register, Stray}
use Rattle.memory.specs.Places.{place_of}
use Rattle.memory.specs.Access.{good_size, written_of}
use Rattle.timer.specs.Events as events
use Rattle.timer.specs.Events.{full_of, TakeOutcome}
use Rattle.clock.specs.Times.{Moved}
use Rattle.clock.specs.Times.{Paced}
use Rattle.clock.specs.Times.{moved_of, paced_of}
use Rattle.keys.specs.Live as keys
use Rattle.keys.specs.Script as script
use Rattle.keys.proofs.Cases.{press_each}
use Rattle.time.specs.Next.{NextTime}
use Rattle.time.specs.Advance as move
use Rattle.time.specs.Next as next
use Rattle.state.specs.declared.Devices.{Devices}
use Rattle.bus.specs.World.{World, Out, out, OwnOut, own_out, answer}
use Rattle.bus.specs.Sounds.{sound_written}
use Rattle.bus.specs.Words.{adc_written, word_written}
use Rattle.bus.specs.Write as bus
use Rattle.bus.specs.Write.{stored_word, word_address, reg_written}
use Rattle.time.specs.Clocks.{clock_in}
use Rattle.bus.specs.Read as reads
use Rattle.bus.specs.Read.{ReadOut, read_at}
use Rattle.bus.proofs.Branches.{by_write, by_port, by_word_lem, by_sound, by_timer}
use Rattle.system.specs.System.{Machine, world_in, with_keys}
use Rattle.system.specs.Calls.{changed, reading, moving, read_of, writing, write_of, advance_of, next_of, pacing}
use Rattle.system.specs.Calls.{turbo_of, taking, take_of, live_of, hold_of, pressing, press_of}
use Rattle.system.specs.Steps.{Op, read, write, advance, next_event, pending, turbo, live, hold, press}
use Rattle.system.specs.Steps.{take_event, counters, pixel, wipe}
use Rattle.system.specs.Steps.{peek8, peek32, poke, keys_held, irq_wanted, carry_on, step, Outcome, plainly}
use Rattle.system.specs.Steps.{by_change}
use Rattle.system.specs.Steps.{by_read, by_left, by_move, by_next, by_taken}

-- ---- a word that is put

-- done, or RegistersFull
abbrev pub StoreNumber : ℕ → Type 0
StoreNumber n = (n ≡ 0) ⊎ (n ≡ 4)

pub put_number : (r : Registers) (a v : ℕ) → StoreNumber (put_word r a v).refusal
put_number r a v =
    put_cases r a v (λ (x : words.Outcome). StoreNumber x.refusal)
    (λ less. inl refl)
    (λ slot never. inl refl)
    (λ other here z. inl refl)
    (λ other here some. inl refl)
    (λ other gone z. inl refl)
    (λ other gone some free. inl refl)
    (λ other gone some full. inr refl)

-- ---- a write on the bus

-- what was answered left the own words and the devices as they were
abbrev SaidPlainly : List ℕ → Devices → OwnOut → Type 0
SaidPlainly slots d x = x.wrote.refusal ≢ DONE → x ≡ own_out slots (answer x.wrote.refusal d)

module _ (slots : List ℕ) (d : Devices) (clock : ℕ) (full : Bool) where
  sound_plain : (next : Devices) (word v : ℕ) → SaidPlainly slots d (sound_written slots d next clock full word v)
  sound_plain next word v =
      by_sound (SaidPlainly slots d) slots d clock full next word v (λ e h. refl) (λ e h. absurd (h refl))
      (λ tone e h. absurd (h refl))

  word_plain : (e : Effect) (word old new part : ℕ)
      → SaidPlainly slots d (word_written e slots d clock full word old new part)
  unfolding adc_written
  word_plain e word old new part =
      by_word_lem (SaidPlainly slots d) slots d clock full e word old new part
      (λ k. by_timer (SaidPlainly slots d) slots d clock full _ word old new _ refl (λ e. sound_plain _ word _)
      (λ e h. absurd (h refl)))
      (λ h. absurd (h refl)) (sound_plain d word new) (λ h. absurd (h refl)) (λ h. absurd (h refl))
      (λ h. absurd (h refl))
      (λ h. absurd (h refl)) (λ h. absurd (h refl))

-- the bus is as it was, and no event was made
abbrev BusPlainly : World → Out → Type 0
BusPlainly w x = x.refusal ≢ DONE → x ≡ out w x.refusal false

store_plain : (w : World) (word new : ℕ)
    → BusPlainly w (bus.by_store w (stored_word w.registers w.devices word new))
unfolding stored_word
store_plain w word new h = by (put_number w.registers word new)
  where
    same : (x : words.Outcome) → x.registers ≡ w.registers → bus.by_store w (bus.stored_outcome x w.devices) ≡ out w
        x.refusal false
    same x e = rw e

    by : StoreNumber (put_word w.registers word new).refusal
        → bus.by_store w (bus.stored_outcome (put_word w.registers word new) w.devices) ≡ out w
        (put_word w.registers word new).refusal false
    by (inl z) = absurd (h z)
    by (inr e) = same (put_word w.registers word new) (refused_stays w.registers word new e)

write_plain : (w : World) (full : Bool) (a n v : ℕ) → BusPlainly w (bus.write_of w full a n v)
unfolding reg_written
write_plain w full a n v =
    by_write (BusPlainly w) w full a n v (λ g h. refl) (λ o g e h. absurd (h refl)) (λ o g e h. absurd (h refl))
    (λ o g e h. absurd (h refl))
    (λ g e. by_port (BusPlainly w) w full (word_address a) _ _ _ (λ e h. absurd (h refl)) (λ e h. absurd (h refl))
    (λ e h. absurd (h refl))
    (λ e h. absurd (h refl))
    (λ x e h. ap (bus.by_word w) (word_plain w.registers.slots w.devices (clock_in w.sram) full x
    (word_address a) _ _ (written_of a n v) h))
    (λ p e s. store_plain w (word_address a) _))
    (λ g e h. refl)

-- ---- each operation

abbrev Plainly : Machine → Outcome → Type 0
Plainly m x = x.refusal ≢ DONE → x ≡ plainly m x.refusal

module _ (m : Machine) where
  read_plainly : (a n : ℕ) → Plainly m (step m (read a n))
  unfolding step read_of reads.read_of
  read_plainly a n = either In (good_size n) _ _ (at (place_of a)) (λ h. refl)
    where
      In : ReadOut → Type 0
      In x = Plainly m (by_read m (reading m.system x))

      at : (p : Place) → In (read_at p m.system.registers m.ram m.sram m.gpio m.system.devices a n)
      at (Ram o) h = absurd (h refl)
      at (Sram o) h = absurd (h refl)
      at (Gpio o) h = absurd (h refl)
      at Register h = absurd (h refl)
      at Stray h = absurd (h refl)

  write_plainly : (a n v : ℕ) → Plainly m (step m (write a n v))
  unfolding step write_of
  write_plainly a n v h = ap (λ (x : Out). by_left (writing m x))
      (write_plain (world_in m) (full_of m.system.queue.ring) a n v h)

  advance_plainly : (to : Float) → Plainly m (step m (advance to))
  unfolding step advance_of move.advance_of move.by_move move.moved_to
  advance_plainly to = by (moved_of m.system.devices.clocks.times to)
    where
      by : (x : Moved) → Plainly m (by_move m
          (moving m.system (move.by_move m.system.registers.slots m.gpio m.system.presses.starts
          m.system.presses.codes m.system.devices.clocks m.system.keys (clock_in m.sram) x)))
      by (Ok t) h = absurd (h refl)
      by (Err r) h = refl

  next_plainly : Plainly m (step m next_event)
  unfolding step next_of next.next_of next.answered
  next_plainly = either (λ (x : NextTime). Plainly m (by_next m x)) (next.finite _) _ _ (λ h. absurd (h refl))
      (λ h. refl)

  turbo_plainly : (to : Float) → Plainly m (step m (turbo to))
  unfolding step turbo_of
  turbo_plainly to = by (paced_of m.system.devices.clocks.times to)
    where
      by : (p : Paced) → Plainly m (by_change m (pacing m.system p))
      by (Ok t) h = absurd (h refl)
      by (Err r) h = refl

  take_plainly : Plainly m (step m take_event)
  unfolding step take_of events.take_of
  take_plainly =
      either (λ (x : TakeOutcome). Plainly m (by_taken m (taking m.system x)))
      (eqb m.system.queue.ring.count 0) _ _ (λ h. refl)
      (λ h. absurd (h refl))

  -- a live key or a tap
  abbrev LivePlainly : keys.Outcome → Type 0
  LivePlainly x = Plainly m (by_change m (changed x.refusal (with_keys m.system x.keys)))

  live_plainly : (key : ℕ) (down : Bool) → Plainly m (step m (live key down))
  unfolding step live_of keys.live_of
  live_plainly key down = either LivePlainly (leb key 2) _ _ (λ h. absurd (h refl)) (λ h. refl)

  hold_plainly : (key : ℕ) (until : Float) → Plainly m (step m (hold key until))
  unfolding step hold_of keys.hold_of
  hold_plainly key until =
      either LivePlainly (leb key 2) _ _ (either LivePlainly (good_time until) _ _ (λ h. absurd (h refl)) (λ h. refl))
      (λ h. refl)

  press_plainly : (key : ℕ) (at : Float) → Plainly m (step m (press key at))
  unfolding step press_of
  press_plainly key at =
      press_each _ key at _ (λ (x : script.Outcome). Plainly m (by_change m (pressing m.system x))) (λ h. refl)
      (λ h. refl) (λ h. refl)
      (λ k t l h. absurd (h refl))

-- A REFUSAL CHANGES NOTHING
pub refused_unchanged : (m : Machine) (o : Op) → (step m o).refusal ≢ DONE → step m o ≡ plainly m (step m o).refusal
unfolding step
refused_unchanged m (read a n) h = read_plainly m a n h
refused_unchanged m (write a n v) h = write_plainly m a n v h
refused_unchanged m (advance to) h = advance_plainly m to h
refused_unchanged m next_event h = next_plainly m h
refused_unchanged m pending h = absurd (h refl)
refused_unchanged m (turbo to) h = turbo_plainly m to h
refused_unchanged m (live key down) h = live_plainly m key down h
refused_unchanged m (hold key until) h = hold_plainly m key until h
refused_unchanged m (press key at) h = press_plainly m key at h
refused_unchanged m take_event h = take_plainly m h
refused_unchanged m counters h = absurd (h refl)
refused_unchanged m (pixel k) h = absurd (h refl)
refused_unchanged m wipe h = absurd (h refl)
refused_unchanged m (peek8 a) h = absurd (h refl)
refused_unchanged m (peek32 a) h = absurd (h refl)
refused_unchanged m (poke a bytes) h = absurd (h refl)
refused_unchanged m keys_held h = absurd (h refl)
refused_unchanged m irq_wanted h = absurd (h refl)
refused_unchanged m carry_on h = absurd (h refl)
