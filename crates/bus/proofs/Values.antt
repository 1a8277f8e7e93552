-- What a word reads as, and what its reading leaves: by its slot, or where it has none.
use Prim.Native.Nat.{ℕ, ◌/◌, ◌<◌, ◌≤◌}
use mathlib.Core.Path.{◌≡◌, refl, ap, ◌∙◌}
use mathlib.Core.Bool.{Bool, true, false, cond}
use mathlib.Core.List.{List}
use native.Mathlib.Omega.{arith}
use lib.ListN.{get_or}
use Rattle.registers.specs.declared.Registers.{Registers}
use Rattle.registers.specs.declared.Spot.{Spot}
use Rattle.registers.specs.declared.Effect.{Effect}
use Rattle.registers.specs.declared.Effect.TheVariants.{TimerControl, DayField}
use Rattle.registers.specs.declared.View.{View}
use Rattle.registers.specs.declared.View.TheVariants.{TimerCounter}
use Rattle.registers.specs.declared.Port.{Port}
use Rattle.registers.specs.declared.Port.TheVariants.{Acts, Shows, Other}
use Rattle.registers.specs.Ports.{slot_of, slot_word, port_at, day_word, field_of}
use Rattle.registers.specs.Words.{other_spot, word_in, word_at}
use Rattle.registers.proofs.Cases.{spot_other}
use Rattle.registers.proofs.Slots.{port_slot, port_none, slot_no_day, slot_timers, slot_timer_of, timers}
use Rattle.state.specs.declared.Clocks.{Clocks}
use Rattle.state.specs.declared.Devices.{Devices}
use Rattle.bus.specs.Read.{day_read, timer_read, counter_read, Given, given, acting_value, view_of, read_by, word_read}
use Rattle.bus.specs.Inner.{other_value}

-- ---- a word in its own storage; s is its slot, p its port

module _ (slots : List ℕ) (d : Devices) (clock s : ℕ) {old : ℕ} (h : s < 76) (o : old ≡ get_or slots s 0) where
  pub read_as : (p : Port) {x : Given} → p ≡ port_at s → x ≡ read_by p slots d clock (slot_word s) old
      → x ≡ word_read slots d clock (slot_word s) (get_or slots s 0)
  unfolding word_read
  read_as p e k = rw (port_slot s h, ← e, ← o) k

module _ (s : ℕ) (h : s < 76) where
  pub acting_timer : (c : Clocks) (old : ℕ) {e : Effect} {v : ℕ} → port_at s ≡ Acts e → e ≡ TimerControl
      → v ≡ timer_read c (s / 8) old → v ≡ acting_value e c (slot_word s) old
  acting_timer c old p k i =
      rw (k, slot_timer_of s h (ap timers (p ∙ ap Acts k))) i

  pub acting_no_day : {e : Effect} → port_at s ≡ Acts e → e ≡ DayField → ⊥
  acting_no_day p k = slot_no_day s h (p ∙ ap Acts k)

  pub view_counter : (slots : List ℕ) (d : Devices) (clock old : ℕ) {w : View} {v l : ℕ} → port_at s ≡ Shows w
      → w ≡ TimerCounter → l ≡ clock → v ≡ counter_read slots d.clocks l (s / 8) old
      → given slots v ≡ view_of w slots d clock (slot_word s) old
  view_counter slots d clock old p k j i =
      rw (k, slot_timer_of s h (ap timers (p ∙ ap Shows k)), ← j, i)

  -- a counter's slot is one of the timers'
  pub counter_slot : {w : View} → port_at s ≡ Shows w → w ≡ TimerCounter → s / 8 < 6
  counter_slot p k = let l = slot_timers s h (ap timers (p ∙ ap Shows k)) in omega arith

-- ---- a word that has none

module _ (r : Registers) (d : Devices) (clock word : ℕ) (none : slot_of word ≡ 76) where
  pub other_reads : word_read r.slots d clock word (word_at r word) ≡ given r.slots (other_value r d.clocks word)
  unfolding word_read other_value
  other_reads = rw (port_none word none) (by (day_word word))
    where
      by : (b : Bool) → read_by (cond b (Acts DayField) Other) r.slots d clock word (word_at r word)
          ≡ given r.slots (cond b (day_read d.clocks (field_of word)) (word_at r word))
      by true = refl
      by false = refl

  module _ {b : Bool} (e : b ≡ day_word word) where
    pub other_field : {f v : ℕ} → b ≡ true → f ≡ field_of word → v ≡ day_read d.clocks f
        → v ≡ other_value r d.clocks word
    unfolding other_value
    other_field t g k = rw (← e, t, ← g) k

    pub other_present : {v : ℕ} {x : Spot} → b ≡ false → x ≡ other_spot r.addresses word
        → v ≡ word_in r.slots r.values x → v ≡ other_value r d.clocks word
    unfolding other_value word_at
    other_present t i k =
        let out : 76 ≤ slot_of word = omega arith in
        rw (← e, t, ← spot_other r.addresses word (slot_of word) refl out, ← i) k
