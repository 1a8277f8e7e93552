-- Where a word is, and what is read and put there, case by case.
use Prim.Native.Nat.{ℕ, ◌<◌, ◌≤◌}
use mathlib.Core.Path.{◌≡◌, refl, subst, ◌∙◌}
use mathlib.Core.Bool.{true}
use mathlib.Core.List.{List}
use mathlib.Core.Logic.{◌≢◌}
use native.Mathlib.Omega.{arith}
use lib.ListN.{get_or, set}
use Rattle.map.specs.Numbers.{DONE, REGISTERS_FULL}
use Rattle.registers.specs.declared.Registers.{Registers}
use Rattle.registers.specs.declared.Spot.{Spot}
use Rattle.registers.specs.declared.Spot.TheVariants.{Own, Never, Present, Absent}
use Rattle.registers.specs.Words.{own_with, unstored, place, spot_of, removed_to, inserted_to, end_of}
use Rattle.registers.specs.Ports.{slot_of}
use Rattle.registers.specs.Words.{Others, OtherOutcome, other_outcome, registers_of, others_of}
use Rattle.registers.specs.Words.{word_at, Outcome, outcome, beside, put_in, put_word}
use Rattle.registers.specs.Within.{Other}
use Rattle.registers.proofs.Cases.{spot_own, spot_other, other_never, other_present, other_absent}
use Rattle.registers.proofs.Cases.{present_zero, present_some, absent_zero, absent_full, absent_room}
use Rattle.whole.proofs.Choice.{by_test, by_same}
use Rattle.registers.proofs.Own.{by_slot}

-- the word stands in the place that a search ends at, or does not
abbrev pub Here : List ℕ → ℕ → Type 0
Here l a = get_or l (place l a) 0 ≡ a

abbrev pub Gone : List ℕ → ℕ → Type 0
Gone l a = get_or l (place l a) 0 ≢ a

module _ (l : List ℕ) (a : ℕ) where
  none_own : slot_of a ≡ 76 → 76 ≤ slot_of a
  none_own none = omega arith

  never_spot : slot_of a ≡ 76 → unstored a ≡ true → Never ≡ spot_of l a
  never_spot none u = other_never l a u ∙ spot_other l a (slot_of a) refl (none_own none)

  pub present_spot : Other a → Here l a → Present (place l a) ≡ spot_of l a
  present_spot other here =
      other_present l a (place l a) refl other.stored here ∙ spot_other l a (slot_of a) refl (none_own other.slot)

  pub absent_spot : Other a → Gone l a → Absent (place l a) ≡ spot_of l a
  absent_spot other gone =
      other_absent l a (place l a) refl other.stored gone ∙ spot_other l a (slot_of a) refl (none_own other.slot)

-- a word has storage of its own, is never stored, or is one of the others
pub by_kind : {A : Type 0} (a : ℕ)
    → (slot_of a < 76 → A) → (slot_of a ≡ 76 → unstored a ≡ true → A) → (Other a → A) → A
by_kind a own never other =
    by_slot a own (λ none. by_test (unstored a) (never none) (λ u. other (record { slot = none; stored = u })))

pub by_spot : (l : List ℕ) (a : ℕ) (P : Spot → Type 0) → (slot_of a < 76 → P (Own (slot_of a)))
    → (slot_of a ≡ 76 → unstored a ≡ true → P Never)
    → (Other a → Here l a → P (Present (place l a)))
    → (Other a → Gone l a → P (Absent (place l a)))
    → P (spot_of l a)
by_spot l a P own never present absent =
    by_kind a
    (λ less. subst P (spot_own l a (slot_of a) refl less) (own less))
    (λ none u. subst P (never_spot l a none u) (never none u))
    (λ other. by_same (get_or l (place l a) 0) a
    (λ here. subst P (present_spot l a other here) (present other here))
    (λ gone. subst P (absent_spot l a other gone) (absent other gone)))

-- ---- what is read

module _ (r : Registers) (a : ℕ) where
  pub read_never : slot_of a ≡ 76 → unstored a ≡ true → word_at r a ≡ 0
  unfolding word_at
  read_never none u = rw (← never_spot r.addresses a none u)

  pub read_present : Other a → Here r.addresses a → word_at r a ≡ get_or r.values (place r.addresses a) 0
  unfolding word_at
  read_present other here = rw (← present_spot r.addresses a other here)

  pub read_absent : Other a → Gone r.addresses a → word_at r a ≡ 0
  unfolding word_at
  read_absent other gone = rw (← absent_spot r.addresses a other gone)

-- ---- what is put

-- the place that a search ends at
abbrev pub place_in : Registers → ℕ → ℕ
place_in r a = place r.addresses a

-- place i is given back, set, or taken
abbrev pub moved_up : Registers → ℕ → Registers
moved_up r i =
    registers_of r.slots
    (removed_to (end_of (others_of r) i) r.addresses i)
    (removed_to (end_of (others_of r) i) r.values i)

abbrev pub set_in : Registers → ℕ → ℕ → Registers
set_in r i v = registers_of r.slots r.addresses (set r.values i v)

abbrev pub moved_down : Registers → ℕ → ℕ → ℕ → Registers
moved_down r i a v =
    registers_of r.slots
    (inserted_to (end_of (others_of r) i) r.addresses i a)
    (inserted_to (end_of (others_of r) i) r.values i v)

pub put_never : (r : Registers) (a v : ℕ) → slot_of a ≡ 76 → unstored a ≡ true → put_word r a v ≡ outcome DONE r
unfolding put_word
put_never r a v none u = rw (← never_spot r.addresses a none u)

-- an own word is stored, nothing is, a place is given back, set, not needed or taken, or there is no room
abbrev pub PutCases : Registers → ℕ → ℕ → Registers → Registers → (Outcome → Type 0) → Type 0
PutCases r a v back taken P =
    (slot_of a < 76 → P (outcome DONE (registers_of (own_with r.slots a v) r.addresses r.values)))
    → (slot_of a ≡ 76 → unstored a ≡ true → P (outcome DONE r))
    → (Other a → Here r.addresses a → v ≡ 0 → P (outcome DONE back))
    → (Other a → Here r.addresses a → v ≢ 0 → P (outcome DONE (set_in r (place_in r a) v)))
    → (Other a → Gone r.addresses a → v ≡ 0 → P (outcome DONE r))
    → (Other a → Gone r.addresses a → v ≢ 0 → get_or r.values 255 0 ≡ 0 → P (outcome DONE taken))
    → (Other a → Gone r.addresses a → v ≢ 0 → get_or r.values 255 0 ≢ 0 → P (outcome REGISTERS_FULL r))
    → P (put_word r a v)

module _ (r : Registers) (a v : ℕ) (P : Outcome → Type 0) where
  pub put_cases : PutCases r a v (moved_up r (place_in r a)) (moved_down r (place_in r a) a v) P
  unfolding put_word own_with
  put_cases own never back set none taken full =
      by_spot r.addresses a (λ (s : Spot). P (put_in r s a v))
      own
      never
      (λ other here. by_same v 0
      (λ z. subst InPresent (present_zero (others_of r) (place_in r a) v _ _ _ z refl refl refl) (back other here z))
      (λ n. subst InPresent (present_some (others_of r) (place_in r a) v _ n refl) (set other here n)))
      (λ other gone. by_same v 0
      (λ z. subst InAbsent (absent_zero (others_of r) (place_in r a) v a z) (none other gone z))
      (λ n. by_same (get_or r.values 255 0) 0
      (λ free.
      let room = absent_room (others_of r) (place_in r a) v a _ _ _ n free refl refl refl in
      subst InAbsent room (taken other gone n free))
      (λ last. subst InAbsent (absent_full (others_of r) (place_in r a) v a n last) (full other gone n last))))
    where
      InPresent : Others → Type 0
      InPresent x = P (beside r.slots (other_outcome DONE x))

      InAbsent : OtherOutcome → Type 0
      InAbsent x = P (beside r.slots x)
