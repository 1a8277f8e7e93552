-- The branches of the definitions, each with the fact that leads to it.
use Prim.Native.Nat.{ℕ, zero, suc, ◌+◌, ◌-◌, ◌*◌, ◌/◌, ◌%◌, ◌≤◌, ◌<◌}
use mathlib.Core.Path.{◌≡◌, refl, sym, ap, ◌∙◌}
use mathlib.Core.Bool.{true, false}
use mathlib.Core.List.{List, [], ◌∷◌, ◌++◌}
use mathlib.Core.Logic.{◌≢◌}
use native.Mathlib.Omega.{arith}
use lib.ListN.{length, get_or, set}
use borrow.Author.Tests.{eq-eqb, ne_eqb, lt-ltb, le-ltb}
use Rattle.map.specs.Numbers.{TIMER_BASE, TIMER_END, DONE, REGISTERS_FULL}
use Rattle.registers.specs.declared.Spot.TheVariants.{Own, Never, Present, Absent}
use Rattle.registers.specs.Words.{unstored}
use Rattle.registers.specs.Ports.{words_from, named_words, own_words, index, slot_of}
use Rattle.registers.specs.Words.{place, other_spot, spot_of}
use Rattle.registers.specs.Words.{removed_to, inserted_to, Others, others, end_of, put_present}
use Rattle.registers.specs.Words.{other_outcome, put_absent}

-- ---- the slot of a word

-- none of a list's keys is a
abbrev pub Missed : ℕ → List ℕ → Type 0 → Type 0
Missed a [] P = P
Missed a (x ∷ xs) P = Missed a xs (P × (a ≢ x))

missed_before : (a : ℕ) (l : List ℕ) (P : Type 0) → Missed a l P → P
missed_before a [] P m = m
missed_before a (x ∷ xs) P m = (missed_before a xs (P × (a ≢ x)) m).0

pub index_missed : (a : ℕ) (l : List ℕ) (P : Type 0) → Missed a l P → index l a ≡ length l
unfolding index
index_missed a [] P m = refl
index_missed a (x ∷ xs) P m =
    let other : x ≢ a = λ e. (missed_before a xs (P × (a ≢ x)) m).1 (sym e) in
    rw (ne_eqb x a other, index_missed a xs (P × (a ≢ x)) m)

-- n numbers from a on
abbrev pub count_from : ℕ → ℕ → List ℕ
count_from zero a = []
count_from (suc n) a = a ∷ count_from n (suc a)

pub past_missed : (n a s : ℕ) (P : Type 0) → a ≤ s → Missed s (count_from n a) P → n + a ≤ s
past_missed zero a s P h m = omega arith
past_missed (suc n) a s P h m =
    let other : s ≢ a = (missed_before s (count_from n (suc a)) (P × (s ≢ a)) m).1 in
    let rest = past_missed n (suc a) s (P × (s ≢ a)) (omega arith) m in
    omega arith

-- the slots after the timers'
index_after : (a : ℕ) (n from : ℕ) (l : List ℕ) → ((i : ℕ) → i < n → from + 4 * i ≢ a)
    → index (words_from n from ++ l) a ≡ n + index l a
unfolding index words_from
index_after a zero from l none = omega arith
index_after a (suc n) from l none =
    let first : from ≢ a = λ e. none 0 (omega arith) (omega arith) in
    let rest = index_after a n (from + 4) l (λ i less e. none (i + 1) (omega arith) (omega arith)) in
    rw (ne_eqb from a first, rest) (omega arith)

-- the i-th timer word's slot is i
index_timer : (i n from : ℕ) (l : List ℕ) → i < n → index (words_from n from ++ l) (from + 4 * i) ≡ i
unfolding index words_from
index_timer i zero from l less = absurd (omega arith)
index_timer zero (suc n) from l less = rw (eq-eqb from (from + 4 * 0) (omega arith))
index_timer (suc i) (suc n) from l less =
    let other : from ≢ from + 4 * suc i = λ e. omega arith in
    let next : from + 4 * suc i ≡ from + 4 + 4 * i = omega arith in
    rw (ne_eqb from (from + 4 * suc i) other)
    (ap suc (ap (index (words_from n (from + 4) ++ l)) next ∙ index_timer i n (from + 4) l (omega arith)))

module _ (a : ℕ) where
  slot_named : ((i : ℕ) → i < 48 → TIMER_BASE + 4 * i ≢ a) → 48 + index named_words a ≡ slot_of a
  unfolding slot_of own_words
  slot_named none = sym (index_after a 48 TIMER_BASE named_words none)

  pub slot_below : a < TIMER_BASE → 48 + index named_words a ≡ slot_of a
  slot_below below = slot_named (λ i less e. omega arith)

  pub slot_above : TIMER_END ≤ a → 48 + index named_words a ≡ slot_of a
  slot_above above = slot_named (λ i less e. omega arith)

  pub slot_askew : a % 4 ≢ 0 → 48 + index named_words a ≡ slot_of a
  slot_askew askew = slot_named (λ i less e. askew (omega arith))

pub timer_slot : (i : ℕ) → i < 48 → slot_of (TIMER_BASE + 4 * i) ≡ i
unfolding slot_of own_words
timer_slot i less = index_timer i 48 TIMER_BASE named_words less

pub slot_timer : (a : ℕ) → TIMER_BASE ≤ a → a < TIMER_END → a % 4 ≡ 0 → (a - TIMER_BASE) / 4 ≡ slot_of a
slot_timer a from to even =
    let less : (a - TIMER_BASE) / 4 < 48 = omega arith in
    let here : TIMER_BASE + 4 * ((a - TIMER_BASE) / 4) ≡ a = omega arith in
    sym (timer_slot ((a - TIMER_BASE) / 4) less) ∙ ap slot_of here

-- ---- where a word is; s and i are the slot and the place that were computed
module _ (l : List ℕ) (a s : ℕ) (e : s ≡ slot_of a) where
  pub spot_own : s < 76 → Own s ≡ spot_of l a
  unfolding spot_of
  spot_own h = rw (← e, lt-ltb _ _ h)

  pub spot_other : 76 ≤ s → other_spot l a ≡ spot_of l a
  unfolding spot_of
  spot_other h = rw (← e, le-ltb _ _ h)

module _ (l : List ℕ) (a : ℕ) where
  pub other_never : unstored a ≡ true → Never ≡ other_spot l a
  unfolding other_spot
  other_never u = rw u

  module _ (i : ℕ) (f : i ≡ place l a) (u : unstored a ≡ false) where
    pub other_present : get_or l i 0 ≡ a → Present i ≡ other_spot l a
    unfolding other_spot
    other_present here = rw (u, ← f, eq-eqb _ _ here)

    pub other_absent : get_or l i 0 ≢ a → Absent i ≡ other_spot l a
    unfolding other_spot
    other_absent none = rw (u, ← f, ne_eqb _ _ none)

-- ---- what is put there; p and q are the addresses and values that were stored
module _ (o : Others) (i v : ℕ) where
  pub present_zero : (n : ℕ) (p q : List ℕ) → v ≡ 0 → n ≡ end_of o i
      → p ≡ removed_to n o.addresses i → q ≡ removed_to n o.values i → others p q ≡ put_present o i v
  unfolding put_present
  present_zero n p q z e f g = rw (eq-eqb _ _ z, f, g, e)

  pub present_some : (q : List ℕ) → v ≢ 0 → q ≡ set o.values i v → others o.addresses q ≡ put_present o i v
  unfolding put_present
  present_some q n g = rw (ne_eqb _ _ n, g)

  module _ (a : ℕ) where
    pub absent_zero : v ≡ 0 → other_outcome DONE o ≡ put_absent o i a v
    unfolding put_absent
    absent_zero z = rw (eq-eqb _ _ z)

    pub absent_full : v ≢ 0 → get_or o.values 255 0 ≢ 0 → other_outcome REGISTERS_FULL o ≡ put_absent o i a v
    unfolding put_absent
    absent_full n full = rw (ne_eqb _ _ n, ne_eqb _ _ full)

    pub absent_room : (n : ℕ) (p q : List ℕ) → v ≢ 0 → get_or o.values 255 0 ≡ 0 → n ≡ end_of o i
        → p ≡ inserted_to n o.addresses i a → q ≡ inserted_to n o.values i v
        → other_outcome DONE (others p q) ≡ put_absent o i a v
    unfolding put_absent
    absent_room n p q some free e f g = rw (ne_eqb _ _ some, eq-eqb _ _ free, f, g, e)
