-- The order of a tidy table, and what it tells of the place that a search ends at.
use Prim.Native.Nat.{ℕ, ◌<◌, ◌≤◌}
use mathlib.Core.Path.{◌≡◌, sym, ap, ◌∙◌}
use mathlib.Core.Bool.{true≢false}
use mathlib.Core.Logic.{◌≢◌}
use native.Mathlib.Omega.{arith}
use lib.ListN.{length, get_or, get_or-eq_default}
use Rattle.registers.specs.declared.Registers.{Registers}
use Rattle.registers.specs.Words.{unstored, place, Others, others_of, word_at}
use Rattle.registers.specs.Within.{Other, TidyOthers}
use Rattle.whole.proofs.Choice.{by_same, by_less}
use Rattle.registers.proofs.Search.{place_within, place_more, place_stops}
use Rattle.registers.proofs.Spots.{Here, Gone, read_present, read_absent, place_in}

pub not_zero : (a : ℕ) → Other a → a ≢ 0
unfolding unstored
not_zero a other e = true≢false (ap unstored (sym e) ∙ other.stored)

module _ (o : Others) (tidy : TidyOthers o) where
  pub falling : (i j : ℕ) → i ≤ j → get_or o.addresses j 0 ≤ get_or o.addresses i 0
  falling i j upto =
      by_same (get_or o.values j 0) 0
      (λ z. omega (arith, tidy.free j z))
      (λ some. by_same i j
      (λ e. omega (arith, ap (λ (k : ℕ). get_or o.addresses k 0) e))
      (λ n. omega (arith, tidy.falls i j (omega arith) some)))

  -- behind a free place all are free
  pub free_behind : (i j : ℕ) → i ≤ j → get_or o.values i 0 ≡ 0 → get_or o.values j 0 ≡ 0
  free_behind i j upto z =
      by_same (get_or o.values j 0) 0
      (λ e. e)
      (λ some. by_same i j
      (λ e. absurd (some (ap (λ (k : ℕ). get_or o.values k 0) (sym e) ∙ z)))
      (λ n. absurd (omega (arith, tidy.free i z, tidy.falls i j (omega arith) some))))

  -- no two places hold the same word
  pub once : (i j : ℕ) → get_or o.values i 0 ≢ 0 → get_or o.values j 0 ≢ 0
      → get_or o.addresses i 0 ≡ get_or o.addresses j 0 → i ≡ j
  once i j some_i some_j same =
      by_less i j
      (λ less. absurd (omega (arith, tidy.falls i j less some_j)))
      (λ most. by_same j i sym
      (λ n. absurd (omega (arith, tidy.falls j i (omega arith) some_i))))

  module _ (a : ℕ) (other : Other a) where
    -- a place that has a word's address holds a word, and is one of the places
    pub present : (i : ℕ) → get_or o.addresses i 0 ≡ a → get_or o.values i 0 ≢ 0
    present i e z = not_zero a other (sym e ∙ tidy.free i z)

    pub present_within : (i : ℕ) → get_or o.addresses i 0 ≡ a → i < 256
    present_within i e =
        by_less i 256 (λ less. less)
        (λ past.
        let out : length o.addresses ≤ i = omega (arith, tidy.addresses) in
        absurd (not_zero a other (sym e ∙ get_or-eq_default o.addresses 0 out)))

    -- where a word stands, a search ends
    pub place_is : (i : ℕ) → get_or o.addresses i 0 ≡ a → place o.addresses a ≡ i
    place_is i e =
        let p = place o.addresses a in
        by_less i p
        (λ less. absurd (omega (arith, place_more o.addresses a falling i less)))
        (λ most. by_same p i (λ q. q)
        (λ n.
        let less : p < i = omega arith in
        let short : p < 255 = omega (arith, present_within i e) in
        absurd (omega (arith, place_stops o.addresses a falling short, tidy.falls p i less (present i e)))))

  -- place i is where word a would stand
  pub record Gap (a i : ℕ) : Type 0 where
    pub within : i < 256
    pub above : (j : ℕ) → j < i → a < get_or o.addresses j 0
    pub below : (j : ℕ) → i ≤ j → get_or o.values j 0 ≢ 0 → get_or o.addresses j 0 < a

  -- where it does not stand and the last place is free, a search ends there
  pub gap : (a : ℕ) → Gone o.addresses a → get_or o.values 255 0 ≡ 0 → Gap a (place o.addresses a)
  gap a gone free = record {
    within = place_within o.addresses a falling;
    above = place_more o.addresses a falling;
    below = λ j from some.
        by_less j 255
        (λ less.
        let short : place o.addresses a < 255 = omega arith in
        let apart : get_or o.addresses (place o.addresses a) 0 ≢ a = gone in
        omega (arith, falling (place o.addresses a) j from, place_stops o.addresses a falling short))
        (λ most. absurd (some (free_behind 255 j most free)));
  }

-- ---- what is read

module _ (r : Registers) (tidy : TidyOthers (others_of r)) (a : ℕ) (other : Other a) where
  -- the word in a place is what its address reads
  pub word_is : (i : ℕ) → get_or r.addresses i 0 ≡ a → word_at r a ≡ get_or r.values i 0
  word_is i e =
      let here : place_in r a ≡ i = place_is (others_of r) tidy a other i e in
      read_present r a other (ap (λ (j : ℕ). get_or r.addresses j 0) here ∙ e)
      ∙ ap (λ (j : ℕ). get_or r.values j 0) here

  -- a word that stands in a place is not zero, and any other is
  pub some_present : Here r.addresses a → word_at r a ≢ 0
  some_present here z = present (others_of r) tidy a other (place_in r a) here (sym (read_present r a other here) ∙ z)

  pub word_absent : ((j : ℕ) → get_or r.addresses j 0 ≢ a) → word_at r a ≡ 0
  word_absent absent = read_absent r a other (absent (place_in r a))

  -- so it is nowhere, or in one place
  pub by_place : {A : Type 0}
      → ((i : ℕ) → get_or r.addresses i 0 ≡ a → A) → (((j : ℕ) → get_or r.addresses j 0 ≢ a) → A) → A
  by_place present_at absent =
      by_same (get_or r.addresses (place_in r a) 0) a
      (present_at (place_in r a))
      (λ gone. absent (λ j e.
      gone (ap (λ (k : ℕ). get_or r.addresses k 0) (place_is (others_of r) tidy a other j e) ∙ e)))
