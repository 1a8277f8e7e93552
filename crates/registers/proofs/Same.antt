-- Tidy registers that read the same are the same.
use Prim.Native.Nat.{ℕ, zero, suc, ◌<◌, ◌≤◌}
use mathlib.Core.Path.{◌≡◌, refl, sym, ap, ◌∙◌}
use mathlib.Core.List.{List}
use native.Mathlib.Omega.{arith}
use lib.ListN.{length, get_or}
use lib.Seq.{ext_get_or}
use Rattle.registers.specs.declared.Registers.{Registers}
use Rattle.registers.specs.Words.{own_at, registers_of, others_of, word_at}
use Rattle.registers.specs.Ports.{slot_of, slot_word}
use Rattle.registers.specs.Within.{Other, TidyOthers, Tidy}
use Rattle.whole.proofs.Choice.{by_same, by_less}
use Rattle.registers.proofs.Own.{own_word}
use Rattle.registers.proofs.Slots.{slot_back}
use Rattle.registers.proofs.Order.{not_zero, falling, word_is, word_absent, by_place}

-- ---- the others

module _ (r s : Registers) (tidy : TidyOthers (others_of r)) (tidy_s : TidyOthers (others_of s))
    (reads : (a : ℕ) → Other a → word_at r a ≡ word_at s a) where
  -- what stands in a place stands there in the other table or behind it, where all is the same before it
  upto : (i : ℕ) → ((j : ℕ) → j < i → get_or r.addresses j 0 ≡ get_or s.addresses j 0)
      → get_or r.addresses i 0 ≤ get_or s.addresses i 0
  upto i before =
      by_same (get_or r.values i 0) 0
      (λ z. omega (arith, tidy.free i z))
      (λ some.
      let a = get_or r.addresses i 0 in
      let other = tidy.belongs i some in
      by_place s tidy_s a other
      (λ j e. by_less j i
      (λ less. absurd (omega (arith, before j less, tidy.falls j i less some)))
      (λ from. omega (arith, falling (others_of s) tidy_s i j from)))
      (λ absent.
      absurd (some (sym (word_is r tidy a other i refl) ∙ reads a other ∙ word_absent s tidy_s a other absent))))

-- the words that the addresses tell
values_same : (r s : Registers) → TidyOthers (others_of r) → TidyOthers (others_of s)
    → ((a : ℕ) → Other a → word_at r a ≡ word_at s a)
    → ((i : ℕ) → get_or r.addresses i 0 ≡ get_or s.addresses i 0)
    → (i : ℕ) → get_or r.values i 0 ≡ get_or s.values i 0
values_same r s tidy tidy_s reads addresses i =
    by_same (get_or r.values i 0) 0
    (λ z. by_same (get_or s.values i 0) 0
    (λ y. z ∙ sym y)
    (λ some.
    absurd (not_zero (get_or s.addresses i 0) (tidy_s.belongs i some) (sym (addresses i) ∙ tidy.free i z))))
    (λ some.
    let a = get_or r.addresses i 0 in
    let other = tidy.belongs i some in
    sym (word_is r tidy a other i refl) ∙ reads a other ∙ word_is s tidy_s a other i (sym (addresses i)))

module _ (r s : Registers) (tidy : TidyOthers (others_of r)) (tidy_s : TidyOthers (others_of s))
    (reads : (a : ℕ) → Other a → word_at r a ≡ word_at s a) where
  addresses_below : (n j : ℕ) → j < n → get_or r.addresses j 0 ≡ get_or s.addresses j 0
  addresses_below zero j less = absurd (omega arith)
  addresses_below (suc n) j less =
      by_less j n
      (addresses_below n j)
      (λ most.
      let last : j ≡ n = omega arith in
      let there = upto r s tidy tidy_s reads n (addresses_below n) in
      let back =
      upto s r tidy_s tidy (λ a other. sym (reads a other)) n (λ k below. sym (addresses_below n k below)) in
      rw last (omega arith))

  addresses_same : (i : ℕ) → get_or r.addresses i 0 ≡ get_or s.addresses i 0
  addresses_same i = addresses_below (suc i) i (omega arith)

-- ---- the own words

own_same : (r s : Registers) → length r.slots ≡ 76 → length s.slots ≡ 76
    → ((a : ℕ) → word_at r a ≡ word_at s a) → r.slots ≡ s.slots
unfolding own_at
own_same r s size size_s reads =
    ext_get_or 0 r.slots s.slots (size ∙ sym size_s)
    (λ i less.
    let a = slot_word i in
    let here : slot_of a ≡ i = slot_back i (omega arith) in
    let slots : slot_of a < 76 = omega arith in
    ap (λ (k : ℕ). get_or r.slots k 0) (sym here)
    ∙ sym (own_word r a slots)
    ∙ reads a
    ∙ own_word s a slots
    ∙ ap (λ (k : ℕ). get_or s.slots k 0) here)

-- ---- all

pub same_words : (r s : Registers) → Tidy r → Tidy s → ((a : ℕ) → word_at r a ≡ word_at s a) → r ≡ s
same_words r s tidy tidy_s reads =
    whole
    (own_same r s tidy.slots tidy_s.slots reads)
    (ext_get_or 0 r.addresses s.addresses (tidy.others.addresses ∙ sym tidy_s.others.addresses)
    (λ i less. addresses i))
    (ext_get_or 0 r.values s.values (tidy.others.values ∙ sym tidy_s.others.values)
    (λ i less. values_same r s tidy.others tidy_s.others (λ a other. reads a) addresses i))
  where
    addresses : (i : ℕ) → get_or r.addresses i 0 ≡ get_or s.addresses i 0
    addresses = addresses_same r s tidy.others tidy_s.others (λ a other. reads a)

    whole : {a b c d e f : List ℕ} → a ≡ b → c ≡ d → e ≡ f → registers_of a c e ≡ registers_of b d f
    whole p q o = cc
