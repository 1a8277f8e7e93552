-- The other words of a good session are within the limits.
use Prim.Native.Nat.{ℕ, suc, ◌+◌, ◌-◌, ◌*◌, ◌%◌, ◌≤◌, ◌<◌}
use mathlib.Core.Path.{◌≡◌, refl, sym, subst, ◌∙◌}
use mathlib.Core.Logic.{◌≢◌}
use mathlib.Core.Bool.{Bool, true, false, ◌&&◌, not, true≢false}
use mathlib.Core.List.{List}
use native.Mathlib.Omega.{arith}
use lib.Dec.{T, eqb}
use lib.Ieee.{Float, nan, inf, fin}
use lib.ListN.{get_or, get_or-eq_default}
use borrow.Author.Tests.{eqb-true, leb-true, not-true, ne_eqb}
use Rattle.memory.specs.declared.Place.{Place}
use Rattle.memory.specs.declared.Place.TheVariants.{Ram, Sram, Gpio, Register, Stray}
use Rattle.memory.specs.Places.{place_of}
use Rattle.whole.specs.Bounds.{AtMost}
use Rattle.whole.specs.Limits.{up_to}
use Rattle.whole.specs.Rows.{tabled}
use Rattle.whole.proofs.Choice.{by_less, both as apart}
use Rattle.whole.proofs.Rows.{length_tabled}
use Rattle.registers.specs.Ports.{slot_of, day_word}
use Rattle.registers.specs.Words.{unstored, others}
use Rattle.registers.specs.Within.{Other, TidyOthers, EachOther}
use Rattle.system.specs.Refusals.{is_register}
use Rattle.system.specs.Limits.{RegisterWord}
use Rattle.session.specs.Fields.{number}
use Rattle.session.specs.Layout.{others_at}
use Rattle.session.specs.Read.{place_in, places_in}
use Rattle.session.specs.Good.{other_word, last_at, good_other}
use Rattle.session.proofs.Facts.{other_apart, Body}
use Rattle.keeping.proofs.Tables.{place_at, place_free}

-- ---- tests that hold

pub holds : {b : Bool} → b ≡ true → T b
holds h = subst T (sym h) tt

pub up_limit : (n : ℕ) (x : Float) → up_to n x ≡ true → AtMost x n
up_limit n nan h = absurd (true≢false (sym h))
up_limit n (inf b) h = absurd (true≢false (sym h))
up_limit n (fin true m e) h = absurd (true≢false (sym h))
up_limit n (fin false m e) h = leb-true _ _ h

register_place : (p : Place) → is_register p ≡ true → p ≡ Register
register_place (Ram o) h = absurd (true≢false (sym h))
register_place (Sram o) h = absurd (true≢false (sym h))
register_place (Gpio o) h = absurd (true≢false (sym h))
register_place Register h = refl
register_place Stray h = absurd (true≢false (sym h))

-- ---- other words

module _ (a : ℕ) (h : other_word a ≡ true) where
  other_tests : (eqb (slot_of a) 76 && not (day_word a) ≡ true) × (eqb (a % 4) 0 && is_register (place_of a) ≡ true)
  unfolding other_word
  other_tests = apart (eqb (slot_of a) 76 && not (day_word a)) (eqb (a % 4) 0 && is_register (place_of a)) h

  pub word_other : a ≢ 0 → Other a
  unfolding unstored
  word_other some =
      let t = apart (eqb (slot_of a) 76) (not (day_word a)) other_tests.0 in
      record { slot = eqb-true (slot_of a) 76 t.0; stored = rw (ne_eqb a 0 some) (not-true (day_word a) t.1) }

  pub word_register : RegisterWord a
  word_register =
      let t = apart (eqb (a % 4) 0) (is_register (place_of a)) other_tests.1 in
      record { register = register_place (place_of a) t.1; aligned = eqb-true (a % 4) 0 t.0 }

module _ (s : List ℕ) (n k e : ℕ) (most : n ≤ 256) (b : Body s n k e) where
  abbrev address : ℕ → ℕ
  address j = number s (366 + 8 * j) 4

  abbrev value : ℕ → ℕ
  value j = number s (370 + 8 * j) 4

  entry : (j : ℕ) → j < n → (value j ≢ 0) × (last_at s j < address j) × (other_word (address j) ≡ true)
  entry j below =
      let p : others_at + 8 * j + 4 ≡ 370 + 8 * j = omega arith in
      other_apart _ _ _
      (subst (λ (i : ℕ). good_other (last_at s j) (address j) (number s i 4) ≡ true) p (b.others j below))

  rising : (i j : ℕ) → i < j → j < n → address i < address j
  unfolding last_at
  rising i Prim.Native.Nat.zero less below = elim less [ ]
  rising i (suc j) less below =
      let next : address j < address (suc j) = (entry (suc j) below).1 in
      by_less i j
      (λ before. let h = rising i j before (omega arith) in omega arith)
      (λ last.
      let same : i ≡ j = omega arith in
      subst (λ (h : ℕ). address h < address (suc j)) (sym same) next)

  abbrev addresses : List ℕ
  addresses = places_in s 366 n

  abbrev values : List ℕ
  values = places_in s 370 n

  -- a place past the last
  past : (at i : ℕ) → n ≤ i → get_or (places_in s at n) i 0 ≡ 0
  unfolding places_in
  past at i least =
      by_less i 256
      (λ less. place_free s at n i least less)
      (λ over. get_or-eq_default (tabled (λ i. place_in s at n i) 256) 0
      (let size = length_tabled (λ i. place_in s at n i) 256 in omega arith))

  -- what is not zero stands before it
  used : (i : ℕ) → get_or values i 0 ≢ 0 → i < n
  used i some = by_less i n (λ less. less) (λ least. absurd (some (past 370 i least)))

  word_at : (i : ℕ) → i < n → get_or addresses i 0 ≡ address (n - 1 - i)
  word_at i below = place_at s 366 n i below most

  pub read_tidy : TidyOthers (others addresses values)
  unfolding places_in
  read_tidy = record {
    addresses = length_tabled (λ i. place_in s 366 n i) 256;
    values = length_tabled (λ i. place_in s 370 n i) 256;
    free = λ i zero_at. by_less i n
        (λ less. absurd ((entry (n - 1 - i) (omega arith)).0 (sym (place_at s 370 n i less most) ∙ zero_at)))
        (λ least. past 366 i least);
    belongs = λ i some.
        let less = used i some in
        let t = entry (n - 1 - i) (omega arith) in
        subst Other (sym (word_at i less)) (word_other (address (n - 1 - i)) t.2 (λ z. let u = t.1 in omega arith));
    falls = λ i j less some.
        let below = used j some in
        let p = word_at i (omega arith) in
        let q = word_at j below in
        let r = rising (n - 1 - j) (n - 1 - i) (omega arith) (omega arith) in
        omega arith;
  }

  pub read_registers : EachOther RegisterWord (others addresses values)
  read_registers i some =
      let less = used i some in
      subst RegisterWord (sym (word_at i less))
      (word_register (address (n - 1 - i)) (entry (n - 1 - i) (omega arith)).2)
