-- Loops over tables: what holds of each row, the row before another, and one that fills a list.
use Prim.Native.Nat.{ℕ, zero, suc, ◌+◌, ◌-◌, ◌*◌, ◌≤◌, ◌<◌}
use mathlib.Core.Path.{◌≡◌, refl, sym, ap, ◌∙◌}
use mathlib.Core.Logic.{◌≢◌}
use mathlib.Core.Bool.{Bool, true, false, cond, ◌&&◌}
use Rattle.std.proofs.Common.{ltb, eqb, get_or, replicate, length-set}
use Rattle.std.proofs.lemmas.List.{get_or-replicate, length-replicate, get_or-set_same, get_or-set_other}
use borrow.Author.Tests.{ltb-true, ltb-false, lt-ltb, le-ltb, eqb-true, eqb-false}
use mathlib.Core.List.{List, ◌++◌, append-nil}
use native.Mathlib.Omega.{arith}
use native.Mathlib.Numerals.{add-one}
use lib.ListN.{length, set, drop, drop_of_length-le}
use Rattle.whole.specs.Rows.{tabled}
use Rattle.whole.proofs.Rows.{fills_none, fills_more, tabled_is, length_tabled, get_or_tabled}
use Rattle.session.specs.Fields.{number, all_below}
use Rattle.session.specs.Good.{last_at}

-- ---- the row before

pub last_first : (s : List ℕ) (i : ℕ) → i ≡ 0 → 0 ≡ last_at s i
unfolding last_at
last_first s i e = rw e

pub last_more : (s : List ℕ) (i : ℕ) → i ≢ 0 → number s (366 + 8 * (i - 1)) 4 ≡ last_at s i
unfolding last_at
last_more s zero e = absurd (e refl)
last_more s (suc i) e = let back : suc i - 1 ≡ i = omega arith in rw back

-- ---- what holds of each

and_none : (b : Bool) → (b && false) ≡ false
and_none true = refl
and_none false = refl

pub all_none : (f : ℕ → Bool) → all_below f 0 ≡ true
unfolding all_below
all_none f = refl

pub all_more : (f : ℕ → Bool) {i : ℕ} {a : Bool} → a ≡ f i → a ≡ true → all_below f i ≡ true
    → all_below f (i + 1) ≡ true
unfolding all_below
all_more f {i} {a} here good before = rw (add-one i, sym here, good, before)

pub all_all : (f : ℕ → Bool) {i : ℕ} (n : ℕ) → all_below f i ≡ true → i ≤ n → n ≤ i → true ≡ all_below f n
all_all f {i} n so_far most least =
    let same : i ≡ n = omega arith in
    sym so_far ∙ ap (λ (k : ℕ). all_below f k) same

-- one that fails
pub all_not : (f : ℕ → Bool) (i n : ℕ) {a : Bool} → a ≡ f i → a ≡ false → i < n → false ≡ all_below f n
unfolding all_below
all_not f i zero here bad below = elim below [ ]
all_not f i (suc n) {a} here bad below = by (λ less. all_not f i n here bad less) (ltb i n) refl
  where
    by : (i < n → false ≡ all_below f n) → (b : Bool) → ltb i n ≡ b → false ≡ (f n && all_below f n)
    by before true e = sym (ap (λ (b : Bool). f n && b) (sym (before (ltb-true i n e))) ∙ and_none (f n))
    by before false e =
        let same : i ≡ n = let most = ltb-false i n e in omega arith in
        sym (ap (λ (b : Bool). b && all_below f n) (ap f (sym same) ∙ sym here ∙ bad))

-- ---- a list l that is filled from the front: the first i places of k hold f of each. Shut, so that a proof finds its
-- parts

pub record Filled {A : Type 0} (f : ℕ → A) (k l : List A) (i : ℕ) : Type 0 where
  pub is : k ≡ tabled f i ++ drop i l

pub fills_start : {A : Type 0} (f : ℕ → A) (l : List A) → Filled f l l 0
fills_start f l = record { is = fills_none f l }

module _ {A : Type 0} {f : ℕ → A} {k l : List A} {i : ℕ} (so_far : Filled f k l i) where
  pub fills_on : {v : A} {n : ℕ} → length l ≡ n → i < n → v ≡ f i → Filled f (set k i v) l (i + 1)
  fills_on {v} {n} size below e =
      record {
        is =
            ap (λ (t : List A). set t i v) so_far.is
            ∙ ap (λ (t : A). set (tabled f i ++ drop i l) i t) e
            ∙ fills_more f i l v (omega (arith, size, below));
      }

  pub fills_all : (n : ℕ) → length l ≡ n → i ≤ n → n ≤ i → k ≡ tabled f n
  fills_all n size most least =
      let same : i ≡ n = omega arith in
      so_far.is
      ∙ ap (λ (t : List A). tabled f i ++ t) (drop_of_length-le l {i = i} (omega (arith, size, least)))
      ∙ append-nil (tabled f i) ∙ ap (λ (t : ℕ). tabled f t) same

-- ---- a list whose first i of n places hold f of each, and the others z

unfoldable pub first : {A : Type 0} → (ℕ → A) → A → ℕ → ℕ → List A
first f z i n = tabled (λ j. cond (ltb j i) (f j) z) n

pub first_none : {A : Type 0} (f : ℕ → A) (z : A) (n : ℕ) → replicate n z ≡ first f z 0 n
unfolding first
first_none f z n =
    tabled_is (λ j. cond (ltb j 0) (f j) z) n (replicate n z) z (length-replicate n z)
    (λ j below. get_or-replicate n j z z below ∙ sym (ap (λ (b : Bool). cond b (f j) z) (le-ltb j 0 (omega arith))))

pub first_more : {A : Type 0} (f : ℕ → A) (z : A) (n : ℕ) {i : ℕ} {l : List A} {v : A} → l ≡ first f z i n → i < n
    → v ≡ f i
    → set l i v ≡ first f z (i + 1) n
unfolding first
first_more {A} f z n {i} {l} {v} e below here =
    tabled_is (λ j. cond (ltb j (i + 1)) (f j) z) n (set l i v) z (length-set l i v ∙ long)
    (λ j less. by j less (ltb j i) refl (eqb j i) refl)
  where
    long : length l ≡ n
    long = ap length e ∙ length_tabled (λ j. cond (ltb j i) (f j) z) n

    still : (j : ℕ) → j ≢ i → (b : Bool) → ltb j i ≡ b → ltb j i ≡ ltb j (i + 1)
    still j other true p = p ∙ sym (lt-ltb j (i + 1) (omega (arith, ltb-true j i p)))
    still j other false p = p ∙ sym (le-ltb j (i + 1) (omega (arith, ltb-false j i p, other)))

    by : (j : ℕ) → j < n → (b : Bool) → ltb j i ≡ b → (c : Bool) → eqb j i ≡ c
        → get_or (set l i v) j z ≡ cond (ltb j (i + 1)) (f j) z
    by j less b p true q =
        let same : j ≡ i = eqb-true j i q in
        ap (λ (k : ℕ). get_or (set l i v) k z) same ∙ get_or-set_same l i v z (omega (arith, long, below)) ∙ here
        ∙ ap f (sym same) ∙ sym (ap (λ (b : Bool). cond b (f j) z) (lt-ltb j (i + 1) (omega (arith, same))))
    by j less b p false q =
        let other = eqb-false j i q in
        get_or-set_other l i j v z other ∙ ap (λ (k : List A). get_or k j z) e
        ∙ get_or_tabled (λ k. cond (ltb k i) (f k) z) n j z less
        ∙ ap (λ (b : Bool). cond b (f j) z) (still j other b p)

pub first_all : {A : Type 0} (f : ℕ → A) (z : A) (n m : ℕ) {i : ℕ} {l : List A} → l ≡ first f z i n → i ≡ m
    → l ≡ tabled (λ j. cond (ltb j m) (f j) z) n
unfolding first
first_all f z n m {i} {l} e same = e ∙ ap (λ (k : ℕ). tabled (λ j. cond (ltb j k) (f j) z) n) same
