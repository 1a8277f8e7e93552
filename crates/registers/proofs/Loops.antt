-- The places that a copy moves up or down, and the search for the last of them.
use Prim.Native.Nat.{ℕ, zero, suc, ◌+◌, ◌-◌, ◌*◌, ◌<◌, ◌≤◌}
use mathlib.Core.Path.{◌≡◌, refl, sym, ap, ◌∙◌}
use mathlib.Core.List.{List, [], ◌∷◌, ◌++◌}
use mathlib.Core.Logic.{◌≢◌}
use native.Mathlib.Numerals.{add-one}
use native.Mathlib.Omega.{arith}
use lib.ListN.{length, get_or, set, take, drop, take-append-drop}
use lib.Seq.{length-take-le, paste}
use borrow.Author.Tests.{eq-eqb, ne_eqb, lt-ltb, le-ltb}
use Rattle.registers.specs.Words.{removed, inserted, removed_to, inserted_to, stride, strides, end_from}
use Rattle.registers.proofs.Shifts.{removed_out, inserted_out}

-- ---- what a copy by one place leaves

-- the n places behind one are copied to it and on, and a zero to the last of them
copied_up : (x : ℕ) (l : List ℕ) (n : ℕ) → n ≤ length l
    → set (take n l ++ drop n (x ∷ l)) n 0 ≡ take n l ++ (0 ∷ []) ++ drop n l
copied_up x l zero upto = refl
copied_up x [] (suc n) upto = absurd (omega arith)
copied_up x (y ∷ ys) (suc n) upto = ap (λ (m : List ℕ). y ∷ m) (copied_up y ys n (omega arith))

removed_copied : (l : List ℕ) (i n : ℕ) → i ≤ n → n < length l
    → set (take i l ++ take (n - i) (drop (suc i) l) ++ drop n l) n 0 ≡ removed (take (suc n) l) i ++ drop (suc n) l
unfolding removed
removed_copied [] i n upto less = absurd (omega arith)
removed_copied (x ∷ xs) zero n upto less =
    let e : n - 0 ≡ n = omega arith in
    rw e (copied_up x xs n (omega arith))
removed_copied (x ∷ xs) (suc i) zero upto less = absurd (omega arith)
removed_copied (x ∷ xs) (suc i) (suc n) upto less =
    let e : suc n - suc i ≡ n - i = omega arith in
    rw e (ap (λ (m : List ℕ). x ∷ m) (removed_copied xs i n (omega arith) (omega arith)))

-- the n places from the first on are copied to the next and on
copied_down : (x : ℕ) (l : List ℕ) (n : ℕ) → n ≤ length l → take n (x ∷ l) ≡ inserted (take n l) 0 x
unfolding inserted
copied_down x l zero upto = refl
copied_down x [] (suc n) upto = absurd (omega arith)
copied_down x (y ∷ ys) (suc n) upto = ap (λ (m : List ℕ). x ∷ m) (copied_down y ys n (omega arith))

inserted_copied : (l : List ℕ) (i n y : ℕ) → i ≤ n → n < length l
    → set (take (suc i) l ++ take (n - i) (drop i l) ++ drop (suc n) l) i y
    ≡ inserted (take (suc n) l) i y ++ drop (suc n) l
unfolding inserted
inserted_copied [] i n y upto less = absurd (omega arith)
inserted_copied (x ∷ xs) zero n y upto less =
    let e : n - 0 ≡ n = omega arith in
    rw e (ap (λ (m : List ℕ). y ∷ (m ++ drop n xs)) (copied_down x xs n (omega arith)))
inserted_copied (x ∷ xs) (suc i) zero y upto less = absurd (omega arith)
inserted_copied (x ∷ xs) (suc i) (suc n) y upto less =
    let e : suc n - suc i ≡ n - i = omega arith in
    rw e (ap (λ (m : List ℕ). x ∷ m) (inserted_copied xs i n y (omega arith) (omega arith)))

-- ---- among places 0 to n

module _ (n : ℕ) (l : List ℕ) (size : length l ≡ 256) (most : n ≤ 255) where
  pub front : length (take (n + 1) l) ≡ n + 1
  front = length-take-le (n + 1) l (omega arith)

  pub joined : take (n + 1) l ++ drop (n + 1) l ≡ l
  joined = take-append-drop (n + 1) l

  pub up_past : (i : ℕ) → n < i → l ≡ removed_to n l i
  unfolding removed_to
  up_past i past =
      sym joined
      ∙ ap (λ (m : List ℕ). m ++ drop (n + 1) l) (removed_out (take (n + 1) l) i (omega (arith, front)))

  pub down_past : (i y : ℕ) → n < i → l ≡ inserted_to n l i y
  unfolding inserted_to
  down_past i y past =
      sym joined
      ∙ ap (λ (m : List ℕ). m ++ drop (n + 1) l) (inserted_out (take (n + 1) l) i y (omega (arith, front)))

  pub up_copied : (i : ℕ) → i ≤ n → set (paste l i (drop (i + 1) l) (n + 1 - (i + 1))) n 0 ≡ removed_to n l i
  unfolding removed_to
  up_copied i upto =
      let many : n + 1 - (i + 1) ≡ n - i = omega arith in
      let last : i + (n - i) ≡ n = omega arith in
      rw (many, last, add-one i, add-one n) (removed_copied l i n upto (omega arith))

  pub down_copied : (i y : ℕ) → i ≤ n → set (paste l (i + 1) (drop i l) (n - i)) i y ≡ inserted_to n l i y
  unfolding inserted_to
  down_copied i y upto =
      let last : i + 1 + (n - i) ≡ n + 1 = omega arith in
      rw (last, add-one i, add-one n) (inserted_copied l i n y upto (omega arith))

-- ---- places a stride apart

-- a search for the last place to be moved has come to place i
pub record Come (l : List ℕ) (at i : ℕ) : Type 0 where
  pub left : ℕ
  pub enough : 256 - stride ≤ i + stride * left
  pub same : end_from left l i ≡ end_from strides l at

pub come_first : (l : List ℕ) (at : ℕ) → Come l at at
come_first l at = record { left = strides; enough = omega arith; same = refl }

module _ (l : List ℕ) (at i : ℕ) where
  pub come_here : Come l at i → i < 256 - stride → get_or l i 0 ≡ 0 → i ≡ end_from strides l at
  unfolding end_from
  come_here c less free = here c.left c.enough ∙ c.same
    where
      here : (n : ℕ) → 256 - stride ≤ i + stride * n → i ≡ end_from n l i
      here zero enough = absurd (omega arith)
      here (suc n) enough = rw (lt-ltb _ _ less, eq-eqb _ _ free)

  pub come_on : Come l at i → i < 256 - stride → get_or l i 0 ≢ 0 → Come l at (i + stride)
  unfolding end_from
  come_on c less some = on c.left c.enough c.same
    where
      on : (n : ℕ) → 256 - stride ≤ i + stride * n → end_from n l i ≡ end_from strides l at → Come l at (i + stride)
      on zero enough same = absurd (omega arith)
      on (suc n) enough same =
          let turn : end_from n l (i + stride) ≡ end_from (suc n) l i = rw (lt-ltb _ _ less, ne_eqb _ _ some) in
          record { left = n; enough = omega arith; same = turn ∙ same }

  pub come_past : Come l at i → 256 - stride ≤ i → 255 ≡ end_from strides l at
  unfolding end_from
  come_past c past = there c.left ∙ c.same
    where
      there : (n : ℕ) → 255 ≡ end_from n l i
      there zero = refl
      there (suc n) = rw (le-ltb _ _ past)
