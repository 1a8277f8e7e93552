-- What is at most 2 ^ 21 grows by each addition of at least 2 ^ -31: a multiple of 2 ^ -31 lies between, and the
-- format holds it.
use Prim.Native.Nat.{ℕ, suc, ◌+◌, ◌*◌, ◌/◌, ◌^◌, ◌≤◌, ◌<◌}
use mathlib.Core.Path.{◌≡◌, sym}
use mathlib.Core.Bool.{true, false, true≢false}
use native.Mathlib.Nat.{le_trans, le_of_eq, lt_of_lt_of_le, lt-suc_self, mul_assoc, mul_comm, mul_right_comm, add-mul}
use native.Mathlib.Nat.{suc-mul, add-le-add, mul-pos}
use native.Mathlib.Nat.{mul-le-mul_right, mul-lt-mul_of_pos_right, lt_of_mul-lt-mul_right, div-mul-le_self}
use native.Mathlib.Nat.{div-lt_iff_lt-mul}
use native.Mathlib.Omega.{arith}
use lib.Dec.{T, lit<, lit≤}
use lib.Pow.{shl_lt}
use lib.IntN.{ℤ}
use lib.Ieee.{Float, nan, inf, fin, up, down, binary64, round, add, lt, le}
use lib.Ieee.Exact.{HasValue, round_exact}
use lib.Ieee.Fits.{down_pos}
use lib.Ieee.Order.{round_mono}
use lib.Ieee.Positive.{through}
use borrow.Author.Tests.{lt-ltb}
use Rattle.whole.specs.Bounds.{Clear, AtMost, AtLeast}
use Rattle.whole.proofs.Clear.{any, any2, at_most_clear, at_least_clear, cross}
use Rattle.whole.proofs.Round.{cut_within}

-- ---- fractions
-- x / p < y / q ≤ z / r
through_lt : (x y z p q r : ℕ) → 0 < r → x * q < y * p → y * r ≤ z * q → x * r < z * p
through_lt x y z p q r R h k =
    lt_of_mul-lt-mul_right q
    (lt_of_lt_of_le (lt_of_eq (mul_right_comm x r q) (mul-lt-mul_of_pos_right h R))
    (le_trans (le_of_eq (mul_right_comm y p r)) (le_trans (mul-le-mul_right p k) (le_of_eq (mul_right_comm z q p)))))
  where
    lt_of_eq : {a b c : ℕ} → a ≡ b → b < c → a < c
    lt_of_eq {a} {b} {c} e l = rw e l

-- n / s ≤ a / d and 1 / s ≤ k / g
near : (n a d g k s : ℕ) → n * d ≤ a * s → g ≤ k * s → suc n * (d * g) ≤ (a * g + k * d) * s
near n a d g k s h l =
    le_trans (le_of_eq (suc-mul n (d * g)))
    (le_trans (add-le-add first second) (le_of_eq (sym (add-mul (a * g) (k * d) s))))
  where
    first : n * (d * g) ≤ a * g * s
    first = le_trans (le_of_eq (sym (mul_assoc n d g)))
        (le_trans (mul-le-mul_right g h) (le_of_eq (mul_right_comm a s g)))

    second : d * g ≤ k * d * s
    second = le_trans (le_of_eq (mul_comm d g)) (le_trans (mul-le-mul_right d l) (le_of_eq (mul_right_comm k s d)))

-- ---- floats
rounds_up : (n : ℕ) → n ≤ 2 ^ 52 → HasValue (round binary64 false (suc n) (2 ^ 31)) false (suc n) (2 ^ 31)
rounds_up n h =
    round_exact binary64 false (suc n) (2 ^ 31) (suc n) 1043 (lit< tt) small
    (lt_of_lt_of_le (shl_lt 53 1043 small) (lit≤ tt))
    (sym (mul_assoc (suc n) (2 ^ 1043) (2 ^ 31)))
  where
    small : suc n < 2 ^ 53
    small = omega arith

-- y is a / c, and at most k * 2 ^ d
under : (y : Float) (a c k : ℕ) (d : ℤ) → HasValue y false a c → T (le y (fin false k d)) → a * down d ≤ k * up d * c
under nan a c k d q h = absurd q
under (inf s) a c k d q h = absurd q
under (fin true m e) a c k d q h = absurd (true≢false q.0)
under (fin false m e) a c k d q h =
    through a (m * up e) (k * up d) c (down e) (down d) (down_pos e) (le_of_eq (sym q.1)) (cross m e k d h)

below : (m : ℕ) (e : ℤ) (n : ℕ) (z : Float) → Clear z → m * up e * 2 ^ 31 < suc n * down e → n ≤ 2 ^ 52
    → T (le (round binary64 false (suc n) (2 ^ 31)) z) → lt (fin false m e) z ≡ true
unfolding lt
below m e n z c l h t =
    any (λ (z : Float). T (le (round binary64 false (suc n) (2 ^ 31)) z) → lt (fin false m e) z ≡ true)
    (λ k d t. lt-ltb (m * up e * down d) (k * up d * down e)
    (through_lt (m * up e) (suc n) (k * up d) (down e) (2 ^ 31) (down d) (down_pos d) l
    (under (round binary64 false (suc n) (2 ^ 31)) (suc n) (2 ^ 31) k d (rounds_up n h) t)))
    z c t

pub ahead : (x y : Float) (b : ℕ) → AtMost x (2 ^ 21) → AtLeast y (2 ^ 31) → AtMost (add binary64 x y) b
    → lt x (add binary64 x y) ≡ true
unfolding add
ahead x y b p q r =
    any2 (λ (x y : Float). AtMost x (2 ^ 21) → AtLeast y (2 ^ 31) → AtMost (add binary64 x y) b
    → lt x (add binary64 x y) ≡ true)
    at x y (at_most_clear x (2 ^ 21) p) (at_least_clear y (2 ^ 31) q) p q r
  where
    at : (m : ℕ) (e : ℤ) (k : ℕ) (d : ℤ) → AtMost (fin false m e) (2 ^ 21) → AtLeast (fin false k d) (2 ^ 31)
        → AtMost (add binary64 (fin false m e) (fin false k d)) b
        → lt (fin false m e) (add binary64 (fin false m e) (fin false k d)) ≡ true
    at m e k d p q r =
        let n = m * up e * 2 ^ 31 / down e in
        below m e n (add binary64 (fin false m e) (fin false k d))
        (at_most_clear (add binary64 (fin false m e) (fin false k d)) b r)
        ((div-lt_iff_lt-mul (down_pos e)).0 (lt-suc_self n))
        (cut_within (m * up e * 2 ^ 31) (down e) (2 ^ 52) (down_pos e)
        (le_trans (mul-le-mul_right (2 ^ 31) p) (le_of_eq (mul_right_comm (2 ^ 21) (down e) (2 ^ 31)))))
        (round_mono binary64 (suc n) (2 ^ 31) (m * up e * down d + k * up d * down e) (down e * down d) (lit< tt)
        (mul-pos (down_pos e) (down_pos d))
        (near n (m * up e) (down e) (down d) (k * up d) (2 ^ 31) (div-mul-le_self (m * up e * 2 ^ 31) (down e)) q))
