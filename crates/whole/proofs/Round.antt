-- Bounds that binary64's operations keep. Every bound is a power of two, which the format holds, so rounding does not
-- pass it.
use Rattle.std.proofs.Common.{◌≡◌, ℕ, zero, suc, ◌+◌, ◌-◌, ◌*◌, ◌/◌, ◌^◌, ◌<◌, ◌≤◌, min, Bool, true, false, cond}
use Rattle.std.proofs.Common.{not, T, eqb, ltb, ℤ, pos, sym, ap, ◌∙◌, subst, true≢false, le_trans, le_of_eq}
use Rattle.std.proofs.Common.{lt_of_lt_of_le, le_of_suc-le-suc, lt_of_le_of_lt, mul-le-mul_right, mul_assoc}
use Rattle.std.proofs.Common.{lt-suc_self, mul_comm, div-lt_iff_lt-mul, add-mul, mul-le-mul, mul-le-mul_left}
use Rattle.std.proofs.Common.{mul-lt-mul_of_pos_right, mul-pos, one-mul, mul-one, mul_right_comm}
use Rattle.std.proofs.Common.{le_of_mul-le-mul_right, mul_left_comm, sub-le, arith, lit<, lit≤, leb→le, pow_pos}
use Rattle.std.proofs.Common.{pow-add, le-ltb, ne_eqb}
use native.Mathlib.Nat.{mul-mul-mul_comm}
use native.Mathlib.Nat.{two-pow-succ}
use lib.Pow.{pow-lt}
use lib.Ieee.{Float, nan, inf, fin, binary64, up, down, odd, units, round, add, sub, mul, div, le, of_int, to_unsigned}
use lib.Ieee.Fits.{round_is, down_pos, and_r}
use lib.Ieee.Exact.{HasValue, round_exact}
use lib.Ieee.Positive.{first_pos}
use lib.Ieee.Order.{round_mono, kept, drop}
use Rattle.whole.specs.Limits.{up_to, down_to, good_time, good_turbo}
use Rattle.whole.specs.Bounds.{AtMost, AtLeast}
use Rattle.whole.proofs.Clear.{any, any2, at_most_clear, at_least_clear, cross}

-- ---- the sign of what is rounded
abbrev pub clear : Float → Bool
clear nan = false
clear (inf s) = not s
clear (fin s m e) = not s

odd_clear : (d q k l : ℕ) → T (clear (odd d false q k l))
unfolding odd
odd_clear d zero k l = tt
odd_clear d (suc q) k l = tt

units_clear : (q k : ℕ) → T (clear (units binary64 false q k))
unfolding units
units_clear q k = go (ltb (q * 2 ^ k) (2 ^ 2098))
  where
    go : (b : Bool) → T (clear (cond b (odd 54 false q k 1074) (inf false)))
    go true = odd_clear 54 q k 1074
    go false = tt

round_clear : (a c : ℕ) → T (clear (round binary64 false a c))
round_clear a c = subst (λ (x : Float). T (clear x)) (sym (round_is binary64 false a c))
    (units_clear (kept 53 (a * 2 ^ 1074) c) (drop 53 (a * 2 ^ 1074) c))

-- ---- an order with a value that is known
upper : (x y : Float) (n : ℕ) → T (clear x) → T (le x y) → HasValue y false n 1 → AtMost x n
unfolding le
upper nan y n s h v = absurd s
upper (inf true) y n s h v = absurd s
upper (fin true m e) y n s h v = absurd s
upper (inf false) nan n s h v = absurd v
upper (inf false) (inf t) n s h v = absurd v
upper (inf false) (fin t p d) n s h v = absurd h
upper (fin false m e) nan n s h v = absurd v
upper (fin false m e) (inf t) n s h v = absurd v
upper (fin false m e) (fin true p d) n s h v = absurd (true≢false v.0)
upper (fin false m e) (fin false p d) n s h v =
    le_of_mul-le-mul_right
    (le_trans (cross m e p d h)
    (le_of_eq (ap (λ (z : ℕ). z * down e) (sym (mul-one (p * up d)) ∙ v.1) ∙ mul_right_comm n (down d) (down e))))
    (down_pos d)

lower : (x y : Float) (n : ℕ) → T (clear x) → (b : ℕ) → AtMost x b → T (le y x) → HasValue y false 1 n → AtLeast x n
unfolding le
lower nan y n s b f h v = absurd s
lower (inf t) y n s b f h v = absurd f
lower (fin true m e) y n s b f h v = absurd s
lower (fin false m e) nan n s b f h v = absurd v
lower (fin false m e) (inf t) n s b f h v = absurd v
lower (fin false m e) (fin true p d) n s b f h v = absurd (true≢false v.0)
lower (fin false m e) (fin false p d) n s b f h v =
    let k : p * up d * down e ≤ m * up e * down d = cross p d m e h in
    le_of_mul-le-mul_right
    (le_trans (le_of_eq (mul_comm (down e) (down d) ∙ ap (λ (z : ℕ). z * down e) (sym (one-mul (down d)) ∙ sym v.1)
    ∙ mul_right_comm (p * up d) n (down e)))
    (le_trans (mul-le-mul_right n k) (le_of_eq (mul_right_comm (m * up e) (down d) n)))) (down_pos d)

-- ---- powers of two are values of the format
power : (k : ℕ) → k < 1024 → HasValue (round binary64 false (2 ^ k) 1) false (2 ^ k) 1
power k h =
    round_exact binary64 false (2 ^ k) 1 1 (k + 1074) (lit< tt) (lit< tt)
    (subst (λ (z : ℕ). z < 2 ^ 2098) (sym (one-mul (2 ^ (k + 1074)))) (pow-lt (room k h)))
    (sym (pow-add 2 k 1074) ∙ sym (one-mul (2 ^ (k + 1074))) ∙ sym (mul-one (1 * 2 ^ (k + 1074))))
  where
    room : (k : ℕ) → k < 1024 → k + 1074 < 2098
    room k h = omega arith

pub whole_exponent : (k : ℕ) → k ≤ 1074 → 1074 ≡ 1074 - k + k
whole_exponent k h = omega arith

fraction : (k : ℕ) → k ≤ 1074 → HasValue (round binary64 false 1 (2 ^ k)) false 1 (2 ^ k)
fraction k h =
    round_exact binary64 false 1 (2 ^ k) 1 (1074 - k) (pow_pos k) (lit< tt)
    (subst (λ (z : ℕ). z < 2 ^ 2098) (sym (one-mul (2 ^ (1074 - k)))) (pow-lt (room k h)))
    (one-mul (2 ^ 1074) ∙ ap (λ (z : ℕ). 2 ^ z) (whole_exponent k h) ∙ pow-add 2 (1074 - k) k
    ∙ ap (λ (z : ℕ). z * 2 ^ k)
    (sym (one-mul (2 ^ (1074 - k)))))
  where
    room : (k : ℕ) → k ≤ 1074 → 1074 - k < 2098
    room k h = omega arith

pub round_at_most : (k a c : ℕ) → k < 1024 → 0 < c → a ≤ 2 ^ k * c → AtMost (round binary64 false a c) (2 ^ k)
round_at_most k a c h C l =
    upper (round binary64 false a c) (round binary64 false (2 ^ k) 1) (2 ^ k) (round_clear a c)
    (round_mono binary64 a c (2 ^ k) 1 C (lit< tt) (le_trans (le_of_eq (mul-one a)) l)) (power k h)

pub round_at_least : (k a c b : ℕ) → k ≤ 1074 → 0 < c → c ≤ a * 2 ^ k → AtMost (round binary64 false a c) b
    → AtLeast (round binary64 false a c) (2 ^ k)
round_at_least k a c b h C l f =
    lower (round binary64 false a c) (round binary64 false 1 (2 ^ k)) (2 ^ k) (round_clear a c) b f
    (round_mono binary64 1 (2 ^ k) a c (pow_pos k) C (le_trans (le_of_eq (one-mul c)) l)) (fraction k h)

-- ---- the operations
pub weaken : (x : Float) (a b : ℕ) → a ≤ b → AtMost x a → AtMost x b
weaken x a b h f = any (λ (x : Float). AtMost x a → AtMost x b) (λ m e f. le_trans f (mul-le-mul_right (down e) h)) x
    (at_most_clear x a f) f

pub weaken_least : (x : Float) (a b : ℕ) → a ≤ b → AtLeast x a → AtLeast x b
weaken_least x a b h f = any (λ (x : Float). AtLeast x a → AtLeast x b)
    (λ m e f. le_trans f (mul-le-mul_left (m * up e) h)) x (at_least_clear x a f) f

pub of_int_at_most : (k n : ℕ) → k < 1024 → n ≤ 2 ^ k → AtMost (of_int binary64 (pos n)) (2 ^ k)
unfolding of_int
of_int_at_most k n h l = round_at_most k n 1 h (lit< tt) (le_trans l (le_of_eq (sym (mul-one (2 ^ k)))))

pub of_int_at_least : (n b : ℕ) → 0 < n → AtMost (of_int binary64 (pos n)) b → AtLeast (of_int binary64 (pos n)) 1
unfolding of_int
of_int_at_least n b h f = round_at_least 0 n 1 b (lit≤ tt) (lit< tt) (le_trans h (le_of_eq (sym (mul-one n)))) f

pub mul_at_most : (x y : Float) (j k : ℕ) → j + k < 1024 → AtMost x (2 ^ j) → AtMost y (2 ^ k)
    → AtMost (mul binary64 x y) (2 ^ (j + k))
unfolding mul
mul_at_most x y j k h p q =
    any2 (λ (x y : Float). AtMost x (2 ^ j) → AtMost y (2 ^ k) → AtMost (mul binary64 x y) (2 ^ (j + k)))
    (λ m e n d p q. round_at_most (j + k) (m * up e * (n * up d)) (down e * down d) h
    (mul-pos (down_pos e) (down_pos d))
    (le_trans (mul-le-mul p q)
    (le_of_eq (mul-mul-mul_comm (2 ^ j) (down e) (2 ^ k) (down d) ∙ ap (λ (z : ℕ). z * (down e * down d))
    (sym (pow-add 2 j k))))))
    x y (at_most_clear x (2 ^ j) p) (at_most_clear y (2 ^ k) q) p q

twice : (c : ℕ) {a b z : ℕ} → a ≤ c → b ≤ c → z ≡ c + c → a + b ≤ z
twice c h k e = omega arith

pub add_at_most : (x y : Float) (k : ℕ) → suc k < 1024 → AtMost x (2 ^ k) → AtMost y (2 ^ k)
    → AtMost (add binary64 x y) (2 ^ suc k)
unfolding add
add_at_most x y k h p q =
    any2 (λ (x y : Float). AtMost x (2 ^ k) → AtMost y (2 ^ k) → AtMost (add binary64 x y) (2 ^ suc k))
    (λ m e n d p q. round_at_most (suc k) (m * up e * down d + n * up d * down e) (down e * down d) h
    (mul-pos (down_pos e) (down_pos d))
    (twice (2 ^ k * (down e * down d))
    (le_trans (mul-le-mul_right (down d) p) (le_of_eq (mul_assoc (2 ^ k) (down e) (down d))))
    (le_trans (mul-le-mul_right (down e) q)
    (le_of_eq (mul_assoc (2 ^ k) (down d) (down e) ∙ ap (λ (z : ℕ). 2 ^ k * z) (mul_comm (down d) (down e)))))
    (ap (λ (z : ℕ). z * (down e * down d)) (two-pow-succ k) ∙ add-mul (2 ^ k) (2 ^ k) (down e * down d))))
    x y (at_most_clear x (2 ^ k) p) (at_most_clear y (2 ^ k) q) p q

-- y ≤ x: the difference is no more than x
pub sub_is : (m : ℕ) (e : ℤ) (n : ℕ) (d : ℤ) → T (le (fin false n d) (fin false m e))
    → sub binary64 (fin false m e) (fin false n d) ≡ round binary64 false (m * up e * down d - n * up d * down e)
    (down e * down d)
unfolding sub
sub_is m e n d l =
    let a = m * up e * down d in
    let b = n * up d * down e in
    let c = down e * down d in
    ap (λ (t : Bool). cond t (round binary64 true (b - a) c) (round binary64 false (a - b) c))
    (le-ltb a b (cross n d m e l))

pub sub_at_most : (x y : Float) (b k : ℕ) → k < 1024 → AtMost x (2 ^ k) → AtMost y b → T (le y x)
    → AtMost (sub binary64 x y) (2 ^ k)
sub_at_most x y b k h p q l =
    any2 (λ (x y : Float). AtMost x (2 ^ k) → T (le y x) → AtMost (sub binary64 x y) (2 ^ k))
    (λ m e n d p l. subst (λ (z : Float). AtMost z (2 ^ k)) (sym (sub_is m e n d l))
    (round_at_most k (m * up e * down d - n * up d * down e) (down e * down d) h (mul-pos (down_pos e) (down_pos d))
    (le_trans (sub-le (m * up e * down d) (n * up d * down e)) (le_trans (mul-le-mul_right (down d) p)
    (le_of_eq (mul_assoc (2 ^ k) (down e) (down d)))))))
    x y (at_most_clear x (2 ^ k) p) (at_most_clear y b q) p l

-- y is at least 1 / k, and so no zero
pub div_is : (m : ℕ) (e : ℤ) (n : ℕ) (d : ℤ) (k : ℕ) → AtLeast (fin false n d) k
    → (0 < n * up d) × (div binary64 (fin false m e) (fin false n d) ≡ round binary64 false (m * up e * down d)
    (n * up d * down e))
unfolding div
div_is m e n d k q =
    let N : 0 < n * up d = first_pos (n * up d) k (lt_of_lt_of_le (down_pos d) q) in (
      N,
      ap (λ (b : Bool). cond b (cond (eqb m 0) nan (inf false)) (round binary64 false (m * up e * down d)
          (n * up d * down e)))
          (ne_eqb n 0 (some n (first_pos n (up d) N))),
    )
  where
    some : (n : ℕ) → 0 < n → n ≡ 0 → ⊥
    some n h e = omega arith

pub div_at_most : (x y : Float) (j k : ℕ) → j + k < 1024 → AtMost x (2 ^ j) → AtLeast y (2 ^ k)
    → AtMost (div binary64 x y) (2 ^ (j + k))
div_at_most x y j k h p q =
    any2 (λ (x y : Float). AtMost x (2 ^ j) → AtLeast y (2 ^ k) → AtMost (div binary64 x y) (2 ^ (j + k)))
    (λ m e n d p q. let is = div_is m e n d (2 ^ k) q in subst (λ (z : Float). AtMost z (2 ^ (j + k))) (sym is.1)
    (round_at_most (j + k) (m * up e * down d) (n * up d * down e) h (mul-pos is.0 (down_pos e))
    (le_trans (mul-le-mul p q) (le_of_eq (simp (pow-add, mul_assoc, mul_comm, mul_left_comm))))))
    x y (at_most_clear x (2 ^ j) p) (at_least_clear y (2 ^ k) q) p q

-- what is cut stays within the bound
pub cut_within : (a c n : ℕ) → 0 < c → a ≤ n * c → a / c ≤ n
cut_within a c n C h = le_of_suc-le-suc
    ((div-lt_iff_lt-mul C).1 (lt_of_le_of_lt h (mul-lt-mul_of_pos_right (lt-suc_self n) C)))

pub cut_at_most : (x : Float) (n : ℕ) → AtMost x n → to_unsigned 64 x ≤ n
unfolding to_unsigned
cut_at_most x n p =
    any (λ (x : Float). AtMost x n → to_unsigned 64 x ≤ n)
    (λ m e p. le_trans (min_le_left (m * up e / down e) (2 ^ 64 - 1)) (cut_within (m * up e) (down e) n (down_pos e)
    p)) x (at_most_clear x n p) p
  where
    min_le_left : (a b : ℕ) → min a b ≤ a
    min_le_left a b = omega arith

-- times and turbos that are accepted
up_to_at_most : (n : ℕ) (x : Float) → T (up_to n x) → AtMost x n
up_to_at_most n nan h = absurd h
up_to_at_most n (inf s) h = absurd h
up_to_at_most n (fin true m e) h = absurd h
up_to_at_most n (fin false m e) h = leb→le (m * up e) (n * down e) h

pub good_at_most : (x : Float) → T (good_time x) → AtMost x (2 ^ 21)
good_at_most x h = up_to_at_most (2 ^ 21) x h

pub turbo_at_most : (x : Float) → T (good_turbo x) → AtMost x (2 ^ 10)
turbo_at_most x h = up_to_at_most (2 ^ 10) x (and_r (down_to 1024 x) (up_to 1024 x) h)

-- ---- division by 2.0, 256.0 and the like
pub div_pow : (x : Float) (j k : ℕ) → k < 1024 → AtMost x (2 ^ (k + j))
    → AtMost (div binary64 x (fin false 1 (pos j))) (2 ^ k)
unfolding div
div_pow x j k h p =
    any (λ (x : Float). AtMost x (2 ^ (k + j)) → AtMost (div binary64 x (fin false 1 (pos j))) (2 ^ k))
    (λ m e p. round_at_most k (m * up e * 1) (1 * 2 ^ j * down e) h (mul-pos (mul-pos (lit< tt) (pow_pos j))
    (down_pos e))
    (le_trans (le_of_eq (mul-one (m * up e))) (le_trans p (le_of_eq (simp (pow-add, mul_assoc, one-mul))))))
    x (at_most_clear x (2 ^ (k + j)) p) p

pub div_pow_least : (x : Float) (j k b : ℕ) → k + j ≤ 1074 → AtLeast x (2 ^ k)
    → AtMost (div binary64 x (fin false 1 (pos j))) b
    → AtLeast (div binary64 x (fin false 1 (pos j))) (2 ^ (k + j))
unfolding div
div_pow_least x j k b h p f =
    any (λ (x : Float). AtLeast x (2 ^ k) → AtMost (div binary64 x (fin false 1 (pos j))) b
    → AtLeast (div binary64 x (fin false 1 (pos j))) (2 ^ (k + j)))
    (λ m e p f. round_at_least (k + j) (m * up e * 1) (1 * 2 ^ j * down e) b h
    (mul-pos (mul-pos (lit< tt) (pow_pos j)) (down_pos e))
    (le_trans (mul-le-mul_left (1 * 2 ^ j) p)
    (le_of_eq (simp (pow-add, mul_assoc, mul-one, one-mul, mul_comm, mul_left_comm)))) f)
    x (at_least_clear x (2 ^ k) p) p f
