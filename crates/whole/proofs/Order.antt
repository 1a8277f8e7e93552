-- The order of floats. A value that the format holds is its own rounding, so adding what is not negative makes no
-- value smaller.
use Rattle.std.proofs.Common.{◌≡◌, ℕ, zero, suc, ◌+◌, ◌-◌, ◌*◌, ◌%◌, ◌^◌, ◌<◌, ◌≤◌, Bool, true, false, ◌&&◌, T, eqb}
use Rattle.std.proofs.Common.{ltb, leb, ℤ, pos, negsuc, sym, refl, ap, ◌∙◌, subst, true≢false, le_trans, le_of_eq}
use Rattle.std.proofs.Common.{lt_of_lt_of_le, le-add_right, lt_of_le_of_lt, mul-le-mul_right, mul_assoc, mul_comm}
use Rattle.std.proofs.Common.{add_comm, mul-lt-mul_of_pos_right, mul-pos, one-mul, mul-one, not-le_of_lt, arith}
use Rattle.std.proofs.Common.{lit<, lit≤, eqb→eq, ltb→lt, leb→le, pow_pos, pow_mono, pow-add, shl_lt, ltb-false}
use lib.Ieee.Positive.{through}
use lib.Pow.{pow-lt}
use lib.Ieee.{Float, nan, inf, fin, binary64, of_bits, up, down, round, add, le, lt, fits}
use lib.Ieee.Fits.{down_pos, and_l, and_r}
use lib.Ieee.Exact.{HasValue, round_exact}
use lib.Ieee.Order.{le_of_values, round_mono}
use Rattle.whole.specs.Limits.{good_time}
use Rattle.whole.proofs.Bits.{ge_of_not_lt}
use Rattle.whole.proofs.Clear.{any, any2, at_most_clear, cross}
use Rattle.whole.proofs.Round.{good_at_most, whole_exponent}
use Rattle.whole.specs.Bounds.{AtMost, Clear}

same_power : (a b : ℕ) → 2 ^ a ≤ 2 ^ b → a ≤ b
same_power a b h = ge_of_not_lt a b (λ (l : b < a). not-le_of_lt (pow-lt l) h)

own_up : (m k : ℕ) → m < 2 ^ 53 → m * 2 ^ k < 2 ^ 1024 * 1 → HasValue (round binary64 false (m * 2 ^ k) 1) false
    (m * 2 ^ k) 1
own_up m k h l =
    round_exact binary64 false (m * 2 ^ k) 1 m (k + 1074) (lit< tt) h
    (subst (λ (z : ℕ). z < 2 ^ 2098) (mul_assoc m (2 ^ k) (2 ^ 1074) ∙ ap (λ (z : ℕ). m * z) (sym (pow-add 2 k 1074)))
    (mul-lt-mul_of_pos_right (lt_of_lt_of_le l (le_of_eq (mul-one (2 ^ 1024)))) (pow_pos 1074)))
    (mul_assoc m (2 ^ k) (2 ^ 1074) ∙ ap (λ (z : ℕ). m * z) (sym (pow-add 2 k 1074)) ∙ sym
    (mul-one (m * 2 ^ (k + 1074))))

own_down : (m k : ℕ) → m < 2 ^ 53 → k ≤ 1074 → HasValue (round binary64 false (m * 1) (2 ^ k)) false (m * 1) (2 ^ k)
own_down m k h l =
    round_exact binary64 false (m * 1) (2 ^ k) m (1074 - k) (pow_pos k) h
    (lt_of_lt_of_le (shl_lt 53 (1074 - k) h) (pow_mono (room k)))
    (ap (λ (z : ℕ). z * 2 ^ 1074) (mul-one m) ∙ ap (λ (z : ℕ). m * 2 ^ z) (whole_exponent k l) ∙ ap (λ (z : ℕ). m * z)
    (pow-add 2 (1074 - k) k) ∙ sym
    (mul_assoc m (2 ^ (1074 - k)) (2 ^ k)))
  where
    room : (k : ℕ) → 53 + (1074 - k) ≤ 2098
    room k = omega arith

-- a value that the format holds is its own rounding
pub own : (s : Bool) (m : ℕ) (e : ℤ) → T (fits binary64 (fin s m e))
    → HasValue (round binary64 false (m * up e) (down e)) false (m * up e) (down e)
unfolding fits
own s zero (pos k) f = own_up 0 k (lit< tt) (lt_of_le_of_lt (le_of_eq (nothing (2 ^ k))) (lit< tt))
  where
    nothing : (p : ℕ) → 0 * p ≡ 0
    nothing p = omega arith
own s zero (negsuc k) f =
    own_down 0 (suc k) (lit< tt) (same_power (suc k) 1074
    (le_trans (le_of_eq (sym (one-mul (2 ^ suc k)) ∙ eqb→eq (1 * 2 ^ suc k) 1 f)) (lit≤ tt)))
own s (suc m) (pos k) f =
    let A = eqb (suc m % 2) 1 in
    let B = ltb (suc m) (2 ^ 53) in
    let C = leb 1 (2 ^ 1074) in
    let D = ltb (suc m * 2 ^ k) (2 ^ 1024 * 1) in
    own_up (suc m) k (ltb→lt (suc m) (2 ^ 53) (and_r A B (and_l (A && B) C (and_l (A && B && C) D f))))
    (ltb→lt (suc m * 2 ^ k) (2 ^ 1024 * 1) (and_r (A && B && C) D f))
own s (suc m) (negsuc k) f =
    let A = eqb (suc m % 2) 1 in
    let B = ltb (suc m) (2 ^ 53) in
    let C = leb (2 ^ suc k) (2 ^ 1074) in
    let D = ltb (suc m * 1) (2 ^ 1024 * 2 ^ suc k) in
    own_down (suc m) (suc k) (ltb→lt (suc m) (2 ^ 53) (and_r A B (and_l (A && B) C (and_l (A && B && C) D f))))
    (same_power (suc k) 1074 (leb→le (2 ^ suc k) (2 ^ 1074) (and_r (A && B) C (and_l (A && B && C) D f))))

pub good_clear : (x : Float) → T (good_time x) → Clear x
good_clear x h = at_most_clear x (2 ^ 21) (good_at_most x h)

-- x and y are the same number, and y ≤ z
above : (x y z : Float) (a c n : ℕ) → 0 < c → HasValue x false a c → HasValue y false a c → AtMost z n → T (le y z)
    → T (le x z)
above x nan z a c n C p q t h = absurd q
above x (inf s) z a c n C p q t h = absurd q
above x (fin true m e) z a c n C p q t h = absurd (true≢false q.0)
above x (fin false m e) nan a c n C p q t h = absurd t
above x (fin false m e) (inf s) a c n C p q t h = absurd t
above x (fin false m e) (fin true k d) a c n C p q t h = absurd t
above x (fin false m e) (fin false k d) a c n C p q t h =
    le_of_values x (fin false k d) a c (k * up d) (down d) C (down_pos d) p (refl, refl)
    (through a (m * up e) (k * up d) c (down e) (down d) (down_pos e) (le_of_eq (sym q.1)) (cross m e k d h))

pub le_trans_clear : (x y z : Float) → Clear x → Clear y → Clear z → T (le x y) → T (le y z) → T (le x z)
le_trans_clear x y z p q r h k =
    any2 (λ (x y : Float). T (le x y) → T (le y z) → T (le x z))
    (λ m e n d h k. any (λ (z : Float). T (le (fin false n d) z) → T (le (fin false m e) z))
    (λ l c k. le_of_values (fin false m e) (fin false l c) (m * up e) (down e) (l * up c) (down c) (down_pos e)
    (down_pos c) (refl, refl) (refl, refl)
    (through (m * up e) (n * up d) (l * up c) (down e) (down d) (down c) (down_pos d) (cross m e n d h)
    (cross n d l c k))) z r k)
    x y p q h k

pub le_refl_clear : (x : Float) → Clear x → T (le x x)
le_refl_clear x c =
    any (λ (x : Float). T (le x x))
    (λ m e. le_of_values (fin false m e) (fin false m e) (m * up e) (down e) (m * up e) (down e) (down_pos e)
    (down_pos e) (refl, refl) (refl, refl)
    (le_of_eq refl))
    x c

-- 0.0 is the least
pub zero_least : (x : Float) → Clear x → T (le (of_bits binary64 0) x)
unfolding of_bits
zero_least x c =
    any (λ (x : Float). T (le (fin false 0 (pos 0)) x))
    (λ m e. le_of_values (fin false 0 (pos 0)) (fin false m e) 0 1 (m * up e) (down e) (lit< tt) (down_pos e)
    (refl, refl) (refl, refl) (omega arith)) x c

-- ---- x ≤ x + y, whatever y that is not negative, if the sum does not overflow
more : (a e d b : ℕ) → a * (e * d) ≤ (a * d + b) * e
more a e d b = le_trans (le_of_eq (ap (λ (z : ℕ). a * z) (mul_comm e d) ∙ sym (mul_assoc a d e)))
    (mul-le-mul_right e (le-add_right (a * d) b))

pub grows : (x y : Float) (n : ℕ) → T (fits binary64 x) → Clear x → Clear y → AtMost (add binary64 x y) n
    → T (le x (add binary64 x y))
unfolding add
grows x y n f p q a =
    any2 (λ (x y : Float). T (fits binary64 x) → AtMost (add binary64 x y) n → T (le x (add binary64 x y)))
    (λ m e k d f a. above (fin false m e) (round binary64 false (m * up e) (down e))
    (round binary64 false (m * up e * down d + k * up d * down e) (down e * down d)) (m * up e) (down e) n
    (down_pos e) (refl, refl) (own false m e f) a
    (round_mono binary64 (m * up e) (down e) (m * up e * down d + k * up d * down e) (down e * down d) (down_pos e)
    (mul-pos (down_pos e) (down_pos d))
    (more (m * up e) (down e) (down d) (k * up d * down e))))
    x y p q f a

pub add_turns : (x y : Float) → Clear x → Clear y → add binary64 x y ≡ add binary64 y x
unfolding add
add_turns x y p q =
    any2 (λ (x y : Float). add binary64 x y ≡ add binary64 y x)
    (λ m e n d. ap (λ (a : ℕ). round binary64 false a (down e * down d))
    (add_comm (m * up e * down d) (n * up d * down e))
    ∙ ap (λ (c : ℕ). round binary64 false (n * up d * down e + m * up e * down d) c) (mul_comm (down e) (down d)))
    x y p q

-- ---- a comparison that failed
pub le_of_not_lt : (x y : Float) → Clear x → Clear y → lt y x ≡ false → T (le x y)
unfolding lt
le_of_not_lt x y p q h =
    any2 (λ (x y : Float). lt y x ≡ false → T (le x y))
    (λ m e n d h. le_of_values (fin false m e) (fin false n d) (m * up e) (down e) (n * up d) (down d) (down_pos e)
    (down_pos d) (refl, refl) (refl, refl)
    (ltb-false (n * up d * down e) (m * up e * down d) h))
    x y p q h

-- x is not above 2 ^ k
pub at_most_of_not_lt : (x : Float) (N k : ℕ) → N ≡ 2 ^ k → Clear x → lt (fin false 1 (pos k)) x ≡ false → AtMost x N
unfolding lt
at_most_of_not_lt x N k i p h =
    any (λ (x : Float). lt (fin false 1 (pos k)) x ≡ false → AtMost x N)
    (λ m e h. le_trans (le_of_eq (sym (mul-one (m * up e)))) (le_trans (ltb-false (1 * 2 ^ k * down e) (m * up e * 1) h)
    (le_of_eq (ap (λ (z : ℕ). z * down e) (one-mul (2 ^ k) ∙ sym i)))))
    x p h
