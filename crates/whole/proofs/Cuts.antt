-- Whole parts: what each range of patterns is cut to, and what holds of what is cut.
use Rattle.std.proofs.Common.{◌≡◌, ℕ, zero, suc, ◌+◌, ◌-◌, ◌*◌, ◌/◌, ◌%◌, ◌^◌, ◌<◌, ◌≤◌, min, Bool, true, false}
use Rattle.std.proofs.Common.{cond, not, T, ltb, ℤ, pos, neg_ℤ, sym, refl, ap, ◌∙◌, subst, inl, inr, true≢false}
use Rattle.std.proofs.Common.{le_trans, le_of_eq, lt_of_le_of_lt, le_of_lt, mod-eq_of_lt, mul_assoc, suc-mul}
use Rattle.std.proofs.Common.{div-lt_iff_lt-mul, add_comm, mul-lt-mul_of_pos_right, le-div_iff_mul-le}
use Rattle.std.proofs.Common.{div-mul-le_self, mul-div_cancel, arith, pow_pos, pow-add, ltb-false, le-ltb}
use native.Mathlib.Nat.{div-eq_of_lt, lt-div-mul-add}
use native.Mathlib.Nat.{mul-div-mul_right, zero-div}
use lib.Pow.{pow-lt}
use lib.Ieee.{Float, nan, inf, fin, binary64, up, down, of_bits, to_bits, fits, ne, to_unsigned, is_nan, neg}
use lib.Ieee.{to_signed, lt}
use lib.Ieee.Compare.{differs_from_itself}
use lib.Ieee.Fits.{down_pos}
use lib.Ieee.Exact.{HasValue}
use lib.Ieee.Nearest.{div_same}
use lib.Ieee.Casts.{to_unsigned-lt}
use Rattle.whole.specs.Cut.{Cut, twos}
use Rattle.whole.specs.Bounds.{Clear, AtMost, WholePart}
use Rattle.whole.proofs.Clear.{any, at_most_clear}
use Rattle.whole.proofs.Round.{cut_within}
use Rattle.whole.proofs.Choice.{lt_or_ge}
use Rattle.whole.proofs.Bits.{lead, val, val_lt, val_le, value, signed_any, top_any, bits_back}

cut_value : (x : Float) (a c : ℕ) → 0 < c → HasValue x false a c → to_unsigned 64 x ≡ min (a / c) (2 ^ 64 - 1)
unfolding to_unsigned
cut_value nan a c C h = absurd h
cut_value (inf s) a c C h = absurd h
cut_value (fin true m e) a c C h = absurd (true≢false h.0)
cut_value (fin false m e) a c C h = ap (λ (q : ℕ). min q (2 ^ 64 - 1)) (div_same (m * up e) (down e) a c (down_pos e)
    C h.1)

small : (q : ℕ) → q < 2 ^ 64 → min q (2 ^ 64 - 1) ≡ q
small q h = omega arith

large : (q : ℕ) → 2 ^ 64 ≤ q → min q (2 ^ 64 - 1) ≡ 2 ^ 64 - 1
large q h = omega arith

-- what is worked out is what Rust's cast gives
pub cut_of : (x : Float) (n : ℕ) → n ≡ to_unsigned 64 x → Cut x n
unfolding to_unsigned
cut_of x n h = record { cast = h; cut = λ m e is lt. within m e (h ∙ ap (to_unsigned 64) is) lt }
  where
    exact : (a c n : ℕ) → 0 < c → n ≡ a / c → (n * c ≤ a) × (a < suc n * c)
    exact a c n C e = (
      subst (λ (q : ℕ). q * c ≤ a) (sym e) (div-mul-le_self a c),
      subst (λ (q : ℕ). a < suc q * c) (sym e) (subst (λ (z : ℕ). a < z) (sym (suc-mul (a / c) c)) (lt-div-mul-add C)),
    )

    within : (m : ℕ) (e : ℤ) → n ≡ min (m * up e / down e) (2 ^ 64 - 1) → m * up e < 2 ^ 64 * down e
        → (n * down e ≤ m * up e) × (m * up e < suc n * down e)
    within m e i lt = exact (m * up e) (down e) n (down_pos e)
        (i ∙ small (m * up e / down e) ((div-lt_iff_lt-mul (down_pos e)).1 lt))

-- ---- what each range of patterns is cut to
-- a sign bit: negative, or a NaN
negative : (m : ℕ) (e : ℤ) → to_unsigned 64 (fin true m e) ≡ 0
unfolding to_unsigned
negative m e = refl

pub sign_set : (b : ℕ) → 2 ^ 63 ≤ b → to_unsigned 64 (of_bits binary64 b) ≡ 0
unfolding to_unsigned
sign_set b h = signed_any (λ (x : Float). to_unsigned 64 x ≡ 0) refl refl negative b h

-- an infinity, once a NaN is ruled out
infinite : (b : ℕ) → 2047 * 2 ^ 52 ≤ b → b < 2 ^ 63 → T (not (is_nan (of_bits binary64 b)))
    → to_unsigned 64 (of_bits binary64 b) ≡ 2 ^ 64 - 1
unfolding is_nan to_unsigned
infinite b lo hi n = top_any (λ (x : Float). T (not (is_nan x)) → to_unsigned 64 x ≡ 2 ^ 64 - 1) (λ u. absurd u)
    (λ u. refl) b lo hi n

cut_bits : (b : ℕ) → b < 2047 * 2 ^ 52 → to_unsigned 64 (of_bits binary64 b) ≡ min (val b / 2 ^ 1074) (2 ^ 64 - 1)
cut_bits b h = cut_value (of_bits binary64 b) (val b) (2 ^ 1074) (pow_pos 1074) (value b h)

-- from 2 ^ 64 on
pub saturated : (b : ℕ) → 1087 * 2 ^ 52 ≤ b → b < 2 ^ 63 → T (not (is_nan (of_bits binary64 b)))
    → to_unsigned 64 (of_bits binary64 b) ≡ 2 ^ 64 - 1
saturated b lo hi n = elim (lt_or_ge b (2047 * 2 ^ 52)) [
  | inl h ↦ cut_bits b h ∙ large (val b / 2 ^ 1074)
      ((le-div_iff_mul-le (pow_pos 1074)).1 (le_trans (le_of_eq refl) (val_le (1087 * 2 ^ 52) b lo)))
  | inr h ↦ infinite b h hi n
]

-- below 1
pub fraction : (b : ℕ) → b < 1023 * 2 ^ 52 → to_unsigned 64 (of_bits binary64 b) ≡ 0
fraction b h = cut_bits b (omega arith) ∙ ap (λ (q : ℕ). min q (2 ^ 64 - 1)) (div-eq_of_lt (val_lt b (1023 * 2 ^ 52) h))

under_top : (b : ℕ) → b < 1087 * 2 ^ 52 → to_unsigned 64 (of_bits binary64 b) ≡ val b / 2 ^ 1074
under_top b h = cut_bits b (omega arith) ∙ small (val b / 2 ^ 1074)
    ((div-lt_iff_lt-mul (pow_pos 1074)).1 (val_lt b (1087 * 2 ^ 52) h))

led : (E : ℕ) → 0 < E → lead E ≡ 2 ^ 52
led zero h = absurd (no h)
  where
    no : 0 < 0 → ⊥
    no h = omega arith
led (suc x) h = refl

-- from 1 to below 2 ^ 53: the digits' lower places are dropped
pub dropped : (b : ℕ) → 1023 ≤ b / 2 ^ 52 → b / 2 ^ 52 ≤ 1075
    → to_unsigned 64 (of_bits binary64 b) ≡ (b % 2 ^ 52 + 2 ^ 52) / 2 ^ (1075 - b / 2 ^ 52)
dropped b lo hi =
    let E = b / 2 ^ 52 in
    let t = b % 2 ^ 52 in
    under_top b (omega arith)
    ∙ ap (λ (l : ℕ). (l + t) * 2 ^ (E - 1) / 2 ^ 1074) (led E (omega arith))
    ∙ ap (λ (k : ℕ). (2 ^ 52 + t) * 2 ^ (E - 1) / 2 ^ k) (parts E lo hi)
    ∙ ap (λ (k : ℕ). (2 ^ 52 + t) * 2 ^ (E - 1) / k) (pow-add 2 (1075 - E) (E - 1))
    ∙ mul-div-mul_right (2 ^ 52 + t) (2 ^ (1075 - E)) (pow_pos (E - 1))
    ∙ ap (λ (d : ℕ). d / 2 ^ (1075 - E)) (add_comm (2 ^ 52) t)
  where
    parts : (E : ℕ) → 1023 ≤ E → E ≤ 1075 → 1074 ≡ 1075 - E + (E - 1)
    parts E lo hi = omega arith

-- from 2 ^ 53 to below 2 ^ 64: a whole number
pub scaled_up : (b : ℕ) → 1075 < b / 2 ^ 52 → b / 2 ^ 52 < 1087
    → to_unsigned 64 (of_bits binary64 b) ≡ (b % 2 ^ 52 + 2 ^ 52) * 2 ^ (b / 2 ^ 52 - 1075) % 2 ^ 64
scaled_up b lo hi =
    let E = b / 2 ^ 52 in
    let t = b % 2 ^ 52 in
    let q = (t + 2 ^ 52) * 2 ^ (E - 1075) in
    let is : to_unsigned 64 (of_bits binary64 b) ≡ q =
    under_top b (omega arith)
    ∙ ap (λ (l : ℕ). (l + t) * 2 ^ (E - 1) / 2 ^ 1074) (led E (omega arith))
    ∙ ap (λ (k : ℕ). (2 ^ 52 + t) * 2 ^ k / 2 ^ 1074) (parts E lo)
    ∙ ap (λ (k : ℕ). (2 ^ 52 + t) * k / 2 ^ 1074) (pow-add 2 (E - 1075) 1074)
    ∙ ap (λ (k : ℕ). k / 2 ^ 1074) (sym (mul_assoc (2 ^ 52 + t) (2 ^ (E - 1075)) (2 ^ 1074)))
    ∙ mul-div_cancel ((2 ^ 52 + t) * 2 ^ (E - 1075)) (pow_pos 1074)
    ∙ ap (λ (d : ℕ). d * 2 ^ (E - 1075)) (add_comm (2 ^ 52) t)
    in
    is ∙ sym (mod-eq_of_lt (subst (λ (z : ℕ). z < 2 ^ 64) is (to_unsigned-lt 64 (of_bits binary64 b))))
  where
    parts : (E : ℕ) → 1075 < E → E - 1 ≡ E - 1075 + 1074
    parts E lo = omega arith

pub cut_by_bits : (x : Float) (n : ℕ) → fits binary64 x ≡ true → to_unsigned 64
    (of_bits binary64 (to_bits binary64 x)) ≡
    n → Cut x n
cut_by_bits x n f h = cut_of x n (sym h ∙ ap (to_unsigned 64) (bits_back x f))

pub cut_nan : (x : Float) → ne x x ≡ true → Cut x 0
unfolding to_unsigned
cut_nan x h = cut_of x 0 (sym (ap (to_unsigned 64) (differs_from_itself x (subst T (sym h) tt))))

-- ---- as an i64
capped_low : (q : ℕ) → min q (2 ^ 63) ≡ min (min q (2 ^ 64 - 1)) (2 ^ 63)
capped_low q = omega arith

capped_high : (q : ℕ) → min q (2 ^ 63 - 1) ≡ min (min q (2 ^ 64 - 1)) (2 ^ 63 - 1)
capped_high q = omega arith

-- of what is below 0.0, the whole part of its negation, at most 2 ^ 63
pub signed_below : (x : Float) → lt x (of_bits binary64 0) ≡ true
    → to_signed 63 x ≡ neg_ℤ (pos (min (to_unsigned 64 (neg x)) (2 ^ 63)))
unfolding to_signed to_unsigned neg lt of_bits
signed_below nan h = absurd (true≢false (sym h))
signed_below (inf true) h = refl
signed_below (inf false) h = absurd (true≢false (sym h))
signed_below (fin true m e) h = ap (λ (q : ℕ). neg_ℤ (pos q)) (capped_low (m * up e / down e))
signed_below (fin false m e) h = absurd (true≢false (sym h ∙ le-ltb (m * up e * 1) (0 * 1 * down e) (omega arith)))

-- of anything else its whole part, at most 2 ^ 63 - 1
pub signed_from : (x : Float) → lt x (of_bits binary64 0) ≡ false
    → to_signed 63 x ≡ pos (min (to_unsigned 64 x) (2 ^ 63 - 1))
unfolding to_signed to_unsigned lt of_bits
signed_from nan h = refl
signed_from (inf true) h = absurd (true≢false h)
signed_from (inf false) h = refl
signed_from (fin true m e) h = ap (λ (q : ℕ). neg_ℤ (pos (min q (2 ^ 63))))
    (nothing (m * up e) (down e) (ltb-false 0 (m * up e * 1 + 0 * 1 * down e) h))
  where
    none : (a c : ℕ) → a * 1 + 0 * 1 * c ≤ 0 → a ≡ 0
    none a c h = omega arith

    nothing : (a c : ℕ) → a * 1 + 0 * 1 * c ≤ 0 → a / c ≡ 0
    nothing a c h = ap (λ (z : ℕ). z / c) (none a c h) ∙ zero-div c
signed_from (fin false m e) h = ap pos (capped_high (m * up e / down e))

-- the four ways that `whole_signed` returns, n being the whole part that it has found
below_bits : (n : ℕ) → n < 2 ^ 63 → (2 ^ 64 - 1 - n + 1) % 2 ^ 64 ≡ twos (neg_ℤ (pos n))
below_bits zero h = refl
below_bits (suc n) h = omega arith

least : (n c : ℕ) → c ≤ n → min n c ≡ c
least n c h = omega arith

within : (n c : ℕ) → n ≤ c → min n c ≡ n
within n c h = omega arith

pub signed_least : (x : Float) (n : ℕ) → lt x (of_bits binary64 0) ≡ true → n ≡ to_unsigned 64 (neg x) → 2 ^ 63 ≤ n
    → 2 ^ 63 ≡ twos (to_signed 63 x)
signed_least x n h e l = sym (ap twos (signed_below x h ∙ ap (λ (q : ℕ). neg_ℤ (pos q))
    (ap (λ (q : ℕ). min q (2 ^ 63)) (sym e) ∙ least n (2 ^ 63) l)))

pub signed_negative : (x : Float) (n : ℕ) → lt x (of_bits binary64 0) ≡ true → n ≡ to_unsigned 64 (neg x) → n < 2 ^ 63
    → (2 ^ 64 - 1 - n + 1) % 2 ^ 64 ≡ twos (to_signed 63 x)
signed_negative x n h e l =
    below_bits n l ∙ sym (ap twos (signed_below x h ∙ ap (λ (q : ℕ). neg_ℤ (pos q))
    (ap (λ (q : ℕ). min q (2 ^ 63)) (sym e) ∙ within n (2 ^ 63) (le_of_lt l))))

pub signed_greatest : (x : Float) (n : ℕ) → lt x (of_bits binary64 0) ≡ false → n ≡ to_unsigned 64 x → 2 ^ 63 ≤ n
    → 2 ^ 63 - 1 ≡ twos (to_signed 63 x)
signed_greatest x n h e l = sym (ap twos (signed_from x h ∙ ap (λ (q : ℕ). pos (min q (2 ^ 63 - 1))) (sym e) ∙ ap pos
    (least n (2 ^ 63 - 1) (omega arith))))

pub signed_within : (x : Float) (n : ℕ) → lt x (of_bits binary64 0) ≡ false → n ≡ to_unsigned 64 x → n < 2 ^ 63
    → n ≡ twos (to_signed 63 x)
signed_within x n h e l = sym (ap twos (signed_from x h ∙ ap (λ (q : ℕ). pos (min q (2 ^ 63 - 1))) (sym e) ∙ ap pos
    (within n (2 ^ 63 - 1) (omega arith))))

-- ---- within a bound nothing is brought to an end of the range
pub whole_part : (x : Float) (n : ℕ) → n < 2 ^ 64 → AtMost x n → WholePart x (to_unsigned 64 x)
whole_part x n h p =
    any (λ (x : Float). AtMost x n → WholePart x (to_unsigned 64 x))
    (λ m e p. (cut_of (fin false m e) (to_unsigned 64 (fin false m e)) refl).cut m e refl
    (lt_of_le_of_lt p (mul-lt-mul_of_pos_right h (down_pos e))))
    x (at_most_clear x n p) p

-- as an i64 it is the same number
pub signed_same : (x : Float) (k : ℕ) → k < 63 → AtMost x (2 ^ k) → to_signed 63 x ≡ pos (to_unsigned 64 x)
unfolding to_unsigned to_signed
signed_same x k h p =
    any (λ (x : Float). AtMost x (2 ^ k) → to_signed 63 x ≡ pos (to_unsigned 64 x))
    (λ m e p. ap pos (both (m * up e / down e) (2 ^ k) (pow-lt h) (cut_within (m * up e) (down e) (2 ^ k) (down_pos e)
    p)))
    x (at_most_clear x (2 ^ k) p) p
  where
    both : (q p : ℕ) → p < 2 ^ 63 → q ≤ p → min q (2 ^ 63 - 1) ≡ min q (2 ^ 64 - 1)
    both q p h l = omega arith

-- what is not above 0.0 is cut to 0
above_at : (m : ℕ) (e : ℤ) → cond (lt (fin false 0 (pos 0)) (fin false m e)) (to_unsigned 64 (fin false m e)) 0 ≡
    to_unsigned 64 (fin false m e)
unfolding lt to_unsigned
above_at m e = by (ltb (0 * 1 * down e) (m * up e * 1)) refl
  where
    none : (a c : ℕ) → a * 1 ≤ 0 * 1 * c → a ≡ 0
    none a c h = omega arith

    by : (b : Bool) → ltb (0 * 1 * down e) (m * up e * 1) ≡ b
        → cond b (min (m * up e / down e) (2 ^ 64 - 1)) 0 ≡ min (m * up e / down e) (2 ^ 64 - 1)
    by true h = refl
    by false h =
        let z : m * up e ≡ 0 = none (m * up e) (down e) (ltb-false (0 * 1 * down e) (m * up e * 1) h) in
        sym (ap (λ (a : ℕ). min (a / down e) (2 ^ 64 - 1)) z ∙ ap (λ (q : ℕ). min q (2 ^ 64 - 1)) (zero-div (down e)))

pub above_zero : (x : Float) → Clear x → cond (lt (of_bits binary64 0) x) (to_unsigned 64 x) 0 ≡ to_unsigned 64 x
unfolding of_bits
above_zero x c = any (λ (x : Float). cond (lt (fin false 0 (pos 0)) x) (to_unsigned 64 x) 0 ≡ to_unsigned 64 x) above_at
    x c
