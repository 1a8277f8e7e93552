-- The number that a binary64 bit pattern with a clear sign stands for, in units of 2 ^ -1074; that a larger pattern
-- stands for a larger number; and what the other patterns stand for.
use Rattle.std.proofs.Common.{◌≡◌, ℕ, zero, suc, ◌+◌, ◌-◌, ◌*◌, ◌/◌, ◌%◌, ◌^◌, ◌<◌, ◌≤◌, Bool, true, false, cond}
use Rattle.std.proofs.Common.{not, T, eqb, leb, ◌⊎◌, ℤ, pos, sym, refl, ap, ◌∙◌, subst, inl, inr, true≢false}
use Rattle.std.proofs.Common.{zero-le, le_trans, le_of_eq, lt_of_lt_of_le, mul-le-mul_right, mod-eq_of_lt}
use Rattle.std.proofs.Common.{eq-or-lt_of_le, mul-lt-mul_of_pos_right, not-le_of_lt, arith, lit≤, le→leb, eqb→eq}
use Rattle.std.proofs.Common.{leb→le, pow_pos, pow_mono, pow-add}
use lib.Dec.{not_T}
use lib.Count.{count_trailing_zeros}
use lib.Ieee.{minus, Float, nan, inf, fin, binary64, odd, of_fields, of_bits, to_bits, fits, ne, is_nan}
use lib.Ieee.Bits.{is_false, is_true, cond_no, of_bits-to_bits}
use lib.Ieee.Compare.{differs_from_itself, nan_differs}
use lib.Ieee.Exact.{HasValue, odd_sign}

pub ge_of_not_lt : (a b : ℕ) → (b < a → ⊥) → a ≤ b
ge_of_not_lt a b h = omega arith

of_bits_is : (b : ℕ) → of_bits binary64 b ≡ of_fields binary64 (leb (2 ^ 63) b) (b % 2 ^ 63 / 2 ^ 52) (b % 2 ^ 52)
unfolding of_bits
of_bits_is b = refl

clear : (b : ℕ) → b < 2 ^ 63 → leb (2 ^ 63) b ≡ false
clear b h = is_false (leb (2 ^ 63) b) (not_T (leb (2 ^ 63) b) (λ (u : T (leb (2 ^ 63) b)). not-le_of_lt h
    (leb→le (2 ^ 63) b u)))

-- a pattern with a clear sign, by its two fields
fields : (b E : ℕ) → b < 2 ^ 63 → b / 2 ^ 52 ≡ E → of_bits binary64 b ≡ of_fields binary64 false E (b % 2 ^ 52)
fields b E h e =
    of_bits_is b
    ∙ ap (λ (s : Bool). of_fields binary64 s (b % 2 ^ 63 / 2 ^ 52) (b % 2 ^ 52)) (clear b h)
    ∙ ap (λ (x : ℕ). of_fields binary64 false (x / 2 ^ 52) (b % 2 ^ 52)) (mod-eq_of_lt h)
    ∙ ap (λ (x : ℕ). of_fields binary64 false x (b % 2 ^ 52)) e

-- the leading digit, by the exponent's field
abbrev pub lead : ℕ → ℕ
lead zero = 0
lead (suc x) = 2 ^ 52

-- the number in units of 2 ^ -1074
abbrev pub val : ℕ → ℕ
val b = (lead (b / 2 ^ 52) + b % 2 ^ 52) * 2 ^ (b / 2 ^ 52 - 1)

differ : (x : ℕ) → suc x < 2047 → suc x ≡ 2047 → ⊥
differ x h e = omega arith

at_fields : (E t : ℕ) → E < 2047 → HasValue (of_fields binary64 false E t) false ((lead E + t) * 2 ^ (E - 1)) (2 ^ 1074)
unfolding of_fields
at_fields zero t h = subst (λ (n : ℕ). HasValue (odd 53 false t 0 1074) false (n * 2 ^ 0) (2 ^ 1074)) (omega arith)
    (odd_sign 53 false t 0 1074)
at_fields (suc x) t h =
    subst (λ (v : Float). HasValue v false ((2 ^ 52 + t) * 2 ^ (suc x - 1)) (2 ^ 1074))
    (sym (cond_no (eqb (suc x) 2047) (cond (eqb t 0) (inf false) nan) (odd 53 false (2 ^ 52 + t) x 1074)
    (not_T (eqb (suc x) 2047) (λ (u : T (eqb (suc x) 2047)). differ x h (eqb→eq (suc x) 2047 u)))))
    (subst (λ (k : ℕ). HasValue (odd 53 false (2 ^ 52 + t) x 1074) false ((2 ^ 52 + t) * 2 ^ k) (2 ^ 1074))
    (omega arith)
    (odd_sign 53 false (2 ^ 52 + t) x 1074))

under : (b : ℕ) → b < 2047 * 2 ^ 52 → (b < 2 ^ 63) × (b / 2 ^ 52 < 2047)
under b h = (omega arith, omega arith)

-- 2047 * 2 ^ 52 is the pattern of the infinity
pub value : (b : ℕ) → b < 2047 * 2 ^ 52 → HasValue (of_bits binary64 b) false (val b) (2 ^ 1074)
value b h =
    subst (λ (v : Float). HasValue v false (val b) (2 ^ 1074)) (sym (fields b (b / 2 ^ 52) (under b h).0 refl))
    (at_fields (b / 2 ^ 52) (b % 2 ^ 52) (under b h).1)

-- ---- a larger pattern stands for a larger number

-- within a block of one exponent the digits decide
same_block : (E t u : ℕ) → t < u → (lead E + t) * 2 ^ (E - 1) < (lead E + u) * 2 ^ (E - 1)
same_block E t u h = mul-lt-mul_of_pos_right (grow (lead E) h) (pow_pos (E - 1))
  where
    grow : (l : ℕ) → t < u → l + t < l + u
    grow l h = omega arith

twice : (l t : ℕ) → l ≤ 2 ^ 52 → t < 2 ^ 52 → l + t < 2 ^ 53
twice l t h k = omega arith

at_one : (t : ℕ) → t < 2 ^ 52 → (0 + t) * 2 ^ 0 < 2 ^ 52 * 2 ^ 0
at_one t h = omega arith

down_one : (y : ℕ) → y ≡ suc y - 1
down_one y = omega arith

-- the next block starts above
next_block : (E x t : ℕ) → E < suc x → t < 2 ^ 52 → (lead E + t) * 2 ^ (E - 1) < 2 ^ 52 * 2 ^ x
next_block zero x t h k = lt_of_lt_of_le (at_one t k) (mul_le_mul_left' (pow_mono {i = 0} {j = x} zero-le))
  where
    mul_le_mul_left' : {a b : ℕ} → a ≤ b → 2 ^ 52 * a ≤ 2 ^ 52 * b
    mul_le_mul_left' h = omega arith
next_block (suc y) x t h k =
    subst (λ (z : ℕ). (2 ^ 52 + t) * 2 ^ z < 2 ^ 52 * 2 ^ x) (down_one y)
    (lt_of_lt_of_le (mul-lt-mul_of_pos_right (twice (2 ^ 52) t (lit≤ tt) k) (pow_pos y)) (step y x (omega arith)))
  where
    twice_as : (a b : ℕ) → 2 * a ≤ b → 2 ^ 53 * a ≤ 2 ^ 52 * b
    twice_as a b h = omega arith

    step : (y x : ℕ) → suc y ≤ x → 2 ^ 53 * 2 ^ y ≤ 2 ^ 52 * 2 ^ x
    step y x h = twice_as (2 ^ y) (2 ^ x)
        (le_trans (le_of_eq (sym (pow-add 2 1 y) ∙ ap (λ (z : ℕ). 2 ^ z) (one_more y))) (pow_mono h))
      where
        one_more : (y : ℕ) → 1 + y ≡ suc y
        one_more y = omega arith

base : (u k : ℕ) → 2 ^ 52 * 2 ^ k ≤ (2 ^ 52 + u) * 2 ^ k
base u k = mul-le-mul_right (2 ^ k) (more u)
  where
    more : (u : ℕ) → 2 ^ 52 ≤ 2 ^ 52 + u
    more u = omega arith

by_fields : (E t F u : ℕ) → t < 2 ^ 52 → ((E ≡ F) × (t < u)) ⊎ (E < F) → (lead E + t) * 2 ^ (E - 1) < (lead F + u) * 2
    ^ (F - 1)
by_fields E t F u k (inl h) = subst (λ (G : ℕ). (lead E + t) * 2 ^ (E - 1) < (lead G + u) * 2 ^ (G - 1)) h.0
    (same_block E t u h.1)
by_fields E t zero u k (inr h) = absurd (no E h)
  where
    no : (E : ℕ) → E < 0 → ⊥
    no E h = omega arith
by_fields E t (suc x) u k (inr h) =
    lt_of_lt_of_le (next_block E x t h k) (subst (λ (z : ℕ). 2 ^ 52 * 2 ^ x ≤ (2 ^ 52 + u) * 2 ^ z) (down_one x)
    (base u x))

pub val_lt : (a b : ℕ) → a < b → val a < val b
val_lt a b h = by_fields (a / 2 ^ 52) (a % 2 ^ 52) (b / 2 ^ 52) (b % 2 ^ 52) (omega arith)
    (split (eq-or-lt_of_le (fields_le a b h)))
  where
    fields_le : (a b : ℕ) → a < b → a / 2 ^ 52 ≤ b / 2 ^ 52
    fields_le a b h = omega arith

    digits_lt : (a b : ℕ) → a < b → a / 2 ^ 52 ≡ b / 2 ^ 52 → a % 2 ^ 52 < b % 2 ^ 52
    digits_lt a b h e = omega arith

    split : (a / 2 ^ 52 ≡ b / 2 ^ 52) ⊎ (a / 2 ^ 52 < b / 2 ^ 52)
        → ((a / 2 ^ 52 ≡ b / 2 ^ 52) × (a % 2 ^ 52 < b % 2 ^ 52)) ⊎ (a / 2 ^ 52 < b / 2 ^ 52)
    split (inl e) = inl (e, digits_lt a b h e)
    split (inr l) = inr l

pub val_le : (a b : ℕ) → a ≤ b → val a ≤ val b
val_le a b h = go (eq-or-lt_of_le h)
  where
    weaken : (x y : ℕ) → x < y → x ≤ y
    weaken x y h = omega arith

    go : (a ≡ b) ⊎ (a < b) → val a ≤ val b
    go (inl e) = le_of_eq (ap val e)
    go (inr l) = weaken (val a) (val b) (val_lt a b l)

-- ---- the patterns of what is not finite, or has its sign bit set
signed : (b : ℕ) → 2 ^ 63 ≤ b → of_bits binary64 b ≡ of_fields binary64 true (b % 2 ^ 63 / 2 ^ 52) (b % 2 ^ 52)
signed b h = of_bits_is b ∙ ap (λ (s : Bool). of_fields binary64 s (b % 2 ^ 63 / 2 ^ 52) (b % 2 ^ 52))
    (is_true (leb (2 ^ 63) b) (le→leb (2 ^ 63) b h))

odd_any : (P : Float → Type 0) (s : Bool) → ((m : ℕ) (e : ℤ) → P (fin s m e)) → (d q k l : ℕ) → P (odd d s q k l)
unfolding odd
odd_any P s h d zero k l = h zero (pos zero)
odd_any P s h d (suc q) k l = h (suc q / 2 ^ count_trailing_zeros d (suc q))
    (minus (k + count_trailing_zeros d (suc q)) l)

top_or : (P : Float → Type 0) (p q s : Bool) (x : Float) → P nan → P (inf s) → P x → P (cond p (cond q (inf s) nan) x)
top_or P true true s x n i h = i
top_or P true false s x n i h = n
top_or P false q s x n i h = h

fields_any : (P : Float → Type 0) (s : Bool) → P nan → P (inf s) → ((m : ℕ) (e : ℤ) → P (fin s m e)) → (E t : ℕ)
    → P (of_fields binary64 s E t)
unfolding of_fields
fields_any P s n i h zero t = odd_any P s h 53 t 0 1074
fields_any P s n i h (suc x) t = top_or P (eqb (suc x) 2047) (eqb t 0) s (odd 53 s (2 ^ 52 + t) x 1074) n i
    (odd_any P s h 53 (2 ^ 52 + t) x 1074)

-- the sign bit is set: what holds of a NaN and of all that is negative holds
pub signed_any : (P : Float → Type 0) → P nan → P (inf true) → ((m : ℕ) (e : ℤ) → P (fin true m e)) → (b : ℕ)
    → 2 ^ 63 ≤ b → P (of_bits binary64 b)
signed_any P n i h b l = subst P (sym (signed b l)) (fields_any P true n i h (b % 2 ^ 63 / 2 ^ 52) (b % 2 ^ 52))

top_field : (P : Float → Type 0) (t : ℕ) → P nan → P (inf false) → P (of_fields binary64 false 2047 t)
unfolding of_fields
top_field P t n i = top_or P true (eqb t 0) false nan n i n

-- from the pattern of the infinity on, to below the sign bit: it, and NaNs
pub top_any : (P : Float → Type 0) → P nan → P (inf false) → (b : ℕ) → 2047 * 2 ^ 52 ≤ b → b < 2 ^ 63
    → P (of_bits binary64 b)
top_any P n i b l h = subst P (sym (fields b 2047 h (omega arith))) (top_field P (b % 2 ^ 52) n i)

-- ---- a value by the bits that are written for it
-- A parameter's `c.good .. .1` says that it fits, as an equation.
pub bits_back : (x : Float) → fits binary64 x ≡ true → of_bits binary64 (to_bits binary64 x) ≡ x
bits_back x f = of_bits-to_bits binary64 x (subst T (sym f) tt)

pub no_nan : (x : Float) → ne x x ≡ false → T (not (is_nan x))
unfolding is_nan
no_nan nan h = absurd (true≢false (sym nan_differs ∙ h))
no_nan (inf s) h = tt
no_nan (fin s m e) h = tt

-- all ones are a NaN's pattern
pub ones_nan : (x : Float) → ne x x ≡ true → of_bits binary64 0xFFFF_FFFF_FFFF_FFFF ≡ x
unfolding of_bits
ones_nan x h = sym (differs_from_itself x (subst T (sym h) tt))
