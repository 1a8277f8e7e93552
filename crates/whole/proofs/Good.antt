-- Whether a float is a good time or turbo is decided on its pattern by comparing whole numbers.
use Rattle.std.proofs.Common.{◌≡◌, ℕ, ◌*◌, ◌^◌, ◌<◌, ◌≤◌, Bool, true, false, not, ◌&&◌, T, leb, sym, refl, ap, ◌∙◌}
use Rattle.std.proofs.Common.{subst, inl, inr, true≢false, le_trans, le_of_eq, mul-le-mul_right, mul_comm}
use Rattle.std.proofs.Common.{mul-lt-mul_of_pos_right, lt_of_not-le, mul_right_comm, not-le_of_lt}
use Rattle.std.proofs.Common.{le_of_mul-le-mul_right, arith, lit<, pow_pos, le-leb}
use lib.Ieee.{Float, nan, inf, fin, binary64, up, down, of_bits, nan_bits, is_nan}
use lib.Ieee.Bits.{nan_bits_is}
use lib.Ieee.Fits.{down_pos}
use lib.Ieee.Exact.{HasValue}
use borrow.Author.Tests.{lt-leb}
use Rattle.whole.specs.Limits.{up_to, down_to, good_time, good_game, good_turbo}
use Rattle.whole.proofs.Choice.{both, lt_or_ge}
use Rattle.whole.proofs.Bits.{value, val, val_le, val_lt, signed_any, top_any, ge_of_not_lt}

-- two tests with the same answer
same : (a b c d : ℕ) → (a ≤ b → c ≤ d) → (c ≤ d → a ≤ b) → leb a b ≡ leb c d
same a b c d f g = elim (lt_or_ge b a) [
  | inl h ↦ lt-leb a b h ∙ sym (lt-leb c d (lt_of_not-le (λ (k : c ≤ d). not-le_of_lt h (g k))))
  | inr h ↦ le-leb a b h ∙ sym (le-leb c d (f h))
]

up_to_value : (n : ℕ) (x : Float) (a c : ℕ) → 0 < c → HasValue x false a c → up_to n x ≡ leb a (n * c)
up_to_value n nan a c C h = absurd h
up_to_value n (inf s) a c C h = absurd h
up_to_value n (fin true m e) a c C h = absurd (true≢false h.0)
up_to_value n (fin false m e) a c C h =
    same (m * up e) (n * down e) a (n * c)
    (λ (k : m * up e ≤ n * down e). le_of_mul-le-mul_right
    (le_trans (le_of_eq (sym h.1)) (le_trans (mul-le-mul_right c k) (le_of_eq (mul_right_comm n (down e) c))))
    (down_pos e))
    (λ (k : a ≤ n * c). le_of_mul-le-mul_right
    (le_trans (le_of_eq h.1) (le_trans (mul-le-mul_right (down e) k) (le_of_eq (mul_right_comm n c (down e))))) C)

down_to_value : (n : ℕ) (x : Float) (a c : ℕ) → 0 < c → HasValue x false a c → down_to n x ≡ leb c (a * n)
down_to_value n nan a c C h = absurd h
down_to_value n (inf s) a c C h = absurd h
down_to_value n (fin true m e) a c C h = absurd (true≢false h.0)
down_to_value n (fin false m e) a c C h =
    same (down e) (m * up e * n) c (a * n)
    (λ (k : down e ≤ m * up e * n). le_of_mul-le-mul_right
    (le_trans (le_of_eq (mul_comm c (down e))) (le_trans (mul-le-mul_right c k) (le_of_eq (crossed n)))) (down_pos e))
    (λ (k : c ≤ a * n). le_of_mul-le-mul_right
    (le_trans (le_of_eq (mul_comm (down e) c)) (le_trans (mul-le-mul_right (down e) k) (le_of_eq (sym (crossed n))))) C)
  where
    crossed : (n : ℕ) → m * up e * n * c ≡ a * n * down e
    crossed n = mul_right_comm (m * up e) n c ∙ ap (λ (z : ℕ). z * n) h.1 ∙ mul_right_comm a (down e) n

-- k is the pattern of n
pub up_to_bits : (n k b : ℕ) → k < 2047 * 2 ^ 52 → val k ≡ n * 2 ^ 1074 → leb b k ≡ up_to n (of_bits binary64 b)
up_to_bits n k b K v = elim (lt_or_ge b (2047 * 2 ^ 52)) [
  | inl h ↦
      same b k (val b) (n * 2 ^ 1074)
      (λ (l : b ≤ k). le_trans (val_le b k l) (le_of_eq v))
      (λ (l : val b ≤ n * 2 ^ 1074). ge_of_not_lt b k (λ (m : k < b). not-le_of_lt (val_lt k b m)
      (le_trans l (le_of_eq (sym v)))))
      ∙ sym (up_to_value n (of_bits binary64 b) (val b) (2 ^ 1074) (pow_pos 1074) (value b h))
  | inr h ↦ lt-leb b k (above b k K h) ∙ sym (elim (lt_or_ge b (2 ^ 63)) [
    | inl l ↦ top_any (λ (x : Float). up_to n x ≡ false) refl refl b h l
    | inr l ↦ signed_any (λ (x : Float). up_to n x ≡ false) refl refl (λ m e. refl) b l
  ])
]
  where
    above : (b k : ℕ) → k < 2047 * 2 ^ 52 → 2047 * 2 ^ 52 ≤ b → k < b
    above b k h l = omega arith

-- k is the pattern of 1 / n
down_to_bits : (n k b : ℕ) → 0 < n → b < 2047 * 2 ^ 52 → val k * n ≡ 2 ^ 1074 → leb k b ≡ down_to n (of_bits binary64 b)
down_to_bits n k b N h v =
    same k b (2 ^ 1074) (val b * n)
    (λ (l : k ≤ b). le_trans (le_of_eq (sym v)) (mul-le-mul_right n (val_le k b l)))
    (λ (l : 2 ^ 1074 ≤ val b * n). ge_of_not_lt k b
    (λ (m : b < k). not-le_of_lt (mul-lt-mul_of_pos_right (val_lt b k m) N) (le_trans (le_of_eq v) l)))
    ∙ sym (down_to_value n (of_bits binary64 b) (val b) (2 ^ 1074) (pow_pos 1074) (value b h))

-- 0x4140_0000_0000_0000 is the pattern of 2,097,152.0
pub time_bits : (b : ℕ) → leb b 0x4140_0000_0000_0000 ≡ good_time (of_bits binary64 b)
time_bits b = up_to_bits 2097152 0x4140_0000_0000_0000 b (lit< tt) refl

-- 0x41E0_0000_0000_0000 is the pattern of 2,147,483,648.0
pub game_bits : (b : ℕ) → leb b 0x41E0_0000_0000_0000 ≡ good_game (of_bits binary64 b)
game_bits b = up_to_bits 2147483648 0x41E0_0000_0000_0000 b (lit< tt) refl

-- 0x3F50_0000_0000_0000 is the pattern of 1 / 1024, and 0x4090_0000_0000_0000 that of 1024.0
pub turbo_bits : (b : ℕ) → (leb 0x3F50_0000_0000_0000 b && leb b 0x4090_0000_0000_0000) ≡ good_turbo
    (of_bits binary64 b)
turbo_bits b = elim (lt_or_ge 0x4090_0000_0000_0000 b) [
  | inl h ↦ last (leb 0x3F50_0000_0000_0000 b) (down_to 1024 (of_bits binary64 b)) (lt-leb b 0x4090_0000_0000_0000 h)
  | inr h ↦ ap (λ (t : Bool). t && leb b 0x4090_0000_0000_0000) (down_to_bits 1024 0x3F50_0000_0000_0000 b (lit< tt)
      (omega arith) refl) ∙ ap
      (λ (t : Bool). down_to 1024 (of_bits binary64 b) && t) hi
]
  where
    hi : leb b 0x4090_0000_0000_0000 ≡ up_to 1024 (of_bits binary64 b)
    hi = up_to_bits 1024 0x4090_0000_0000_0000 b (lit< tt) refl

    none : (p q : Bool) → (p && false) ≡ (q && false)
    none true true = refl
    none true false = refl
    none false true = refl
    none false false = refl

    last : (p q : Bool) → leb b 0x4090_0000_0000_0000 ≡ false
        → (p && leb b 0x4090_0000_0000_0000) ≡ (q && up_to 1024 (of_bits binary64 b))
    last p q h = ap (λ (t : Bool). p && t) h ∙ none p q ∙ ap (λ (t : Bool). q && t) (sym h ∙ hi)

-- what is accepted is no NaN, so `f64::from_bits` reads its pattern
no_nan : (n : ℕ) (x : Float) → up_to n x ≡ true → T (not (is_nan x))
unfolding is_nan
no_nan n nan h = absurd (true≢false (sym h))
no_nan n (inf s) h = tt
no_nan n (fin s m e) h = tt

bits_no_nan : (n b : ℕ) → up_to n (of_bits binary64 b) ≡ true → T (not (nan_bits binary64 b))
bits_no_nan n b h = subst (λ (t : Bool). T (not t)) (sym (nan_bits_is binary64 b)) (no_nan n (of_bits binary64 b) h)

pub time_no_nan : (b : ℕ) → good_time (of_bits binary64 b) ≡ true → T (not (nan_bits binary64 b))
time_no_nan b h = bits_no_nan 2097152 b h

pub turbo_no_nan : (b : ℕ) → good_turbo (of_bits binary64 b) ≡ true → T (not (nan_bits binary64 b))
turbo_no_nan b h = bits_no_nan 1024 b (both (down_to 1024 (of_bits binary64 b)) (up_to 1024 (of_bits binary64 b)) h).1
