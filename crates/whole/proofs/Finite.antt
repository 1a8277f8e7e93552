-- What is finite; a float's bits, and back.
use Rattle.std.proofs.Common.{◌≡◌, ℕ, ◌^◌, ◌<◌, Bool, true, false, not, T}
use Rattle.std.proofs.Common.{sym, refl, ap, ◌∙◌, subst, true≢false, arith}
use lib.Ieee.{Float, nan, inf, fin, binary64, of_bits, to_bits, fits, is_nan, ne}
use lib.Ieee.Bits.{of_bits-to_bits, to_bits-lt, to_bits-of_bits}
use Rattle.std.specs.Float.{float_is_finite}
use Rattle.whole.specs.Limits.{finite}
use Rattle.whole.specs.Forms.{bits_of}
use Rattle.whole.proofs.Bits.{ones_nan}

-- ---- what is finite

pub finite_is : (x : Float) → float_is_finite x ≡ finite x
unfolding float_is_finite
finite_is nan = refl
finite_is (inf s) = refl
finite_is (fin s m e) = refl

-- ---- a float's bits, and back

is_nan_lem : (x : Float) → ne x x ≡ true → nan ≡ x
unfolding of_bits
is_nan_lem x h = ones_nan x h

quiet : of_bits binary64 0x7FF8000000000000 ≡ nan
unfolding of_bits
quiet = refl

by_test : {A : Type 0} (b : Bool) → (b ≡ true → A) → (b ≡ false → A) → A
by_test true f g = f refl
by_test false f g = g refl

quiet_bits : to_bits binary64 nan ≡ 0x7FF8000000000000
unfolding to_bits
quiet_bits = refl

pub bits_are : (x : Float) → to_bits binary64 x ≡ bits_of x
unfolding bits_of
bits_are x =
    by_test (ne x x) (λ t. rw t (ap (to_bits binary64) (sym (is_nan_lem x t)) ∙ quiet_bits)) (λ n. rw n)

pub bits_again : (x : Float) → T (fits binary64 x) → of_bits binary64 (bits_of x) ≡ x
unfolding bits_of
bits_again x f =
    by_test (ne x x) (λ t. rw t (quiet ∙ is_nan_lem x t)) (λ n. rw n (of_bits-to_bits binary64 x f))

pub bits_limit : (x : Float) → T (fits binary64 x) → bits_of x < 2 ^ 64
unfolding bits_of
bits_limit x f = by_test (ne x x) (λ t. rw t (omega arith)) (λ n. rw n (to_bits-lt binary64 x f))

-- a number is itself
same_number : (x : Float) → is_nan x ≡ false → ne x x ≡ false
unfolding is_nan
same_number x h =
    by_test (ne x x) (λ t. absurd (true≢false (ap is_nan (is_nan_lem x t) ∙ h))) (λ f. f)

pub bits_same : (b : ℕ) → b < 2 ^ 64 → is_nan (of_bits binary64 b) ≡ false → bits_of (of_bits binary64 b) ≡ b
unfolding bits_of
bits_same b l h =
    rw (same_number (of_bits binary64 b) h)
    (to_bits-of_bits binary64 b l (subst (λ (t : Bool). T (not t)) (sym h) tt))

pub finite_number : (x : Float) → finite x ≡ true → is_nan x ≡ false
unfolding is_nan
finite_number nan h = absurd (true≢false (sym h))
finite_number (inf s) h = refl
finite_number (fin s m e) h = refl
