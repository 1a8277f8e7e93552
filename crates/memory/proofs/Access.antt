-- A register access reads back what it wrote where it lies in its word.
use Prim.Native.Nat.{ℕ, zero, suc, ◌+◌, ◌-◌, ◌*◌, ◌/◌, ◌%◌, ◌^◌, ◌≤◌}
use mathlib.Core.Path.{◌≡◌, refl, sym, ◌∙◌}
use mathlib.Core.Bool.{true, cond, true≢false}
use native.Mathlib.Nat.{mod-mod}
use native.Mathlib.Omega.{arith}
use lib.Dec.{eqb}
use lib.Bits.{bit_and, bit_or, and_shr, or_shr, and_mod, or_mod, and_zero_r, or_zero_l, and_mask}
use Rattle.memory.specs.Access.{good_size, span_of, cut_of, shifted, mask_of, written_of, merged_of}

-- k bits from bit s of a word: those of v where the mask m covers them
lane_merged : (s k old m w v : ℕ) → (0xFFFFFFFF - m) / 2 ^ s % 2 ^ k ≡ 0 → m / 2 ^ s % 2 ^ k ≡ 2 ^ k - 1
    → w / 2 ^ s % 2 ^ k ≡ v % 2 ^ k
    → bit_or (bit_and old (0xFFFFFFFF - m)) (bit_and w m) / 2 ^ s % 2 ^ k ≡ v % 2 ^ k
lane_merged s k old m w v p q e =
    let outside : bit_and old (0xFFFFFFFF - m) / 2 ^ s % 2 ^ k ≡ 0 = rw (and_shr, and_mod, p)
    (and_zero_r (old / 2 ^ s % 2 ^ k)) in
    let new : bit_and w m / 2 ^ s % 2 ^ k ≡ v % 2 ^ k = rw (and_shr, and_mod, q, e)
    (and_mask (v % 2 ^ k) k ∙ mod-mod v (2 ^ k)) in
    rw (or_shr, or_mod, outside, new) (or_zero_l (v % 2 ^ k))

-- the mask of an access at byte r of the word
abbrev mask_at : ℕ → ℕ → ℕ
mask_at r n = cond (eqb n 4) 0xFFFFFFFF ((span_of n - 1) * 2 ^ (8 * r) % 2 ^ 32)

abbrev Back : ℕ → ℕ → ℕ → ℕ → Type 0
Back r n old v = bit_or (bit_and old (0xFFFFFFFF - mask_at r n)) (bit_and (v * 2 ^ (8 * r) % 2 ^ 32) (mask_at r n))
    / 2 ^
    (8 * r) % span_of n ≡ v % span_of n

byte_back : (r old v : ℕ) → r ≤ 3 → Back r 1 old v
unfolding span_of
byte_back zero old v h = lane_merged 0 8 old 0xFF (v * 2 ^ 0 % 2 ^ 32) v refl refl (omega arith)
byte_back (suc zero) old v h = lane_merged 8 8 old 0xFF00 (v * 2 ^ 8 % 2 ^ 32) v refl refl (omega arith)
byte_back (suc (suc zero)) old v h = lane_merged 16 8 old 0xFF0000 (v * 2 ^ 16 % 2 ^ 32) v refl refl (omega arith)
byte_back (suc (suc (suc zero))) old v h =
    lane_merged 24 8 old 0xFF000000 (v * 2 ^ 24 % 2 ^ 32) v refl refl (omega arith)
byte_back (suc (suc (suc (suc r)))) old v h = absurd (let z : ⊥ = omega arith in z)

half_back : (r old v : ℕ) → r ≤ 2 → Back r 2 old v
unfolding span_of
half_back zero old v h = lane_merged 0 16 old 0xFFFF (v * 2 ^ 0 % 2 ^ 32) v refl refl (omega arith)
half_back (suc zero) old v h = lane_merged 8 16 old 0xFFFF00 (v * 2 ^ 8 % 2 ^ 32) v refl refl (omega arith)
half_back (suc (suc zero)) old v h = lane_merged 16 16 old 0xFFFF0000 (v * 2 ^ 16 % 2 ^ 32) v refl refl (omega arith)
half_back (suc (suc (suc r))) old v h = absurd (let z : ⊥ = omega arith in z)

word_back : (r old v : ℕ) → r ≤ 0 → Back r 4 old v
unfolding span_of
word_back zero old v h = lane_merged 0 32 old 0xFFFFFFFF (v * 2 ^ 0 % 2 ^ 32) v refl refl (omega arith)
word_back (suc r) old v h = absurd (let z : ⊥ = omega arith in z)

back : (r n old v : ℕ) → good_size n ≡ true → r + n ≤ 4 → Back r n old v
unfolding good_size
back r zero old v g h = absurd (true≢false (sym g))
back r (suc zero) old v g h = byte_back r old v (omega arith)
back r (suc (suc zero)) old v g h = half_back r old v (omega arith)
back r (suc (suc (suc zero))) old v g h = absurd (true≢false (sym g))
back r (suc (suc (suc (suc zero)))) old v g h = word_back r old v (omega arith)
back r (suc (suc (suc (suc (suc n))))) old v g h = absurd (let z : ⊥ = omega arith in z)

pub cut_merged : (old addr n v : ℕ) → good_size n ≡ true → addr % 4 + n ≤ 4 → cut_of (merged_of old addr n v) addr n ≡ v
    % span_of n
unfolding cut_of merged_of written_of mask_of shifted
cut_merged old addr n v g h = back (addr % 4) n old v g h
