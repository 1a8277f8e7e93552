-- The refusals by their numbers, each given exactly when its rule says; and what is given.
use Rattle.std.proofs.Common.{◌≡◌, ℕ, Bool, true, false, cond, refl, ap, ◌∙◌, arith}
use lib.Ieee.{Float, binary64, of_bits}
use Rattle.map.specs.Numbers.{DONE, BAD_TIME, BAD_TURBO}
use Rattle.std.specs.Prelude.{Some, None}
use Rattle.whole.specs.Limits.{good_time, good_turbo, given_of, checked_of, time_of, turbo_of, refusal_of, time_refusal}
use Rattle.whole.specs.Limits.{turbo_refusal}

number : (n : ℕ) (good : Bool) (bits : ℕ) → refusal_of n (checked_of good bits) ≡ cond good DONE n
number n true bits = refl
number n false bits = refl

pub time_number : (bits : ℕ) → time_refusal (time_of bits) ≡ cond (good_time (of_bits binary64 bits)) DONE BAD_TIME
time_number bits = number BAD_TIME (good_time (of_bits binary64 bits)) bits

pub turbo_number : (bits : ℕ) → turbo_refusal (turbo_of bits) ≡ cond (good_turbo (of_bits binary64 bits)) DONE BAD_TURBO
turbo_number bits = number BAD_TURBO (good_turbo (of_bits binary64 bits)) bits

-- what is given is the float, and it is good
pub given_good : (good : Float → Bool) (x v : Float) → given_of (good x) x ≡ Some v → (good v ≡ true) × (v ≡ x)
given_good good x v e = by (good x) refl e
  where
    by : (b : Bool) → good x ≡ b → given_of b x ≡ Some v → (good v ≡ true) × (v ≡ x)
    by true h e =
        let same : v ≡ x = cc in
        (ap good same ∙ h, same)
    by false h e = absurd (let z : ◌≡◌ {A = ℕ} 0 1 = cc in omega arith)

-- and where none is given it is not good
pub given_bad : (good : Bool) (x : Float) → given_of good x ≡ None → good ≡ false
given_bad true x e = absurd (let z : ◌≡◌ {A = ℕ} 0 1 = cc in omega arith)
given_bad false x e = refl
