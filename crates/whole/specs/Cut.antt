-- A float cut to a whole number toward zero, as Rust's `as` cuts it.
use Rattle.std.specs.Prelude.{◌≡◌, ℕ, suc, ◌-◌, ◌*◌, ◌^◌, ◌<◌, ◌≤◌, false, ℤ, pos, negsuc, Float}
use Rattle.std.specs.Float.{fin}
use Rattle.std.specs.Float.Ieee.{up, down, to_unsigned}

-- n is Rust's `x as u64`; and of an x = m * 2 ^ e from 0 to below 2 ^ 64 it is the n with n ≤ x < n + 1. 2 ^ e is up
-- e / down e
pub record Cut (x : Float) (n : ℕ) : Type 0 where
  pub cast : n ≡ to_unsigned 64 x
  pub cut : (m : ℕ) (e : ℤ) → x ≡ fin false m e → m * up e < 2 ^ 64 * down e
      → (n * down e ≤ m * up e) × (m * up e < suc n * down e)

-- the 64 bits of an i64; negsuc n is -(n + 1)
abbrev pub twos : ℤ → ℕ
twos (pos n) = n
twos (negsuc n) = 2 ^ 64 - suc n
