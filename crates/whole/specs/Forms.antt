-- Numbers in other forms.
use Rattle.std.specs.Prelude.{ℕ, Bool, true, false, cond, from_bits, to_bits, Float}
use Rattle.std.specs.Float.{binary64}
use Rattle.std.specs.Float.Ieee.{ne}

-- 0.0
abbrev pub nought : Float
nought = from_bits binary64 0

-- the bits of a float; what is no number has one pattern
unfoldable pub bits_of : Float → ℕ
bits_of x = cond (ne x x) 0x7FF8000000000000 (to_bits binary64 x)

abbrev pub bit : Bool → ℕ
bit true = 1
bit false = 0
