-- A flag as std makes a number of it.
use Rattle.std.proofs.Common.{◌≡◌, Bool, true, false, refl}
use Rattle.std.specs.Int.{from_bool}
use Rattle.whole.specs.Forms.{bit}

pub from_bool-bit : (b : Bool) → from_bool b ≡ bit b
from_bool-bit true = refl
from_bool-bit false = refl
