-- What a test leaves: of `w & mask`, and of what it picks.
use Rattle.std.proofs.Common.{◌≡◌, ℕ, Bool, true, false, cond, not, ◌≢◌, ap, eq-eqb, ne_eqb}
use lib.Bits.{bit_and}
use Rattle.whole.specs.Words.{has}

pub has_not : (w mask : ℕ) → bit_and w mask ≡ 0 → has w mask ≡ false
has_not w mask h = ap not (eq-eqb (bit_and w mask) 0 h)

pub has_some : (w mask : ℕ) → bit_and w mask ≢ 0 → has w mask ≡ true
has_some w mask h = ap not (ne_eqb (bit_and w mask) 0 h)

-- what holds of both holds of the one that a test picks
pub either : {A : Type 0} (P : A → Type 0) (b : Bool) (x y : A) → P x → P y → P (cond b x y)
either P true x y p q = p
either P false x y p q = q
