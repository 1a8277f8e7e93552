-- The contracts leave one outcome each.
use Rattle.std.proofs.Common.{◌≡◌, ℕ, Bool, List, ap}
use Rattle.whole.proofs.Unique.{unique}
use Rattle.block.specs.Block.{Block, block, Plain, plain}

-- of a block, and of a poke
pub one_block : (d : Block) (a b : Bool) (v w : List ℕ) → block a v ≡ d → block b w ≡ d → (a ≡ b) × (v ≡ w)
one_block d a b v w i k = let z : block a v ≡ block b w = unique i k in
    (ap (λ (o : Block). o.whole) z, ap (λ (o : Block). o.bytes) z)

pub one_poke : (d : Plain) (ram ram₁ sram sram₁ gpio gpio₁ : List ℕ) → plain ram sram gpio ≡ d
    → plain ram₁ sram₁ gpio₁ ≡ d → (ram ≡ ram₁) × (sram ≡ sram₁) × (gpio ≡ gpio₁)
one_poke d ram ram₁ sram sram₁ gpio gpio₁ i k =
    let z : plain ram sram gpio ≡ plain ram₁ sram₁ gpio₁ = unique i k in
    (ap (λ (o : Plain). o.ram) z, ap (λ (o : Plain). o.sram) z, ap (λ (o : Plain). o.gpio) z)
