-- What contracts of inner functions speak of. No public contract and no theorem that docs/PROMISES.md cites does, so
-- a reader may pass it over.
use Rattle.std.specs.Prelude.{ℕ, ◌≡◌, cond, List, eqb, Float}
use Rattle.timer.specs.declared.Batch.{Batch}
use Rattle.state.specs.declared.Parts.{Parts}
use Rattle.state.specs.Parts.{ring_put}
use Rattle.state.specs.Bank.{parts_in}
use Rattle.state.specs.Packed.{StaysPacked}

-- the ring of a batch is put back, but where none was taken
abbrev pub batch_put : Parts → Batch → Parts
batch_put x b = cond (eqb b.count 0) x (ring_put x b.ring)

-- from cells to later ones, with the answer
abbrev pub Kept : List ℕ → List ℕ → Batch → ℕ → Type 0
Kept l l' b n = (n ≡ b.count) × ((f : List Float) → (parts_in l' f ≡ batch_put (parts_in l f) b) × StaysPacked l f l' f)
