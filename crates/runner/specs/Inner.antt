-- What contracts of inner functions speak of. No public contract and no theorem that docs/PROMISES.md cites does, so
-- a reader may pass it over.
use Rattle.std.specs.Prelude.{ℕ, ◌<◌, ◌≡◌, Bool, false, List, get_or}
use Rattle.entries.specs.Turn.{kind_in}

-- a table that says of each byte whether it is the kind of a step
abbrev pub Kinds : List Bool → Type 0
Kinds t = (k : ℕ) → k < 256 → get_or t k false ≡ kind_in k
