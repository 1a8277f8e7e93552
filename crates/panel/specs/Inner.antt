-- What contracts of inner functions speak of. No public contract and no theorem that docs/PROMISES.md cites does, so
-- a reader may pass it over.
use Rattle.std.specs.Prelude.{ℕ, ◌+◌, List, slice_set}
use Rattle.panel.specs.declared.Colours.{Colours}

-- a pixel's three bytes from place i on
abbrev pub triple : List ℕ → ℕ → Colours → List ℕ
triple out i c = slice_set (slice_set (slice_set out i c.r) (i + 1) c.g) (i + 2) c.b
