-- Every starred example of the paper in one table, in the paper's order: the tables of the crates, one after the other.
use Rattle.std.specs.Prelude.{ℕ}
use mathlib.Core.List.{List, [], ◌∷◌, flatten}
use Rattle.whole.specs.Table.{Example}
use Rattle.timer.specs.Table as timer
use Rattle.memory.specs.Table as memory
use Rattle.flash.specs.Table as flash
use Rattle.panel.specs.Table as panel
use Rattle.clock.specs.Table as clock
use Rattle.system.specs.Table as registers

-- those of the flash over this array
abbrev pub tables : List ℕ → List (List Example)
tables array = timer.table ∷ registers.table ∷ memory.table ∷ flash.table array ∷ panel.table ∷ clock.table ∷ []

abbrev pub starred : List ℕ → List Example
starred array = flatten (tables array)
