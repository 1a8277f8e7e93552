-- Every starred example of the paper holds, over every flash array that is accepted.
use Prim.Native.Nat.{ℕ}
use mathlib.Core.List.{List}
use Rattle.whole.specs.Table.{All}
use Rattle.whole.proofs.Tables.{all_flatten}
use Rattle.timer.proofs.Judged as timer
use Rattle.memory.proofs.Judged as memory
use Rattle.flash.specs.Run.{Good}
use Rattle.flash.proofs.Judged as flash
use Rattle.panel.proofs.Judged as panel
use Rattle.clock.proofs.Judged as clock
use Rattle.system.specs.Starred.{tables, starred}
use Rattle.system.proofs.Judged as registers

pub starred_hold : (array : List ℕ) → Good array → All (starred array)
starred_hold array good =
    all_flatten (tables array) (
      timer.judged,
      (registers.judged, (memory.judged, (flash.judged array good, (panel.judged, (clock.judged, tt))))),
    )
