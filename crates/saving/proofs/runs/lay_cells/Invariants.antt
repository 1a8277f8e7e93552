use Rattle.std.proofs.Common.{◌+◌, ◌-◌, get_or}
use Rattle.memory.specs.Bytes.{bytes_of}
use Rattle.saving.specs.Inner.{Laid}
use Rattle.session.specs.Fields.{rows_of}
use Rattle.session.specs.Layout.{width_at}
use Rattle.saving.proofs.runs.lay_cells.Given as goal

abbrev pub invariant-loop-i : goal.invariant-loop-i
invariant-loop-i l =
    Laid l.initial.out l.out l.at l.next (rows_of (λ j. bytes_of (width_at
    (l.from + j)) (get_or l.cells (l.from + j) 0)) (l.i - l.from))
