use Rattle.session.specs.Good.{good_cells}
use Rattle.resuming.proofs.judge.good_cells.Goals as goal

-- src/judge.rt:29:1
pub returns : goal.returns
unfolding good_cells
returns c =
    rw (
      c.in_ranges.ensures,
      c.come.ensures,
      c.come-2.ensures,
      c.come-3.ensures,
      c.come-4.ensures,
    )
