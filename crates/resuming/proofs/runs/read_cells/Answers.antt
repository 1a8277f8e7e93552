use Rattle.std.proofs.Common.{arith}
use Rattle.resuming.proofs.Cells.{cells_start, cells_room, cells_on, cells_all}
use Rattle.resuming.proofs.runs.read_cells.Goals as goal

pub loop-i-init : goal.loop-i-init
loop-i-init c = cells_start _ _ _ _ _ (omega arith)

pub number-requires : goal.number-requires
number-requires c = (
  cells_room c.loop-i.invariant (omega (arith, c.loop-i.auto)) c.width-w.ensures.0 c.args.n (omega arith)
      c.requires.0,
  c.width-w.ensures.1,
)

pub overflow_add-next : goal.overflow_add-next
overflow_add-next c =
    let f = cells_room c.loop-i.invariant (omega (arith, c.loop-i.auto)) c.width-w.ensures.0 c.args.n (omega arith)
    c.requires.0 in
    omega arith

pub loop-i-preserved : goal.loop-i-preserved
loop-i-preserved c =
    cells_on c.loop-i.invariant (omega (arith, c.loop-i.auto)) c.width-w.ensures.0 c.number.ensures.0 (omega arith)

pub returns : goal.returns
returns c = cells_all c.loop-i.invariant _ (omega arith) (omega arith)
