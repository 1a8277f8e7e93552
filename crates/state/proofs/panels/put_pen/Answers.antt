use Rattle.std.proofs.Common.{rules}
use Rattle.state.proofs.Puts.{pen_put_lem}
use Rattle.state.proofs.panels.put_pen.Goals as goal

pub returns : goal.returns
returns c =
    λ f. pen_put_lem c.args.cells.now c.told-cells f c.args.pen _ c.maybe_number.ensures
    (search rules) (search rules)
