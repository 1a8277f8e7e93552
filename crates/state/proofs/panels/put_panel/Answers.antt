use Rattle.std.proofs.Common.{rules}
use Rattle.state.proofs.Puts.{panel_put_lem}
use Rattle.state.proofs.panels.put_panel.Goals as goal

pub returns : goal.returns
returns c =
    λ f. panel_put_lem c.args.cells.now c.told-cells f
    c.args.panel _ _ _ _ _ c.maybe_number.ensures (search rules) (search rules) (search rules)
    (search rules) (search rules)
    (search rules) (search rules) (search rules) (search rules) (search rules) (c.put_pen.ensures f)
