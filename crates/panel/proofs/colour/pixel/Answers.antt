use Rattle.std.proofs.Common.{arith}
use Rattle.panel.proofs.Drawn.{pixel_is}
use Rattle.panel.proofs.colour.pixel.Goals as goal

pub returns : goal.returns
returns c =
    let at_args = c.args in
    let low = c.load in
    let high = c.load-2 in
    let whole = c.from_le_bytes.ensures in
    pixel_is at_args.fb.now at_args.n _ _ _ _ high.ensures low.ensures (omega arith)
    c.parts.ensures
