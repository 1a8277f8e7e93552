use Rattle.std.proofs.Common.{arith}
use Rattle.session.specs.Layout.{widths}
use Rattle.session.proofs.Widths.{narrow, none_past}
use Rattle.session.proofs.places.width.Goals as goal

pub returns-then-i-lt51 : goal.returns-then-i-lt51
unfolding widths
returns-then-i-lt51 c =
    let f = narrow _ c.if-i-lt51.true in (c.from.ensures, omega (arith, c.from.ensures, f))

pub returns : goal.returns
returns c = (none_past _ c.if-i-lt51.false, omega arith)
