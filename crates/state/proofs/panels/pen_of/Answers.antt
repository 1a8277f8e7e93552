use Rattle.state.specs.Bank.{panel_in}
use Rattle.state.proofs.panels.pen_of.Goals as goal

pub returns : goal.returns
unfolding panel_in
returns c =
    rw (
      c.maybe_of-half_byte.ensures,
      c.half.ensures,
      c.half-2.ensures,
    )
