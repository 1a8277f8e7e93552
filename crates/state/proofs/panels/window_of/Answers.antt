use Rattle.state.specs.Bank.{panel_in}
use Rattle.state.proofs.panels.window_of.Goals as goal

pub returns : goal.returns
unfolding panel_in
returns c =
    rw (
      c.half.ensures,
      c.half-2.ensures,
      c.half-3.ensures,
      c.half-4.ensures,
    )
