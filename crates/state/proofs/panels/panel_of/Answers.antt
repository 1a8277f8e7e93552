use Rattle.state.specs.Bank.{panel_in}
use Rattle.state.proofs.panels.panel_of.Goals as goal

pub returns : goal.returns
unfolding panel_in
returns c =
    rw (
      c.order_of-cmd.ensures,
      c.window_of-window.ensures,
      c.pen_of-pen.ensures,
      c.byte.ensures,
      c.byte-2.ensures,
      c.byte-3.ensures,
      c.byte-4.ensures,
      c.byte-5.ensures,
    )
