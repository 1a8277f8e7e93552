use Rattle.runner.specs.Format.{press_from}
use Rattle.runner.proofs.format.press_in.Goals as goal

pub returns : goal.returns
unfolding press_from
returns c = rw (← c.load.ensures, ← c.load_wide.ensures)
