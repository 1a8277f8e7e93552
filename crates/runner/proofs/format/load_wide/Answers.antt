use Rattle.runner.specs.Format.{wide}
use Rattle.runner.proofs.format.load_wide.Goals as goal

pub returns : goal.returns
unfolding wide
returns c = rw (c.from.ensures, c.from-2.ensures, ← c.load-low.ensures, ← c.load-high.ensures)
