use Rattle.runner.specs.Format.{step_from}
use Rattle.runner.proofs.format.step_in.Goals as goal

pub returns : goal.returns
unfolding step_from
returns c =
    rw (
      ← c.load.ensures,
      ← c.load-2.ensures,
      ←
          c.load-3.ensures,
      ← c.load_wide.ensures,
    )
