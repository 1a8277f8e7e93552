use Rattle.clock.specs.Day.{set_of}
use Rattle.clock.proofs.day.tod_write.Goals as goal

pub returns : goal.returns
unfolding set_of
returns c =
    rw (
      ← c.tod-t.ensures,
      ← c.choose-seconds.ensures,
      ←
          c.choose-minutes.ensures,
      ← c.choose-hours.ensures,
    )
