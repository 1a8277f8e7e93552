use Rattle.whole.proofs.Flags.{from_bool-bit}
use Rattle.entries.proofs.act.counters.Goals as goal

pub returns : goal.returns
returns c =
    λ f.
    rw (
      c.numbers.ensures,
      c.frames_of-frames.ensures,
      c.writes_of-writes.ensures,
      c.from.ensures,
      from_bool-bit,
      c.off_of-off.ensures,
    )
