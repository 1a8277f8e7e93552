use Rattle.session.specs.Read.{floats_in}
use Rattle.resuming.proofs.readers.read_all_floats.Goals as goal

-- src/readers.rt:41:9
-- src/readers.rt:43:5
-- src/readers.rt:44:5
-- src/readers.rt:45:5
-- src/readers.rt:46:5
-- src/readers.rt:47:5
-- src/readers.rt:37:1
pub returns : goal.returns
unfolding floats_in
returns c =
    rw (
      c.read_floats-5.ensures,
      c.read_floats-4.ensures,
      c.read_floats-3.ensures,
      c.read_floats-2.ensures,
      c.read_floats.ensures,
      c.flags_at-p.ensures,
    )
