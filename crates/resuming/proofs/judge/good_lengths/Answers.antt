use Rattle.session.specs.Good.{good_lengths}
use Rattle.resuming.proofs.judge.good_lengths.Goals as goal

-- src/judge.rt:84:9
-- src/judge.rt:85:16
-- src/judge.rt:85:16
-- src/judge.rt:86:16
-- src/judge.rt:86:16
-- src/judge.rt:87:14
-- src/judge.rt:87:14
-- src/judge.rt:88:7
-- src/judge.rt:88:42
-- src/judge.rt:89:13
-- src/judge.rt:89:50
-- src/judge.rt:80:1
pub returns : goal.returns
unfolding good_lengths
returns c =
    rw (
      c.count.ensures,
      c.count-2.ensures,
      c.count-3.ensures,
      c.count-4.ensures,
      c.ram_at-ram.ensures,
    )
