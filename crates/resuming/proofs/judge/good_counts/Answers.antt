use Rattle.session.specs.Good.{good_counts}
use Rattle.resuming.proofs.judge.good_counts.Goals as goal

-- src/judge.rt:74:9
-- src/judge.rt:75:7
-- src/judge.rt:75:29
-- src/judge.rt:75:59
-- src/judge.rt:75:50
-- src/judge.rt:76:23
-- src/judge.rt:76:14
-- src/judge.rt:76:51
-- src/judge.rt:76:42
-- src/judge.rt:77:26
-- src/judge.rt:77:17
-- src/judge.rt:77:55
-- src/judge.rt:77:46
-- src/judge.rt:70:1
pub returns : goal.returns
unfolding good_counts
returns c =
    rw (
      c.count.ensures,
      c.count-2.ensures,
      c.count-3.ensures,
      c.count-4.ensures,
      c.count-5.ensures,
      c.count-6.ensures,
      c.count-7.ensures,
      c.flags_at-p.ensures,
    )
