use Rattle.session.specs.Good.{good_tables}
use Rattle.resuming.proofs.judge.good_tables.Goals as goal

-- src/judge.rt:106:19
-- src/judge.rt:108:5
-- src/judge.rt:109:12
-- src/judge.rt:110:15
-- src/judge.rt:102:1
pub returns : goal.returns
unfolding good_tables
returns c =
    rw (
      c.good_others.ensures,
      c.good_presses.ensures,
      c.good_events.ensures,
      c.flags_at.ensures,
    )
