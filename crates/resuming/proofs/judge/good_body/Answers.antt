use Rattle.session.specs.Good.{good_body}
use Rattle.resuming.proofs.judge.good_body.Goals as goal

-- src/judge.rt:119:5
-- src/judge.rt:120:6
-- src/judge.rt:120:26
-- src/judge.rt:121:42
-- src/judge.rt:122:15
-- src/judge.rt:113:1
pub returns : goal.returns
unfolding good_body
returns c =
    rw (
      c.good_counts.ensures,
      c.good_lengths.ensures,
      c.good_bank.ensures,
      c.good_flash.ensures,
      c.good_tables.ensures,
      c.read_bank.ensures.0,
      c.read_bank.ensures.1,
    )
