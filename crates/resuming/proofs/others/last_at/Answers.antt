use Rattle.std.proofs.Common.{◌∙◌}
use Rattle.resuming.proofs.Tables.{last_first, last_more}
use Rattle.resuming.proofs.others.last_at.Goals as goal

-- src/others.rt:49:9
pub returns-then-i-eq0 : goal.returns-then-i-eq0
returns-then-i-eq0 c = last_first _ _ c.if-i-eq0.true

-- src/others.rt:51:32
-- src/others.rt:44:1
pub returns : goal.returns
returns c = c.number.ensures.0 ∙ last_more _ _ c.if-i-eq0.false
