use Rattle.time.proofs.Cases.{answers_time, answers_none}
use Rattle.time.proofs.next.answered.Goals as goal

pub returns-then-finite : goal.returns-then-finite
returns-then-finite c = answers_time _ _ c.finite.ensures c.if-finite.true

pub returns : goal.returns
returns c = answers_none _ _ c.finite.ensures c.if-finite.false
