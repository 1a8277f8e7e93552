use Rattle.steps.proofs.Runs.{reaches_none, reaches_chunk}
use Rattle.steps.proofs.talk.Desk.listen.Goals as goal

pub returns-then-n-eq0 : goal.returns-then-n-eq0
returns-then-n-eq0 g c = reaches_none _

pub returns-in-Err : goal.returns-in-Err
returns-in-Err g c = reaches_chunk _ c.answer.ensures

pub returns-in-Ok : goal.returns-in-Ok
returns-in-Ok g c = reaches_chunk _ c.answer.ensures

pub returns-in-Ok-2 : goal.returns-in-Ok-2
returns-in-Ok-2 g c = reaches_chunk _ c.answer.ensures
