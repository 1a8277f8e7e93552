use Rattle.steps.proofs.Runs.{reaches_none, reaches_more}
use Rattle.steps.proofs.talk.Desk.converse.Goals as goal

pub loop-init : goal.loop-init
loop-init g c = reaches_none _

pub loop-preserved : goal.loop-preserved
loop-preserved g c = reaches_more c.loop.invariant c.listen-turn.ensures

pub returns-then-ne : goal.returns-then-ne
returns-then-ne g c = reaches_more c.loop.invariant c.listen-turn.ensures
