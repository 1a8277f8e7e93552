use Rattle.steps.specs.Inner.{world_of, Reaches}
use Rattle.steps.proofs.talk.Desk.converse.Given as goal

abbrev pub invariant-loop : goal.invariant-loop
invariant-loop g l = Reaches (world_of l.fn.self) (world_of l.self)
