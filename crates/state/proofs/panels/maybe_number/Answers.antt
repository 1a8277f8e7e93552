use Rattle.std.proofs.Common.{rules}
use Rattle.state.proofs.Words.{maybe_nothing, maybe_byte}
use Rattle.state.proofs.panels.maybe_number.Goals as goal

pub returns-in-None : goal.returns-in-None
returns-in-None c = maybe_nothing c.args.maybe c.in-None.is

pub returns-in-Some : goal.returns-in-Some
returns-in-Some c = maybe_byte c.args.maybe _ c.in-Some.is (search rules)
