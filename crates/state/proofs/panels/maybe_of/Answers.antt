use Rattle.std.proofs.Common.{lt-ltb, le-ltb}
use Rattle.state.specs.Bank.{maybe_in}
use Rattle.state.proofs.panels.maybe_of.Goals as goal

pub returns-then-n-lt256 : goal.returns-then-n-lt256
unfolding maybe_in
returns-then-n-lt256 c = rw (lt-ltb _ _ c.if-n-lt256.true)

pub returns : goal.returns
unfolding maybe_in
returns c = rw (le-ltb _ _ c.if-n-lt256.false)
