use Rattle.std.proofs.Common.{eq-eqb, ne_eqb}
use Rattle.state.specs.Bank.{mode_in}
use Rattle.state.proofs.chips.mode_of.Goals as goal

pub returns-then-n-eq0 : goal.returns-then-n-eq0
unfolding mode_in
returns-then-n-eq0 c = rw (eq-eqb _ _ c.if-n-eq0.true)

pub returns-else-n-eq0 : goal.returns-else-n-eq0
unfolding mode_in
returns-else-n-eq0 c = rw (ne_eqb _ _ c.if-n-eq0.false)
