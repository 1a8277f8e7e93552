use Rattle.registers.proofs.Loops.{come_first, come_here, come_on, come_past}
use Rattle.registers.proofs.end_from.Goals as goal

pub loop-end-init : goal.loop-end-init
loop-end-init c = come_first _ _

pub returns-then-addresses-end-eq0-clause-value : goal.returns-then-addresses-end-eq0-clause-value
returns-then-addresses-end-eq0-clause-value c =
    come_here _ _ _ c.loop-end.invariant c.loop-end-test.true c.if-addresses-end-eq0.true

pub loop-end-preserved : goal.loop-end-preserved
loop-end-preserved c =
    come_on _ _ _ c.loop-end.invariant c.loop-end-test.true c.if-addresses-end-eq0.false

pub returns-clause-value : goal.returns-clause-value
returns-clause-value c = come_past _ _ _ c.loop-end.invariant c.loop-end-test.false
