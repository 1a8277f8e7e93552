use Rattle.std.proofs.Common.{ap, eq-eqb, ne_eqb}
use Rattle.std.specs.Prelude.{Some}
use Rattle.clock.specs.Rtc.{alarm_of}
use Rattle.clock.proofs.chip.alarm_ticks.Goals as goal

pub returns-then-regs-eq0 : goal.returns-then-regs-eq0
unfolding alarm_of
returns-then-regs-eq0 c = rw (eq-eqb _ _ c.if-regs-eq0.true)

pub returns : goal.returns
unfolding alarm_of
returns c = rw (ne_eqb _ _ c.if-regs-eq0.false) (ap Some c.six_bytes.ensures)
