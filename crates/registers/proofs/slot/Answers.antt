use Rattle.std.proofs.Common.{◌∙◌}
use Rattle.registers.proofs.Cases.{slot_below, slot_above, slot_timer, slot_askew}
use Rattle.registers.proofs.slot.Goals as goal

pub returns-then-addr-lt-TIMER_BASE : goal.returns-then-addr-lt-TIMER_BASE
returns-then-addr-lt-TIMER_BASE c = c.named.ensures ∙ slot_below _ c.if-addr-lt-TIMER_BASE.true

pub returns-then-addr-ge-TIMER_END : goal.returns-then-addr-ge-TIMER_END
returns-then-addr-ge-TIMER_END c = c.named-then-addr-ge-TIMER_END.ensures ∙ slot_above _ c.if-addr-ge-TIMER_END.true

pub returns-then-addr-eq0 : goal.returns-then-addr-eq0
returns-then-addr-eq0 c = slot_timer _ c.if-addr-lt-TIMER_BASE.false c.if-addr-ge-TIMER_END.false c.if-addr-eq0.true

pub returns : goal.returns
returns c = c.named-2.ensures ∙ slot_askew _ c.if-addr-eq0.false
