use Rattle.std.proofs.Common.{sym, ◌∙◌}
use Rattle.time.proofs.Cases.{none_pends}
use Rattle.time.proofs.next.any_pends.Goals as goal

pub returns : goal.returns
returns c f = sym (none_pends _ _ (sym (c.timer_irq_line.ensures f) ∙ c.if-timer_irq_line.false))
