use Rattle.std.proofs.Common.{sym, ◌∙◌, arith}
use Rattle.panel.proofs.Cases.{next_along, next_down, next_round}
use Rattle.panel.proofs.draw.next.Goals as goal

pub returns-then-p-w : goal.returns-then-p-w
returns-then-p-w c = c.pen_at.ensures ∙ sym (next_along _ _ (omega arith))

pub returns-then-p-w-2 : goal.returns-then-p-w-2
returns-then-p-w-2 c = c.pen_at-then-p-w-2.ensures ∙ sym (next_down _ _ (omega arith) (omega arith))

pub returns : goal.returns
returns c = (cc) ∙ sym (next_round _ _ (omega arith) (omega arith))
