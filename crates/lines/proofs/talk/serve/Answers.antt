use Rattle.std.proofs.Common.{[], refl}
use Rattle.lines.proofs.Turns.{turned_more}
use Rattle.lines.proofs.talk.serve.Goals as goal

pub loop-init : goal.loop-init
loop-init g c = record { asked = []; read = refl; answered = refl }

pub loop-preserved : goal.loop-preserved
loop-preserved g c =
    turned_more _ _ _ _ _ _ _ c.in-Some.asked c.in-Some-step.answer c.loop.invariant c.in-Some.ensures.taken
    c.in-Some-step.ensures
