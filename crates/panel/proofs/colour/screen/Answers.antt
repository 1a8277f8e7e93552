use Rattle.std.proofs.Common.{◌≡◌, ◌/◌, length, ◌∙◌, arith}
use Rattle.panel.proofs.Drawn.{none_shown, more_shown, all_shown}
use Rattle.panel.proofs.colour.screen.Goals as goal

pub loop-i-init : goal.loop-i-init
loop-i-init c = none_shown _ _

pub loop-i-preserved : goal.loop-i-preserved
loop-i-preserved c =
    more_shown _ _ _ _ _ _ (omega arith) c.loop-i.invariant c.pixel.ensures c.lay.ensures

pub returns : goal.returns
returns c =
    let at_end : c.loop-i.i ≡ length c.args.fb.now / 2 = omega arith in
    c.loop-i.invariant ∙ all_shown _ _ _ at_end
