use Rattle.std.proofs.Common.{◌∙◌}
use Rattle.keys.proofs.Cases.{held_more}
use Rattle.keys.proofs.down.also_each.Goals as goal

pub loop-i-preserved : goal.loop-i-preserved
loop-i-preserved c h e = c.also-held.ensures ∙ held_more _ _ _ _ _ _ (c.loop-i.invariant h e)
