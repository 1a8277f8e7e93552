use Rattle.std.proofs.Common.{◌∙◌}
use Rattle.keys.proofs.Cases.{held_past}
use Rattle.keys.proofs.down.also_block.Goals as goal

pub returns : goal.returns
returns c h e = e ∙ held_past _ _ _ h _ 8 (c.any_down.ensures c.if-any_down.false)
