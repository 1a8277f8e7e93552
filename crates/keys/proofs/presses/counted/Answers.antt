use Rattle.std.proofs.Common.{◌∙◌}
use Rattle.keys.proofs.Cases.{counted_is}
use Rattle.keys.proofs.presses.counted.Goals as goal

pub returns : goal.returns
returns c = c.max.ensures ∙ counted_is _ _ _ c.places-n.ensures
