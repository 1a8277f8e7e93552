use Rattle.std.proofs.Common.{sym}
use Rattle.panel.proofs.Drawn.{parted_is}
use Rattle.panel.proofs.colour.parts.Goals as goal

pub returns : goal.returns
returns c = sym (parted_is _)
