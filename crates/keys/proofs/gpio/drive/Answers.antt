use Rattle.std.proofs.Common.{refl}
use Rattle.keys.specs.Lines.{driven}
use Rattle.keys.proofs.gpio.drive.Goals as goal

pub returns : goal.returns
unfolding driven
returns c = refl
