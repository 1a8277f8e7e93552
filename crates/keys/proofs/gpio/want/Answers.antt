use Rattle.keys.specs.Lines.{wanted}
use Rattle.keys.proofs.gpio.want.Goals as goal

pub returns : goal.returns
unfolding wanted
returns c = cc
