use Rattle.std.proofs.Common.{refl}
use Rattle.flash.specs.Buf.{blank}
use Rattle.flash.proofs.buf.clear.Goals as goal

pub returns : goal.returns
unfolding blank
returns c = refl
