use Rattle.std.proofs.Common.{refl}
use Rattle.reach.specs.Reach.{header_ok}
use Rattle.reach.proofs.header_ok.Goals as goal

pub returns : goal.returns
unfolding header_ok
returns c = refl
