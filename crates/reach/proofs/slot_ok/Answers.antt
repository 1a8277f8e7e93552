use Rattle.std.proofs.Common.{refl}
use Rattle.reach.specs.Reach.{slot_ok}
use Rattle.reach.proofs.slot_ok.Goals as goal

pub returns : goal.returns
unfolding slot_ok
returns c = refl
