use Rattle.flash.specs.Xfer.{read_of}
use Rattle.flash.proofs.xfer.read.Goals as goal

pub returns : goal.returns
unfolding read_of
returns c = simp c.address.ensures
