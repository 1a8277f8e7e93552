use Rattle.std.proofs.Common.{arith}
use Rattle.resuming.proofs.Tables.{fills_start, fills_on, fills_all}
use Rattle.session.specs.Read.{slots_in}
use Rattle.resuming.proofs.others.read_slots.Goals as goal

pub loop-i-init : goal.loop-i-init
loop-i-init c = fills_start _ _

pub loop-i-preserved : goal.loop-i-preserved
loop-i-preserved c = fills_on c.loop-i.invariant c.told-slots (omega arith) c.four.ensures

pub returns : goal.returns
unfolding slots_in
returns c = fills_all c.loop-i.invariant 76 c.told-slots (omega arith) (omega arith)
