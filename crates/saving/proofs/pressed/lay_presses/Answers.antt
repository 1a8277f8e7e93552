use Rattle.std.proofs.Common.{arith}
use Rattle.session.specs.Fields.{rows_of}
use Rattle.saving.proofs.Laid.{none_laid, rows_then, rows_room, rows_all}
use Rattle.session.specs.Sections.{press_bytes}
use Rattle.saving.proofs.pressed.lay_presses.Goals as goal

pub loop-i-init : goal.loop-i-init
unfolding rows_of
loop-i-init c = none_laid _ _

pub lay_if-next-requires : goal.lay_if-next-requires
unfolding press_bytes
lay_if-next-requires c = rows_room _ c.loop-i.invariant _ (omega arith) c.requires.0

pub loop-i-preserved : goal.loop-i-preserved
loop-i-preserved c = rows_then _ c.loop-i.invariant c.lay_if-next.ensures

pub returns : goal.returns
unfolding press_bytes
returns c = rows_all _ c.loop-i.invariant _ (omega arith) (omega arith)
