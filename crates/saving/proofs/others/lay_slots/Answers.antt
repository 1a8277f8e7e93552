use Rattle.std.proofs.Common.{arith}
use Rattle.session.specs.Fields.{rows_of}
use Rattle.session.proofs.Digits.{length_bytes}
use Rattle.saving.proofs.Laid.{none_laid, rows_then, rows_fit, rows_all}
use Rattle.session.specs.Sections.{slot_bytes}
use Rattle.saving.proofs.others.lay_slots.Goals as goal

pub loop-word-init : goal.loop-word-init
unfolding rows_of
loop-word-init c = none_laid _ _

pub put_four-next-requires : goal.put_four-next-requires
unfolding slot_bytes
put_four-next-requires c =
    rows_fit _ c.loop-word.invariant 4 (λ j. length_bytes 4 _) 76 (omega arith) c.requires

pub loop-word-preserved : goal.loop-word-preserved
loop-word-preserved c = rows_then _ c.loop-word.invariant c.put_four-next.ensures

pub returns : goal.returns
unfolding slot_bytes
returns c = rows_all _ c.loop-word.invariant _ (omega arith) (omega arith)
