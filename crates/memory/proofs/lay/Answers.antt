use Rattle.std.proofs.Common.{◌∙◌, ap, take, arith}
use Rattle.memory.proofs.Cases.{bytes_word, bytes_half, bytes_byte, bytes_more, bytes_all}
use Rattle.memory.proofs.lay.Goals as goal

pub loop-b-preserved : goal.loop-b-preserved
loop-b-preserved c = rw c.low.ensures (bytes_more _ _ _ c.loop-b.invariant (omega arith))

pub returns-in-4 : goal.returns-in-4
returns-in-4 c = c.copy_from_slice.ensures.after ∙ c.to_le_bytes-all.ensures ∙ bytes_word _ _ c.in-4.is

pub returns-in-2 : goal.returns-in-2
returns-in-2 c =
    c.copy_from_slice-in-2.ensures.after ∙ ap (take 2) c.to_le_bytes-all.ensures ∙ bytes_half _ _ c.in-2.is

pub returns-in-1 : goal.returns-in-1
returns-in-1 c =
    c.copy_from_slice-in-1.ensures.after ∙ ap (take 1) c.to_le_bytes-all.ensures ∙ bytes_byte _ _ c.in-1.is

pub returns-after-loop-b : goal.returns-after-loop-b
returns-after-loop-b c = bytes_all _ _ _ c.loop-b.invariant (omega arith)
