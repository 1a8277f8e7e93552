use Rattle.std.proofs.Common.{get_or}
use Rattle.memory.specs.Bytes.{bytes_of}
use Rattle.saving.specs.Inner.{Laid}
use Rattle.session.specs.Fields.{rows_of}
use Rattle.saving.proofs.others.lay_slots.Given as goal

abbrev pub invariant-loop-word : goal.invariant-loop-word
invariant-loop-word l =
    Laid l.initial.out l.out l.at l.next (rows_of (λ j. bytes_of 4 (get_or l.slots j 0)) l.word-index)
