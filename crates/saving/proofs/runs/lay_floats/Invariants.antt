use Rattle.std.proofs.Common.{◌+◌, get_or}
use Rattle.memory.specs.Bytes.{bytes_of}
use Rattle.saving.specs.Inner.{Laid}
use Rattle.session.specs.Fields.{rows_of}
use lib.Ieee.{nan}
use Rattle.whole.specs.Forms.{bits_of}
use Rattle.saving.proofs.runs.lay_floats.Given as goal

abbrev pub invariant-loop-float : goal.invariant-loop-float
invariant-loop-float l =
    Laid l.initial.out l.out l.at l.next (rows_of (λ j. bytes_of 8
    (bits_of (get_or l.floats (l.from + j) nan))) l.float-index)
