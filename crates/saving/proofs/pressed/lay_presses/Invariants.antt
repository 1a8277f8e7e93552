use Rattle.std.proofs.Common.{get_or}
use Rattle.saving.specs.Inner.{Laid}
use Rattle.session.specs.Fields.{rows_of}
use lib.Ieee.{nan}
use Rattle.session.specs.Sections.{press_if}
use Rattle.saving.proofs.pressed.lay_presses.Given as goal

abbrev pub invariant-loop-i : goal.invariant-loop-i
invariant-loop-i l =
    Laid l.initial.out l.out l.at l.next (rows_of (λ j. press_if
    (get_or l.codes j 0) (get_or l.starts j nan) l.time) l.i)
