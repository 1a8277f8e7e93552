use Rattle.std.proofs.Common.{◌-◌, get_or}
use Rattle.saving.specs.Inner.{Laid}
use Rattle.session.specs.Fields.{rows_of}
use Rattle.session.specs.Sections.{other_row}
use Rattle.saving.proofs.others.lay_others.Given as goal

abbrev pub invariant-loop-i : goal.invariant-loop-i
invariant-loop-i l =
    Laid l.initial.out l.out l.at l.next (rows_of (λ j. other_row
    (get_or l.addresses (l.n - 1 - j) 0) (get_or l.values (l.n - 1 - j) 0)) (l.n - l.i))
