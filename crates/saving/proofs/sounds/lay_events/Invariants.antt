use Rattle.saving.specs.Inner.{Laid}
use Rattle.session.specs.Fields.{rows_of}
use Rattle.timer.specs.Events.{queue_of, event_of}
use Rattle.session.specs.Sections.{event_row}
use Rattle.saving.proofs.sounds.lay_events.Given as goal

abbrev pub invariant-loop-i : goal.invariant-loop-i
invariant-loop-i l =
    Laid l.initial.out l.out l.at l.next (rows_of (λ
    j. event_row (event_of (queue_of l.onsets l.frequencies l.duties l.ring) j)) l.i)
