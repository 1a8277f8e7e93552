use Rattle.std.proofs.Common.{ap, arith}
use Rattle.session.specs.Fields.{rows_of}
use Rattle.saving.proofs.Laid.{none_laid, laid_as, rows_then, rows_room, rows_all}
use Rattle.timer.specs.declared.Event.{Event}
use Rattle.session.specs.Sections.{event_row, event_bytes}
use Rattle.saving.proofs.sounds.lay_events.Goals as goal

pub loop-i-init : goal.loop-i-init
unfolding rows_of
loop-i-init c = none_laid _ _

pub lay_event-next-requires : goal.lay_event-next-requires
unfolding event_bytes
lay_event-next-requires c = rw c.event.ensures (rows_room _ c.loop-i.invariant _ (omega arith) c.requires.0)

pub loop-i-preserved : goal.loop-i-preserved
loop-i-preserved c =
    rows_then _ c.loop-i.invariant (laid_as c.lay_event-next.ensures (ap (λ (e : Event). event_row e) c.event.ensures))

pub returns : goal.returns
unfolding event_bytes
returns c = rows_all _ c.loop-i.invariant _ (omega arith) (omega arith)
