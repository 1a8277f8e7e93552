use Rattle.std.proofs.Common.{◌≡◌, sym, ◌≢◌}
use Rattle.map.specs.Numbers.{DONE}
use Rattle.timer.specs.declared.Event.{Event}
use Rattle.timer.specs.declared.Queue.{Queue}
use Rattle.timer.specs.Events.{queue_of, event_of, without, take_of, take_outcome}
use Rattle.timer.proofs.Waiting.{take_none, take_some}
use Rattle.timer.proofs.events.take_from.Goals as goal

one_taken : (q : Queue) {e : Event} {p : Queue} → e ≡ event_of q 0 → p ≡ without q 1 → q.ring.count ≢ 0 →
    take_outcome DONE e p ≡ take_of q
one_taken q first rest some = rw (first, rest) (sym (take_some q some))

pub returns-then-ring-eq0 : goal.returns-then-ring-eq0
returns-then-ring-eq0 c =
    let a = c.args in
    sym (take_none (queue_of a.onsets.now a.frequencies.now a.duties.now a.ring) c.if-ring-eq0.true)

pub returns : goal.returns
returns c =
    let a = c.args in
    one_taken (queue_of a.onsets.now a.frequencies.now a.duties.now a.ring)
    c.event_in-event.ensures c.drop_from.ensures
    c.if-ring-eq0.false
