-- Every event that waits has a good time and finite numbers: from the empty queue on, whatever is put in that has them,
-- and whatever is taken.
use mathlib.Core.Path.{◌≡◌, refl, sym, subst}
use mathlib.Core.Bool.{Bool, true, false}
use Prim.Native.Nat.{ℕ, ◌+◌, ◌<◌, ◌≤◌}
use native.Mathlib.Omega.{arith}
use lib.Dec.{ltb, eqb}
use borrow.Author.Tests.{leb-false, ltb-true, ltb-false}
use Rattle.whole.proofs.Choice.{by_less}
use Rattle.timer.specs.declared.Event.{Event}
use Rattle.timer.specs.declared.Queue.{Queue}
use Rattle.timer.specs.Events.{empty_queue, with_last, without, full_of, put_of, take_of}
use Rattle.timer.specs.Canonical.{Canonical}
use Rattle.timer.specs.Within.{EventWithin, EventsWithin}
use Rattle.timer.proofs.Places.{skipped_all}
use Rattle.timer.proofs.Waiting.{event_moves, without_some, event_stays, event_last}

pub empty_events : EventsWithin empty_queue
unfolding empty_queue
empty_events i less = absurd (omega arith)

-- ---- a put

last_events : (q : Queue) (e : Event) → Canonical q → q.ring.count < 256 → EventsWithin q → EventWithin e
    → EventsWithin (with_last q e)
last_events q e good room all new i less =
    by_less i q.ring.count
    (λ old. subst EventWithin (sym (event_stays q e i old room)) (all i old))
    (λ most.
    let last : i ≡ q.ring.count = omega arith in
    rw last (subst EventWithin (sym (event_last q e good)) new))

put_events_at : (q : Queue) (e : Event) (t : Bool) → full_of q.ring ≡ t → Canonical q → EventsWithin q
    → EventWithin e → EventsWithin (put_of q e).queue
unfolding put_of
put_events_at q e true h good all new = rw h all
put_events_at q e false h good all new = rw h (last_events q e good (leb-false 256 q.ring.count h) all new)

pub put_events : (q : Queue) (e : Event) → Canonical q → EventsWithin q → EventWithin e
    → EventsWithin (put_of q e).queue
put_events q e good all new = put_events_at q e (full_of q.ring) refl good all new

-- ---- events gone, one or many

without_events_at : (q : Queue) (n : ℕ) (t : Bool) → ltb n q.ring.count ≡ t → q.ring.count ≤ 256
    → EventsWithin q → EventsWithin (without q n)
without_events_at q n true h most all =
    let some : n < q.ring.count = ltb-true n q.ring.count h in
    subst EventsWithin (sym (without_some q n some))
    (λ i less. subst EventWithin (sym (event_moves q n i (omega arith))) (all (n + i) (omega arith)))
without_events_at q n false h most all =
    rw (skipped_all q.ring n (ltb-false n q.ring.count h)) (λ i less. absurd (omega arith))

pub without_events : (q : Queue) (n : ℕ) → q.ring.count ≤ 256 → EventsWithin q → EventsWithin (without q n)
without_events q n most all = without_events_at q n (ltb n q.ring.count) refl most all

take_events_at : (q : Queue) (t : Bool) → eqb q.ring.count 0 ≡ t → q.ring.count ≤ 256 → EventsWithin q
    → EventsWithin (take_of q).queue
unfolding take_of
take_events_at q true h most all = rw h all
take_events_at q false h most all = rw h (without_events q 1 most all)

pub take_events : (q : Queue) → q.ring.count ≤ 256 → EventsWithin q → EventsWithin (take_of q).queue
take_events q most all = take_events_at q (eqb q.ring.count 0) refl most all
