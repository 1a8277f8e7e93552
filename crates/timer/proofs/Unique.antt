-- What meets a contract that is an equation is the only thing that does.
use mathlib.Core.Path.{◌≡◌, ap}
use mathlib.Core.List.{List}
use lib.Ieee.{Float}
use Rattle.std.specs.Prelude.{Result}
use Rattle.map.specs.declared.refusals.Refusal.{Refusal}
use Rattle.map.specs.Refusals.{number_of, value_or}
use Rattle.whole.proofs.Unique.{unique}
use Rattle.whole.proofs.Answered.{answer_tells}
use Rattle.timer.specs.declared.Ring.{Ring}
use Rattle.timer.specs.declared.Event.{Event}
use Rattle.timer.specs.declared.Queue.{Queue}
use Rattle.timer.specs.declared.Bulk.{Bulk}
use Rattle.timer.specs.Events.{PutOutcome, put_outcome, TakeOutcome, take_outcome, BulkOutcome}
use Rattle.timer.specs.Events.{bulk_outcome, nothing, queue_of}

-- OF EACH PUT THERE IS ONE ANSWER and one later queue: over lent arrays, with the ring that was given
pub one_put : (d : PutOutcome) (ring : Ring) (r s : Result Ring Refusal) (a b c x y z : List Float)
    → put_outcome (number_of r) (queue_of a b c (value_or r ring)) ≡ d
    → put_outcome (number_of s) (queue_of x y z (value_or s ring)) ≡ d
    → (r ≡ s) × (queue_of a b c (value_or r ring) ≡ queue_of x y z (value_or s ring))
one_put d ring r s a b c x y z h k =
    let e = unique h k in (
      answer_tells ring r s (ap (λ (o : PutOutcome). o.refusal) e) (ap (λ (o : PutOutcome). o.queue.ring) e),
      ap (λ (o : PutOutcome). o.queue) e,
    )

-- and by value, with the queue that was given
pub one_put_value : (d : PutOutcome) (queue : Queue) (r s : Result Queue Refusal)
    → put_outcome (number_of r) (value_or r queue) ≡ d → put_outcome (number_of s) (value_or s queue) ≡ d → r ≡ s
one_put_value d queue r s h k =
    let e = unique h k in
    answer_tells queue r s (ap (λ (o : PutOutcome). o.refusal) e) (ap (λ (o : PutOutcome). o.queue) e)

-- OF EACH TAKE THERE IS ONE ANSWER and one later queue: over lent arrays
pub one_take : (d : TakeOutcome) (ring : Ring) (r s : Result (Event × Ring) Refusal) (a b c x y z : List Float)
    → take_outcome (number_of r) (value_or r (nothing, ring)).0 (queue_of a b c (value_or r (nothing, ring)).1) ≡ d
    → take_outcome (number_of s) (value_or s (nothing, ring)).0 (queue_of x y z (value_or s (nothing, ring)).1) ≡ d
    → (r ≡ s) × (queue_of a b c (value_or r (nothing, ring)).1 ≡ queue_of x y z (value_or s (nothing, ring)).1)
one_take d ring r s a b c x y z h k =
    let e = unique h k in (
      answer_tells (nothing, ring) r s (ap (λ (o : TakeOutcome). o.refusal) e)
          (ap (λ (o : TakeOutcome). (o.event, o.queue.ring)) e),
      ap (λ (o : TakeOutcome). o.queue) e,
    )

-- and by value
pub one_take_value : (d : TakeOutcome) (queue : Queue) (r s : Result (Event × Queue) Refusal)
    → take_outcome (number_of r) (value_or r (nothing, queue)).0 (value_or r (nothing, queue)).1 ≡ d
    → take_outcome (number_of s) (value_or s (nothing, queue)).0 (value_or s (nothing, queue)).1 ≡ d → r ≡ s
one_take_value d queue r s h k =
    let e = unique h k in
    answer_tells (nothing, queue) r s (ap (λ (o : TakeOutcome). o.refusal) e)
    (ap (λ (o : TakeOutcome). (o.event, o.queue)) e)

-- of each bulk take there is one answer, and the later records are one list
pub one_bulk : (d : BulkOutcome) (r s : Bulk) (xs ys : List Event) → bulk_outcome r xs ≡ d → bulk_outcome s ys ≡ d
    → (r ≡ s) × (xs ≡ ys)
one_bulk d r s xs ys h k =
    let e : bulk_outcome r xs ≡ bulk_outcome s ys = unique h k in
    (ap (λ (o : BulkOutcome). o.bulk) e, ap (λ (o : BulkOutcome). o.records) e)
