-- Sound events that wait, oldest first: a list; and how 256 places in a ring hold it.
use Rattle.std.specs.Prelude.{Bool, cond, List, [], ◌∷◌, ℕ, zero, suc, ◌+◌, ◌-◌, ◌%◌, leb, ltb, eqb, Float, length}
use Rattle.std.specs.Prelude.{get_or, set, replicate}
use Rattle.std.specs.Float.{nan}
use Rattle.map.specs.Numbers.{DONE, SOUND_FULL, NO_EVENT}
use Rattle.whole.specs.Forms.{nought}
use Rattle.timer.specs.declared.Event.{Event}
use Rattle.timer.specs.declared.Ring.{Ring}
use Rattle.timer.specs.declared.Queue.{Queue}
use Rattle.timer.specs.declared.Batch.{Batch}
use Rattle.timer.specs.declared.Bulk.{Bulk}

-- what is answered beside a refusal's number
abbrev pub nothing : Event
nothing = record { time = nought; frequency = nought; duty = nought }

-- ---- the ring

abbrev pub ring_of : ℕ → ℕ → Ring
ring_of head count = record { head = head; count = count }

-- the place of the i-th waiting event
abbrev pub place_of : Ring → ℕ → ℕ
place_of ring i = (ring.head + i % 256) % 256

-- the ring with its n oldest events gone; an empty one starts at place 0
unfoldable pub skipped : Ring → ℕ → Ring
skipped ring n = cond (ltb n ring.count) (ring_of (place_of ring n) (ring.count - n)) (ring_of 0 0)

-- ---- the queue

abbrev pub queue_of : List Float → List Float → List Float → Ring → Queue
queue_of onsets frequencies duties ring = record {
  onsets = onsets;
  frequencies = frequencies;
  duties = duties;
  ring =
      ring;
}

-- no event waits, and all is zero
unfoldable pub empty_queue : Queue
empty_queue = queue_of (replicate 256 nought) (replicate 256 nought) (replicate 256 nought) (ring_of 0 0)

-- the event at a place
abbrev pub event_at : Queue → ℕ → Event
event_at q place = record {
  time = get_or q.onsets place nan;
  frequency = get_or q.frequencies place nan;
  duty = get_or q.duties place nan;
}

-- the i-th waiting event
abbrev pub event_of : Queue → ℕ → Event
event_of q i = event_at q (place_of q.ring i)

-- n waiting events from the i-th on
unfoldable pub waiting_from : Queue → ℕ → ℕ → List Event
waiting_from q i zero = []
waiting_from q i (suc n) = event_of q i ∷ waiting_from q (suc i) n

-- THE READING: the events that wait, oldest first
unfoldable pub waiting : Queue → List Event
waiting q = waiting_from q 0 q.ring.count

-- ---- one event in

-- 01's number, and the later queue
pub record PutOutcome : Type 0 where
  pub refusal : ℕ
  pub queue : Queue

abbrev pub put_outcome : ℕ → Queue → PutOutcome
put_outcome n q = record { refusal = n; queue = q }

-- an event at the place after the youngest
abbrev pub with_last : Queue → Event → Queue
with_last q e =
    queue_of (set q.onsets (place_of q.ring q.ring.count) e.time)
    (set q.frequencies (place_of q.ring q.ring.count) e.frequency)
    (set q.duties (place_of q.ring q.ring.count) e.duty)
    (ring_of q.ring.head (q.ring.count + 1))

-- 256 wait
abbrev pub full_of : Ring → Bool
full_of ring = leb 256 ring.count

-- with 256 waiting nothing changes
unfoldable pub put_of : Queue → Event → PutOutcome
put_of q e = cond (full_of q.ring) (put_outcome SOUND_FULL q) (put_outcome DONE (with_last q e))

-- ---- one event out

-- 01's number, the event, and the later queue
pub record TakeOutcome : Type 0 where
  pub refusal : ℕ
  pub event : Event
  pub queue : Queue

abbrev pub take_outcome : ℕ → Event → Queue → TakeOutcome
take_outcome n e q = record { refusal = n; event = e; queue = q }

-- the places of the n oldest events zero
unfoldable pub cleared : Ring → ℕ → List Float → List Float
cleared ring zero l = l
cleared ring (suc n) l = set (cleared ring n l) (place_of ring n) nought

-- the queue with its n oldest events gone
abbrev pub without : Queue → ℕ → Queue
without q n =
    queue_of (cleared q.ring n q.onsets) (cleared q.ring n q.frequencies) (cleared q.ring n q.duties)
    (skipped q.ring n)

-- zeros and nothing changed where none waits
unfoldable pub take_of : Queue → TakeOutcome
take_of q = cond (eqb q.ring.count 0) (take_outcome NO_EVENT nothing q) (take_outcome DONE (event_of q 0) (without q 1))

-- ---- many events out

-- as many as wait, or as there is room for
unfoldable pub fit_of : ℕ → ℕ → ℕ
fit_of count room = cond (ltb count room) count room

-- the events laid over the records of a slice, as many as fit; later records stay
unfoldable pub laid_over : List Event → List Event → List Event
laid_over [] ys = ys
laid_over (x ∷ xs) [] = []
laid_over (x ∷ xs) (y ∷ ys) = x ∷ laid_over xs ys

-- the answer over lent arrays, with the arrays
abbrev pub batched : Batch → List Float → List Float → List Float → Bulk
batched r onsets frequencies duties = record { count = r.count; queue = queue_of onsets frequencies duties r.ring }

-- how many and the later queue, and the later records
pub record BulkOutcome : Type 0 where
  pub bulk : Bulk
  pub records : List Event

abbrev pub bulk_outcome : Bulk → List Event → BulkOutcome
bulk_outcome r ys = record { bulk = r; records = ys }

abbrev pub drop_of : Queue → ℕ → Bulk
drop_of q n = record { count = n; queue = without q n }

abbrev pub bulk_of : Queue → List Event → BulkOutcome
bulk_of q ys = bulk_outcome (drop_of q (fit_of q.ring.count (length ys))) (laid_over (waiting q) ys)
