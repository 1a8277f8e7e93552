-- The same events in the first places: what a saved session says of a queue.
use Rattle.std.specs.Prelude.{ℕ, cond, List, ltb, Float, get_or}
use Rattle.std.specs.Float.{nan}
use Rattle.whole.specs.Forms.{nought}
use Rattle.whole.specs.Rows.{tabled}
use Rattle.timer.specs.declared.Ring.{Ring}
use Rattle.timer.specs.declared.Queue.{Queue}
use Rattle.timer.specs.Events.{ring_of, place_of, queue_of}

-- how many events 256 places hold: a count above 256 counts as 256
abbrev pub held_of : Ring → ℕ
held_of ring = cond (ltb ring.count 256) ring.count 256

-- what the i-th event has, and 0.0 past the last
abbrev pub straight_at : Ring → List Float → ℕ → Float
straight_at ring l i = cond (ltb i (held_of ring)) (get_or l (place_of ring i) nan) nought

unfoldable pub straight : Ring → List Float → List Float
straight ring l = tabled (λ i. straight_at ring l i) 256

unfoldable pub straightened : Queue → Queue
straightened q =
    queue_of (straight q.ring q.onsets) (straight q.ring q.frequencies) (straight q.ring q.duties)
    (ring_of 0 (held_of q.ring))
