-- The states that a run can leave: what waits and where it starts say all of a queue.
use Rattle.std.specs.Prelude.{◌≡◌, List, ℕ, ◌<◌, ◌≤◌, Float, length, get_or}
use Rattle.std.specs.Float.{nan}
use Rattle.timer.specs.declared.Ring.{Ring}
use Rattle.timer.specs.declared.Queue.{Queue}
use Rattle.timer.specs.Events.{place_of}
use Rattle.whole.specs.Forms.{nought}

-- an array of 256 numbers whose free places are zero
pub record Tidy (ring : Ring) (l : List Float) : Type 0 where
  pub size : length l ≡ 256
  pub free : (i : ℕ) → ring.count ≤ i → i < 256 → get_or l (place_of ring i) nan ≡ nought

pub record Canonical (q : Queue) : Type 0 where
  pub onsets : Tidy q.ring q.onsets
  pub frequencies : Tidy q.ring q.frequencies
  pub duties : Tidy q.ring q.duties
  pub most : q.ring.count ≤ 256
  pub within : q.ring.head < 256
  pub start : q.ring.count ≡ 0 → q.ring.head ≡ 0
