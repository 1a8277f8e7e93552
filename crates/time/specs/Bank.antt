-- What the calls leave of the bank's parts, and of the arrays that are lent beside it.
use Rattle.std.specs.Prelude.{ℕ, List, Float, Err, Ok}
use Rattle.map.specs.Refusals.{code_of}
use Rattle.clock.specs.Times.{Moved}
use Rattle.timer.specs.declared.Event.{Event}
use Rattle.timer.specs.Events.{TakeOutcome}
use Rattle.keys.specs.Live as live
use Rattle.keys.specs.Script as script
use Rattle.state.specs.declared.Parts.{Parts}
use Rattle.state.specs.Parts.{clocks_put, times_put, ring_put, keys_put, count_put}
use Rattle.state.specs.Parts.{applied_put}
use Rattle.time.specs.Advance as move

-- ---- advance

-- the words with storage of their own, the GPIO memory, 01's number, and the parts
pub record MovedBank : Type 0 where
  pub slots : List ℕ
  pub gpio : List ℕ
  pub refusal : ℕ
  pub parts : Parts

abbrev pub moved_bank : List ℕ → List ℕ → ℕ → Parts → MovedBank
moved_bank slots gpio n x = record { slots = slots; gpio = gpio; refusal = n; parts = x }

abbrev pub moves_of : Parts → move.Outcome → MovedBank
moves_of x o = moved_bank o.slots o.gpio o.refusal (applied_put (clocks_put x o.clocks) o.applied)

-- ---- turbo and keys

-- the parts, and 01's number
pub record Asked : Type 0 where
  pub parts : Parts
  pub refusal : ℕ

abbrev pub asked : Parts → ℕ → Asked
asked x n = record { parts = x; refusal = n }

abbrev pub paced_put : Parts → Moved → Asked
paced_put x (Ok t) = asked (times_put x t) 0
paced_put x (Err r) = asked x (code_of r)

abbrev pub keys_asked : Parts → live.Outcome → Asked
keys_asked x o = asked (keys_put x o.keys) o.refusal

-- with the times at which presses start, and their keys
pub record Pressed : Type 0 where
  pub starts : List Float
  pub codes : List ℕ
  pub asked : Asked

abbrev pub pressed : List Float → List ℕ → Asked → Pressed
pressed t c x = record { starts = t; codes = c; asked = x }

abbrev pub pressed_of : Parts → script.Outcome → Pressed
pressed_of x o = pressed o.script.starts o.script.codes (asked (count_put x o.script.count) o.refusal)

-- ---- sound events

-- with the queue's onsets, frequencies and duties, and the oldest event
pub record Took : Type 0 where
  pub onsets : List Float
  pub frequencies : List Float
  pub duties : List Float
  pub asked : Asked
  pub event : Event

abbrev pub took : List Float → List Float → List Float → Asked → Event → Took
took a f u x e = record { onsets = a; frequencies = f; duties = u; asked = x; event = e }

abbrev pub took_of : Parts → TakeOutcome → Took
took_of x o =
    took o.queue.onsets o.queue.frequencies o.queue.duties
    (asked (ring_put x o.queue.ring) o.refusal) o.event
