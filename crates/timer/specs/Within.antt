-- What holds of timers, tones and events within the limits. Every operation keeps `Started`, `ToneFinite` and
-- `EventsWithin`, so whatever runs over timers may carry them along.
use Rattle.std.specs.Prelude.{ℕ, ◌^◌, ◌≤◌, ◌<◌, T, Float}
use Rattle.std.specs.Float.{binary64}
use Rattle.std.specs.Float.Ieee.{of_bits, le}
use Rattle.whole.specs.Bounds.{AtMost}
use Rattle.whole.specs.Limits.{finite, good_time}
use Rattle.timer.specs.declared.Timer.{Timer}
use Rattle.timer.specs.declared.Tone.{Tone}
use Rattle.timer.specs.declared.Event.{Event}
use Rattle.timer.specs.declared.Queue.{Queue}
use Rattle.timer.specs.Events.{event_of}

-- its start is a good time that does not lie after now, and what was seen is below 2 ^ 53
pub record Started (t : Timer) (now : Float) : Type 0 where
  pub good : T (good_time t.start)
  pub before : T (le t.start now)
  pub limit : t.seen ≤ 2 ^ 52

-- 0.05 and 0.95
abbrev pub low : Float
low = of_bits binary64 0x3FA9_9999_9999_999A

abbrev pub high : Float
high = of_bits binary64 0x3FEE_6666_6666_6666

-- of a tone that timer 4's words give: its frequency is finite, and its duty is held within 0.05 and 0.95
pub record ToneWithin (tone : Tone) : Type 0 where
  pub frequency : AtMost tone.frequency (2 ^ 31)
  pub from : T (le low tone.duty)
  pub to : T (le tone.duty high)

-- of any tone: both its numbers are finite, and no more is asked of one that a saved session says
pub record ToneFinite (tone : Tone) : Type 0 where
  pub frequency : T (finite tone.frequency)
  pub duty : T (finite tone.duty)

-- an event's time is a good one, and the numbers of its tone are finite
pub record EventWithin (e : Event) : Type 0 where
  pub time : T (good_time e.time)
  pub frequency : T (finite e.frequency)
  pub duty : T (finite e.duty)

-- so is every event that waits
abbrev pub EventsWithin : Queue → Type 0
EventsWithin q = (i : ℕ) → i < q.ring.count → EventWithin (event_of q i)
