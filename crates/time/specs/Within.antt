-- What holds of the clocks within the limits. Every operation keeps it, so whatever runs over them may carry it along.
use Rattle.std.specs.Prelude.{ℕ, ◌<◌, slice_index_or}
use Rattle.map.specs.Numbers.{TIMER_COUNT}
use Rattle.timer.specs.Within.{Started}
use Rattle.clock.specs.Within.{Within, DaySet, SecondsSeen, SyncsSeen}
use Rattle.state.specs.declared.Clocks.{Clocks}
use Rattle.state.specs.Parts.{none}

pub record ClocksWithin (c : Clocks) : Type 0 where
  pub times : Within c.times
  pub timers : (n : ℕ) → n < TIMER_COUNT → Started (slice_index_or c.timers n none) c.times.now
  pub day : DaySet c.irq c.times.game
  pub seconds : SecondsSeen c.irq.fired c.times.game
  pub syncs : SyncsSeen c.vsync c.times.now
