-- timers_resync: the period counts as they are recomputed after a resume.
use Rattle.std.specs.Prelude.{ℕ, List, slice_index_or, Float}
use Rattle.map.specs.Numbers.{TIMER_COUNT}
use Rattle.timer.specs.declared.Timer.{Timer}
use Rattle.timer.specs.Timers.{resynced_of}
use Rattle.state.specs.declared.Clocks.{Clocks}
use Rattle.state.specs.Each.{list_of}
use Rattle.state.specs.Parts.{none, timers_with}
use Rattle.time.specs.Clocks.{control_word, reload_word}

unfoldable pub timers_resynced : List ℕ → List Timer → Float → ℕ → List Timer
timers_resynced slots ts now clock =
    list_of (λ n. resynced_of (slice_index_or ts n none) now clock (control_word slots n) (reload_word slots n)) 0
    TIMER_COUNT

-- by the words and the system clock's
unfoldable pub clocks_resynced : List ℕ → Clocks → ℕ → Clocks
clocks_resynced slots c clock = timers_with c (timers_resynced slots c.timers c.times.now clock)
