-- The next event: next_event. Every f64 operation stands in the Rust's order; a literal is given by its bits.
use Rattle.std.specs.Prelude.{ℕ, ◌+◌, ◌%◌, ◌^◌, Bool, cond, ◌&&◌, ◌||◌, List, pos, ◌==◌, bit_and, from_bits}
use Rattle.std.specs.Prelude.{slice_index_or, Float, Result}
use Rattle.std.specs.Float.{binary64}
use Rattle.std.specs.Float.Ieee.{of_int, add, sub, mul, div, le}
use Rattle.state.specs.Each.{any_of, through}
use Rattle.map.specs.declared.refusals.Refusal.{Refusal}
use Rattle.map.specs.Refusals.{number_of, value_or}
use Rattle.map.specs.Numbers.{DONE, NO_NEXT_TIME, TIMER_COUNT}
use Rattle.timer.specs.declared.Timer.{Timer}
use Rattle.timer.specs.Timers.{period_of, rate_of}
use Rattle.clock.specs.declared.Times.{Times}
use Rattle.keys.specs.declared.Keys.{Keys}
use Rattle.keys.specs.Edges.{min_of, next_edge}
use Rattle.state.specs.declared.Clocks.{Clocks}
use Rattle.time.specs.Clocks.{control_word, reload_word}
use Rattle.time.specs.Irq.{wanted_of}
use Rattle.state.specs.Parts.{none}

-- ---- the parts

-- (n + 1) as f64, in a release build
abbrev pub one_more : ℕ → Float
one_more n = of_int binary64 (pos ((n + 1) % 2 ^ 64))

-- (last_vsync + 1) as f64 / 60.0
unfoldable pub vsync_next : ℕ → Float
vsync_next last = div binary64 (one_more last) (from_bits binary64 0x404E_0000_0000_0000)

-- start + (periods_seen + 1) as f64 * period as f64 / rate
unfoldable pub timer_next : Timer → ℕ → ℕ → ℕ → Float
timer_next t clock control reload =
    add binary64 t.start (div binary64 (mul binary64 (one_more t.seen) (of_int binary64 (pos (period_of reload))))
    (rate_of clock control))

-- now + (game_next - game_time) / turbo, with game_next = (fired + 1) as f64 * 1.0
unfoldable pub game_next : Times → ℕ → Float
game_next t fired =
    add binary64 t.now (div binary64 (sub binary64
    (mul binary64 (one_more fired) (from_bits binary64 0x3FF0_0000_0000_0000)) t.game) t.turbo)

-- ---- the six timers

-- control & 0x6000 == 0x6000
abbrev pub runs : ℕ → Bool
runs control = bit_and control 0x6000 == 0x6000

unfoldable pub pends : List ℕ → ℕ → Timer → Bool
pends slots n t = runs (control_word slots n) && t.pending

unfoldable pub any_pends : List ℕ → List Timer → Bool
any_pends slots ts = any_of (λ n. pends slots n (slice_index_or ts n none)) 0 TIMER_COUNT

-- t = t.min(next), of timer n where it runs
unfoldable pub with_timer : List ℕ → ℕ → Timer → ℕ → Float → Float
with_timer slots n t clock so = cond (runs (control_word slots n))
    (min_of so (timer_next t clock (control_word slots n) (reload_word slots n))) so

unfoldable pub with_timers : List ℕ → List Timer → ℕ → Float → Float
with_timers slots ts clock so = through (λ n x. with_timer slots n (slice_index_or ts n none) clock x) 0 TIMER_COUNT so

-- ---- the whole

-- vertical sync, timers, 1 Hz tick, and the edges of presses and taps
unfoldable pub earliest : List ℕ → List Float → Clocks → Keys → ℕ → Float
earliest slots starts c k clock =
    next_edge starts k c.times.now (min_of (with_timers slots c.timers clock (vsync_next c.vsync))
    (game_next c.times c.irq.fired))

-- now, where something waits already. The Rust's loop over the timers returns now at the first that pends, whatever
-- those before it wait for
unfoldable pub event_of : List ℕ → List Float → Clocks → Keys → ℕ → Float
event_of slots starts c k clock =
    cond (c.converting || wanted_of slots c.timers) c.times.now
    (cond (any_pends slots c.timers) c.times.now (earliest slots starts c k clock))

-- between the least and the greatest f64
abbrev pub finite : Float → Bool
finite t = le (from_bits binary64 0xFFEF_FFFF_FFFF_FFFF) t && le t (from_bits binary64 0x7FEF_FFFF_FFFF_FFFF)

-- 01's number: 13 where the time is not finite, and 0.0 beside it
-- 01's number, and the time
pub record NextTime : Type 0 where
  pub refusal : ℕ
  pub time : Float

-- what a call answers; where it refuses, the time is 0
abbrev pub next_answer : Result Float Refusal → NextTime
next_answer r = record { refusal = number_of r; time = value_or r (from_bits binary64 0) }

unfoldable pub answered : Float → NextTime
answered t = cond (finite t) (record { refusal = DONE; time = t })
    (record { refusal = NO_NEXT_TIME; time = from_bits binary64 0 })

unfoldable pub next_of : List ℕ → List Float → Clocks → Keys → ℕ → NextTime
next_of slots starts c k clock = answered (event_of slots starts c k clock)
