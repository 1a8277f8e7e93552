-- The branches of the definitions, as the functions meet them.
use Rattle.std.proofs.Common.{◌≡◌, ℕ, Bool, true, false, ◌||◌, List, get_or}
use mathlib.Core.Bool.{and-false}
use lib.Ieee.{Float, binary64, of_bits}
use Rattle.map.specs.Numbers.{DONE, NO_NEXT_TIME}
use Rattle.whole.proofs.Choice.{neither}
use Rattle.timer.specs.declared.Timer.{Timer}
use Rattle.clock.specs.declared.Times.{Times}
use Rattle.keys.specs.declared.Keys.{Keys}
use Rattle.keys.specs.Edges.{min_of}
use Rattle.state.specs.declared.Clocks.{Clocks}
use Rattle.time.specs.Clocks.{control_word, reload_word}
use Rattle.time.specs.Irq.{pending_at, timer_line, wanted_of}
use Rattle.state.specs.Parts.{none}
use Rattle.time.specs.Next.{timer_next, runs, pends, any_pends, with_timer, with_timers, earliest, event_of}
use Rattle.time.specs.Next.{finite, answered}

-- ---- the next event
module _ (slots : List ℕ) (n : ℕ) (t : Timer) (clock : ℕ) (so : Float) (control : ℕ) (b : Bool)
    (h : control ≡ control_word slots n) (e : b ≡ runs control) where
  pub timer_runs : {u : Timer} {reload : ℕ} {next r : Float} → b ≡ true → reload ≡ reload_word slots n → u ≡ t
      → next ≡ timer_next u clock control reload → r ≡ min_of so next → r ≡ with_timer slots n t clock so
  unfolding with_timer
  timer_runs y k u f g = rw (← h, ← e, y, ← k, ← u, ← f) g

  pub timer_stands : b ≡ false → so ≡ with_timer slots n t clock so
  unfolding with_timer
  timer_stands y = rw (← h, ← e, y)

pub timers_ahead : (slots : List ℕ) (ts : List Timer) (clock : ℕ) (so a b c d e f : Float)
    → a ≡ with_timer slots 0 (get_or ts 0 none) clock so
    → b ≡ with_timer slots 1 (get_or ts 1 none) clock a → c ≡ with_timer slots 2 (get_or ts 2 none) clock b
    → d ≡ with_timer slots 3 (get_or ts 3 none) clock c
    → e ≡ with_timer slots 4 (get_or ts 4 none) clock d → f ≡ with_timer slots 5 (get_or ts 5 none) clock e
    → f ≡ with_timers slots ts clock so
unfolding with_timers
timers_ahead slots ts clock so a b c d e f g h i j k l = rw (← g, ← h, ← i, ← j, ← k) l

-- where no timer is pending, none runs and is pending
pub none_pends : (slots : List ℕ) (ts : List Timer) → timer_line ts ≡ false → any_pends slots ts ≡ false
unfolding timer_line any_pends pends
none_pends slots ts h =
    let a = neither (pending_at ts 0) _ h in
    let b = neither (pending_at ts 1) _ a.1 in
    let c = neither (pending_at ts 2) _ b.1 in
    let d = neither (pending_at ts 3) _ c.1 in
    let e = neither (pending_at ts 4) _ d.1 in
    simp (a.0, b.0, c.0, d.0, e.0, e.1, and-false)

module _ (slots : List ℕ) (starts : List Float) (c : Clocks) (k : Keys) (clock : ℕ) {on wanted : Bool}
    (f : on ≡ c.converting) (w : wanted ≡ wanted_of slots c.timers) where
  pub event_wanted : {t : Times} → t ≡ c.times → (on || wanted) ≡ true → t.now ≡ event_of slots starts c k clock
  unfolding event_of
  event_wanted e h = let g = rw (f, w) at h in rw (g, e)

  module _ {p : Bool} (h : (on || wanted) ≡ false) (q : p ≡ any_pends slots c.timers) where
    pub event_pends : {t : Times} → t ≡ c.times → p ≡ true → t.now ≡ event_of slots starts c k clock
    unfolding event_of
    event_pends e y = let g = rw (f, w) at h in rw (g, ← q, y, e)

    pub event_ahead : {r : Float} → p ≡ false → r ≡ earliest slots starts c k clock → r ≡ event_of slots starts c k
        clock
    unfolding event_of
    event_ahead y e = let g = rw (f, w) at h in rw (g, ← q, y) e

module _ (t : Float) (b : Bool) (e : b ≡ finite t) where
  pub answers_time : b ≡ true → record { refusal = DONE; time = t } ≡ answered t
  unfolding answered
  answers_time h = rw (← e, h)

  pub answers_none : b ≡ false → record { refusal = NO_NEXT_TIME; time = of_bits binary64 0 } ≡ answered t
  unfolding answered
  answers_none h = rw (← e, h)
