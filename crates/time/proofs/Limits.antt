-- The clocks stay within the limits, whatever is done to them, and neither time goes back.
use Rattle.std.proofs.Common.{◌≡◌, ℕ, zero, suc, ◌^◌, ◌<◌, Bool, List, [], ◌∷◌, get_or, set, refl, arith, lit<}
use lib.Ieee.{Float, of_bits}
use Rattle.std.specs.Prelude.{Err, Ok}
use Rattle.whole.proofs.Clear.{at_most_clear}
use Rattle.whole.proofs.Order.{good_clear, le_refl_clear}
use Rattle.timer.specs.declared.Timer.{Timer}
use Rattle.timer.specs.Timers.{fresh_timer, written_of, resynced_of}
use Rattle.timer.specs.Within.{Started}
use Rattle.timer.proofs.Limits.{advance_started, resync_started, fresh_started, write_started, later_started}
use Rattle.clock.specs.declared.Times.{Times}
use Rattle.clock.specs.Times.{Moved}
use Rattle.clock.specs.Times.{fresh_times, moved_of, paced_of}
use Rattle.clock.specs.Day.{set_of}
use Rattle.clock.specs.Within.{Within, Later, DaySet}
use Rattle.clock.proofs.TimeLimits as time_limits
use Rattle.clock.proofs.TimeLimits.{moves_within, paces_within}
use Rattle.clock.proofs.DayLimits.{later_day, sets_day, fresh_day}
use Rattle.clock.proofs.SourceLimits.{ticks_seconds, vsyncs_seen, fresh_seconds, fresh_syncs}
use Rattle.keys.specs.declared.Keys.{Keys}
use Rattle.state.specs.declared.Clocks.{Clocks}
use Rattle.time.specs.Clocks.{fresh_clocks, control_word, reload_word}
use Rattle.state.specs.Parts.{none, times_with, timer_with, irq_with, converting_with}
use Rattle.time.specs.Advance.{timer_after, timers_after, synced_of, converted_in, ticked_in, devices_of, moved_to}
use Rattle.time.specs.Advance.{by_move, advance_of}
use Rattle.time.specs.Resync.{timers_resynced, clocks_resynced}
use Rattle.time.specs.Within.{ClocksWithin}

-- ---- what holds of each of six timers
six : (P : Timer → Type 0) (a b c d e f : Timer) → P a → P b → P c → P d → P e → P f → (n : ℕ) → n < 6
    → P (get_or (a ∷ b ∷ c ∷ d ∷ e ∷ f ∷ []) n none)
six P a b c d e f p q r s t u zero h = p
six P a b c d e f p q r s t u (suc zero) h = q
six P a b c d e f p q r s t u (suc (suc zero)) h = r
six P a b c d e f p q r s t u (suc (suc (suc zero))) h = s
six P a b c d e f p q r s t u (suc (suc (suc (suc zero)))) h = t
six P a b c d e f p q r s t u (suc (suc (suc (suc (suc zero))))) h = u
six P a b c d e f p q r s t u (suc (suc (suc (suc (suc (suc n)))))) h = absurd (over n h)
  where
    over : (n : ℕ) → suc (suc (suc (suc (suc (suc n))))) < 6 → ⊥
    over n h = omega arith

replaced : (P : Timer → Type 0) (ts : List Timer) (n : ℕ) (t : Timer) (i : ℕ) → P t → P (get_or ts i none)
    → P (get_or (set ts n t) i none)
replaced P [] n t i p q = q
replaced P (x ∷ ts) zero t zero p q = p
replaced P (x ∷ ts) zero t (suc i) p q = q
replaced P (x ∷ ts) (suc n) t zero p q = q
replaced P (x ∷ ts) (suc n) t (suc i) p q = replaced P ts n t i p q

pub fresh_within : ClocksWithin fresh_clocks
unfolding fresh_clocks of_bits
fresh_within = record {
  times = time_limits.fresh_within;
  timers = six (λ (t : Timer). Started t fresh_times.now) _ _ _ _ _ _ started started started started started started;
  day = fresh_day fresh_times.game (time_limits.fresh_within).game_limit;
  seconds = fresh_seconds;
  syncs = fresh_syncs;
}
  where
    started : Started fresh_timer fresh_times.now
    started = fresh_started fresh_times.now tt

-- ---- an advance
module _ (slots : List ℕ) (c : Clocks) (clock : ℕ) (t : Times) (w : ClocksWithin c) (h : clock < 2 ^ 32) (v : Within t)
    (l : Later c.times t) where
  each : (n : ℕ) → n < 6 → Started (timer_after slots n (get_or c.timers n none) t.now clock) t.now
  unfolding timer_after
  each n i =
      advance_started (get_or c.timers n none) t.now clock (control_word slots n)
      (later_started (get_or c.timers n none) c.times.now t.now (w.timers n i) w.times.now_good
      v.now_good l.now_later)
      v.now_good h (reload_word slots n)

  timers_started : (n : ℕ) → n < 6 → Started (get_or (timers_after slots c.timers t.now clock) n none) t.now
  unfolding timers_after
  timers_started =
      six (λ (u : Timer). Started u t.now) _ _ _ _ _ _ (each 0 (lit< tt)) (each 1 (lit< tt)) (each 2 (lit< tt))
      (each 3 (lit< tt))
      (each 4 (lit< tt)) (each 5 (lit< tt))

  day_later : DaySet c.irq t.game
  day_later = later_day c.irq c.times.game t.game w.times.game_limit v.game_limit l.game_later
      w.day

  devices_within : ClocksWithin (devices_of slots c clock t).clocks
  unfolding devices_of synced_of converted_in ticked_in
  devices_within = record {
    times = v;
    timers = timers_started;
    day = record { base = day_later.base; set = day_later.set };
    seconds = ticks_seconds c.irq.fired _ c.times.game t.game w.seconds w.times.game_limit
        v.game_limit l.game_later;
    syncs = vsyncs_seen c.vsync _ c.times.now t.now w.syncs w.times.now_good v.now_good
        l.now_later;
  }

module _ (slots gpio : List ℕ) (starts : List Float) (codes : List ℕ) (c : Clocks) (k : Keys) (clock : ℕ) (to : Float)
    (w : ClocksWithin c) where
  -- AN ADVANCE KEEPS THE LIMITS
  pub advance_within : clock < 2 ^ 32 → ClocksWithin (advance_of slots gpio starts codes c k clock to).clocks
  unfolding advance_of by_move moved_to
  advance_within h = by (moved_of c.times to) refl
    where
      by : (m : Moved) → moved_of c.times to ≡ m → ClocksWithin (by_move slots gpio starts codes c k clock m).clocks
      by (Ok t) e = let p : Within t × Later c.times t = moves_within c.times t to w.times e in
          devices_within slots c clock t w h p.0 p.1
      by (Err r) e = w

  -- and neither time goes back
  pub later_times : Later c.times (advance_of slots gpio starts codes c k clock to).clocks.times
  unfolding advance_of by_move moved_to devices_of
  later_times = by (moved_of c.times to) refl
    where
      by : (m : Moved) → moved_of c.times to ≡ m
          → Later c.times (by_move slots gpio starts codes c k clock m).clocks.times
      by (Ok t) e = (moves_within c.times t to w.times e).1
      by (Err r) e = record {
        now_later = le_refl_clear c.times.now (good_clear c.times.now w.times.now_good);
        game_later = le_refl_clear c.times.game (at_most_clear c.times.game (2 ^ 31) w.times.game_limit);
      }

-- ---- the periods seen, counted anew
pub resynced_within : (slots : List ℕ) (c : Clocks) (clock : ℕ) → clock < 2 ^ 32 → ClocksWithin c
    → ClocksWithin (clocks_resynced slots c clock)
unfolding clocks_resynced timers_resynced
resynced_within slots c clock h w = record {
  times = w.times;
  timers = six (λ (t : Timer). Started t c.times.now) _ _ _ _ _ _ (each 0 (lit< tt)) (each 1 (lit< tt))
      (each 2 (lit< tt)) (each 3 (lit< tt)) (each 4 (lit< tt)) (each 5 (lit< tt));
  day = w.day;
  seconds = w.seconds;
  syncs = w.syncs;
}
  where
    each : (n : ℕ) → n < 6
        → Started (resynced_of (get_or c.timers n none) c.times.now clock (control_word slots n)
        (reload_word slots n)) c.times.now
    each n i =
        resync_started (get_or c.timers n none) c.times.now clock (control_word slots n) (w.timers n i)
        w.times.now_good h (reload_word slots n)

-- ---- a write of a register, and another turbo
module _ (c : Clocks) (w : ClocksWithin c) where
  pub timer_within : (n val old : ℕ) → n < 6
      → ClocksWithin (timer_with c n (written_of (get_or c.timers n none) c.times.now val old).timer)
  timer_within n val old h = record {
    times = w.times;
    timers = λ i. λ l. replaced (λ (t : Timer). Started t c.times.now) c.timers n
        (written_of (get_or c.timers n none) c.times.now val old).timer i
        (write_started (get_or c.timers n none) c.times.now val old (w.timers n h) w.times.now_good)
        (w.timers i l);
    day = w.day;
    seconds = w.seconds;
    syncs = w.syncs;
  }

  pub day_within : (field value : ℕ) → ClocksWithin (irq_with c (set_of c.irq c.times.game field value))
  unfolding set_of
  day_within field value = record {
    times = w.times;
    timers = w.timers;
    day = sets_day c.irq c.times.game field value w.times.game_limit;
    seconds = w.seconds;
    syncs = w.syncs;
  }

  pub adc_within : (converting : Bool) → ClocksWithin (converting_with c converting)
  adc_within converting = record {
    times = w.times;
    timers = w.timers;
    day = w.day;
    seconds = w.seconds;
    syncs =
        w.syncs;
  }

  pub turbo_within : (t : Times) (to : Float) → paced_of c.times to ≡ Ok t → ClocksWithin (times_with c t)
  turbo_within t to e =
      let p : Within t × (t.now ≡ c.times.now) × (t.game ≡ c.times.game) = paces_within c.times t to
      w.times e in
      record {
        times = p.0;
        timers = λ n. λ l. rw p.1 (w.timers n l);
        day = rw p.2 w.day;
        seconds = rw p.2 w.seconds;
        syncs = rw p.1 w.syncs;
      }
