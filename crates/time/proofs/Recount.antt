-- Period counts that are recomputed leave each timer its start and what is pending.
use Rattle.std.proofs.Common.{◌≡◌, ℕ, zero, suc, ◌<◌, List, get_or, refl, ap, arith}
use lib.Ieee.{Float}
use Rattle.map.specs.Numbers.{TIMER_COUNT}
use Rattle.timer.specs.declared.Timer.{Timer}
use Rattle.timer.specs.Timers.{resynced_of}
use Rattle.state.specs.Parts.{none}
use Rattle.time.specs.Clocks.{control_word, reload_word}
use Rattle.time.specs.Resync.{timers_resynced}

module _ (slots : List ℕ) (ts : List Timer) (now : Float) (clock : ℕ) where
  abbrev resynced_at : ℕ → Timer
  resynced_at n = resynced_of (get_or ts n none) now clock (control_word slots n) (reload_word slots n)

  resynced_at_lem : (n : ℕ) → n < TIMER_COUNT → get_or (timers_resynced slots ts now clock) n none ≡ resynced_at n
  unfolding timers_resynced
  resynced_at_lem zero less = refl
  resynced_at_lem (suc zero) less = refl
  resynced_at_lem (suc (suc zero)) less = refl
  resynced_at_lem (suc (suc (suc zero))) less = refl
  resynced_at_lem (suc (suc (suc (suc zero)))) less = refl
  resynced_at_lem (suc (suc (suc (suc (suc zero))))) less = refl
  resynced_at_lem (suc (suc (suc (suc (suc (suc n)))))) less = absurd (over n less)
    where
      over : (n : ℕ) → suc (suc (suc (suc (suc (suc n))))) < 6 → ⊥
      over n h = omega arith

  pub resync_start : (n : ℕ) → n < TIMER_COUNT
      → (get_or (timers_resynced slots ts now clock) n none).start ≡ (get_or ts n none).start
  unfolding resynced_of
  resync_start n less = ap (λ (t : Timer). t.start) (resynced_at_lem n less)

  pub resync_pending : (n : ℕ) → n < TIMER_COUNT
      → (get_or (timers_resynced slots ts now clock) n none).pending ≡ (get_or ts n none).pending
  unfolding resynced_of
  resync_pending n less = ap (λ (t : Timer). t.pending) (resynced_at_lem n less)
