-- Within the limits every number of ticks that is cut is at most 2 ^ 52, so the cut is its whole part; and timers
-- stay within them.
use mathlib.Core.Path.{◌≡◌, sym, subst}
use mathlib.Core.Bool.{Bool, false, cond, ◌&&◌, ◌||◌}
use Prim.Native.Nat.{ℕ, zero, suc, ◌/◌, ◌^◌, ◌≤◌, ◌<◌}
use native.Mathlib.Nat.{le_of_lt, le_of_eq, le_trans, zero-lt-suc, div-le_self}
use native.Mathlib.Omega.{arith}
use lib.IntN.{pos}
use lib.Dec.{T, eqb, ltb, lit<, lit≤}
use lib.Ieee.{Float, fin, binary64, of_bits, of_int, sub, div, le, to_unsigned}
use borrow.Author.Tests.{ne_eqb}
use Rattle.whole.specs.Bounds.{AtMost, AtLeast, WholePart}
use Rattle.whole.specs.Limits.{good_time}
use Rattle.whole.specs.Words.{has, lacks}
use Rattle.whole.proofs.Clear.{at_most_clear}
use Rattle.whole.proofs.Words.{either}
use Rattle.whole.proofs.Cuts.{whole_part, above_zero}
use Rattle.whole.proofs.Round.{weaken, weaken_least, of_int_at_most, of_int_at_least, mul_at_most, sub_at_most, div_pow}
use Rattle.whole.proofs.Round.{div_pow_least, cut_at_most, good_at_most}
use Rattle.whole.proofs.Order.{good_clear, le_trans_clear, le_refl_clear, zero_least}
use Rattle.whole.proofs.Mono.{sub_mono, mul_mono, cut_mono}
use Rattle.timer.specs.declared.Timer.{Timer}
use Rattle.timer.specs.Timers.{sysclk_of, rate_of, ticks, elapsed_of, written_of, cleared_of, noted, advanced_of}
use Rattle.timer.specs.Timers.{period_of, fresh_timer, resynced_of}
use Rattle.timer.specs.Within.{Started}

-- ---- the rate, for every clock word
clock_at_most : (clock : ℕ) → clock < 2 ^ 32 → AtMost (sysclk_of clock) (2 ^ 32)
unfolding sysclk_of of_bits
clock_at_most clock h =
    either (λ (x : Float). AtMost x (2 ^ 32)) (eqb clock 0) (of_bits binary64 0x4176_E360_0000_0000)
    (of_int binary64 (pos clock)) (lit≤ tt)
    (of_int_at_most 32 clock (lit< tt) (le_of_lt h))

clock_at_least : (clock : ℕ) → clock < 2 ^ 32 → AtLeast (sysclk_of clock) 1
unfolding sysclk_of of_bits
clock_at_least zero h = lit≤ tt
clock_at_least (suc n) h =
    subst (λ (b : Bool). AtLeast (cond b (of_bits binary64 0x4176_E360_0000_0000) (of_int binary64 (pos (suc n)))) 1)
    (sym (ne_eqb (suc n) 0 (λ e. omega arith)))
    (of_int_at_least (suc n) (2 ^ 32) (zero-lt-suc n) (of_int_at_most 32 (suc n) (lit< tt) (le_of_lt h)))

module _ (clock control : ℕ) (h : clock < 2 ^ 32) where
  slow : AtMost (div binary64 (sysclk_of clock) (fin false 1 (pos 8))) (2 ^ 24)
  slow = div_pow (sysclk_of clock) 8 24 (lit< tt) (clock_at_most clock h)

  fast : AtMost (div binary64 (sysclk_of clock) (fin false 1 (pos 1))) (2 ^ 31)
  fast = div_pow (sysclk_of clock) 1 31 (lit< tt) (clock_at_most clock h)

  pub rate_at_most : AtMost (rate_of clock control) (2 ^ 31)
  unfolding rate_of of_bits
  rate_at_most =
      either (λ (x : Float). AtMost x (2 ^ 31)) (has control 1) (div binary64 (sysclk_of clock) (fin false 1 (pos 8)))
      (div binary64 (sysclk_of clock) (fin false 1 (pos 1)))
      (weaken (div binary64 (sysclk_of clock) (fin false 1 (pos 8))) (2 ^ 24) (2 ^ 31) (lit≤ tt) slow) fast

  pub rate_at_least : AtLeast (rate_of clock control) (2 ^ 8)
  unfolding rate_of of_bits
  rate_at_least =
      either (λ (x : Float). AtLeast x (2 ^ 8)) (has control 1) (div binary64 (sysclk_of clock) (fin false 1 (pos 8)))
      (div binary64 (sysclk_of clock) (fin false 1 (pos 1)))
      (div_pow_least (sysclk_of clock) 8 0 (2 ^ 24) (lit≤ tt) (clock_at_least clock h) slow)
      (weaken_least (div binary64 (sysclk_of clock) (fin false 1 (pos 1))) 2 (2 ^ 8) (lit≤ tt)
      (div_pow_least (sysclk_of clock) 1 0 (2 ^ 31) (lit≤ tt) (clock_at_least clock h) fast))

-- ---- what is cut
module _ (t : Timer) (now : Float) (clock control : ℕ) (s : Started t now) (g : T (good_time now))
    (h : clock < 2 ^ 32) where
  abbrev since : Float
  since = ticks t.start now (rate_of clock control)

  pub ticks_at_most : AtMost since (2 ^ 52)
  ticks_at_most =
      mul_at_most (sub binary64 now t.start) (rate_of clock control) 21 31 (lit< tt)
      (sub_at_most now t.start (2 ^ 21) 21 (lit< tt) (good_at_most now g) (good_at_most t.start s.good)
      s.before) (rate_at_most clock control h)

  pub elapsed_is : elapsed_of t.start now (rate_of clock control) ≡ to_unsigned 64 since
  unfolding elapsed_of
  elapsed_is = above_zero since (at_most_clear since (2 ^ 52) ticks_at_most)

  -- THE CUT IS EXACT: the elapsed ticks are the whole part of (now - start) * rate, and below 2 ^ 53
  pub elapsed_exact : WholePart since (elapsed_of t.start now (rate_of clock control))
  elapsed_exact = subst (WholePart since) (sym elapsed_is) (whole_part since (2 ^ 52) (lit< tt) ticks_at_most)

  pub elapsed_limit : elapsed_of t.start now (rate_of clock control) ≤ 2 ^ 52
  elapsed_limit = le_trans (le_of_eq elapsed_is) (cut_at_most since (2 ^ 52) ticks_at_most)

  -- an advance keeps the limits
  pub advance_started : (reload : ℕ) → Started (advanced_of t now clock control reload) now
  unfolding advanced_of
  advance_started reload =
      let periods = elapsed_of t.start now (rate_of clock control) / period_of reload in
      either (λ (u : Timer). Started u now) (has control 0x2000) (noted t periods control) t
      (either (λ (u : Timer). Started u now) (ltb t.seen periods)
      (record { start = t.start; seen = periods; pending = t.pending || has control 0x4000 }) t
      (record {
        good = s.good;
        before = s.before;
        limit = le_trans (div-le_self (elapsed_of t.start now (rate_of clock control)) (period_of reload))
            elapsed_limit;
      }) s) s

  -- and so do period counts that are recomputed
  pub resync_started : (reload : ℕ) → Started (resynced_of t now clock control reload) now
  unfolding resynced_of
  resync_started reload = record {
    good = s.good;
    before = s.before;
    limit = either (λ (n : ℕ). n ≤ 2 ^ 52) (has control 0x2000) _ 0
        (le_trans (div-le_self (elapsed_of t.start now (rate_of clock control)) (period_of reload)) elapsed_limit)
        (lit≤ tt);
  }

-- a fresh timer, a write of the control word, and time that goes on
pub fresh_started : (now : Float) → T (good_time now) → Started fresh_timer now
unfolding of_bits
fresh_started now g = record { good = tt; before = zero_least now (good_clear now g); limit = lit≤ tt }

pub write_started : (t : Timer) (now : Float) (val old : ℕ) → Started t now → T (good_time now)
    → Started (written_of t now val old).timer now
unfolding written_of
write_started t now val old s g =
    either (λ (u : Timer). Started u now) (has val 0x2000 && lacks old 0x2000)
    (record { start = now; seen = 0; pending = cleared_of t val })
    (record { start = t.start; seen = t.seen; pending = cleared_of t val })
    (record { good = g; before = le_refl_clear now (good_clear now g); limit = lit≤ tt })
    (record { good = s.good; before = s.before; limit = s.limit })

pub later_started : (t : Timer) (now later : Float) → Started t now → T (good_time now) → T (good_time later)
    → T (le now later) → Started t later
later_started t now later s g k l = record {
  good = s.good;
  before = le_trans_clear t.start now later (good_clear t.start s.good) (good_clear now g)
      (good_clear later k) s.before l;
  limit = s.limit;
}

-- TIME GOES ON: at a later time no fewer ticks have elapsed
pub elapsed_goes_on : (t : Timer) (now later : Float) (clock control : ℕ) → Started t now → T (good_time now)
    → T (good_time later) → T (le now later)
    → clock < 2 ^ 32
    → elapsed_of t.start now (rate_of clock control) ≤ elapsed_of t.start later (rate_of clock control)
elapsed_goes_on t now later clock control s g k l h =
    let r = rate_of clock control in
    let u : Started t later = later_started t now later s g k l in
    let first : AtMost (ticks t.start now r) (2 ^ 52) = ticks_at_most t now clock control s g h in
    let last : AtMost (ticks t.start later r) (2 ^ 52) = ticks_at_most t later clock control u k h in
    let a : AtMost (sub binary64 now t.start) (2 ^ 21) = passed now s g in
    let b : AtMost (sub binary64 later t.start) (2 ^ 21) = passed later u k in
    le_trans (le_of_eq (elapsed_is t now clock control s g h))
    (le_trans (cut_mono (ticks t.start now r) (ticks t.start later r)
    (at_most_clear (ticks t.start now r) (2 ^ 52) first)
    (at_most_clear (ticks t.start later r) (2 ^ 52) last)
    (mul_mono (sub binary64 now t.start) (sub binary64 later t.start) r
    (at_most_clear (sub binary64 now t.start) (2 ^ 21) a)
    (at_most_clear (sub binary64 later t.start) (2 ^ 21) b)
    (at_most_clear r (2 ^ 31) (rate_at_most clock control h))
    (sub_mono now later t.start (good_clear now g) (good_clear later k) (good_clear t.start s.good) l
    s.before u.before)))
    (le_of_eq (sym (elapsed_is t later clock control u k h))))
  where
    passed : (x : Float) → Started t x → T (good_time x) → AtMost (sub binary64 x t.start) (2 ^ 21)
    passed x s g = sub_at_most x t.start (2 ^ 21) 21 (lit< tt) (good_at_most x g)
        (good_at_most t.start s.good) s.before
