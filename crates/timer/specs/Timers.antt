-- A timer, as document 000 has it: Timer, sysclk, timer_rate, timer_period, timer_elapsed, timer_counter,
-- timer_write_ctrl, timer_advance, timers_resync and the timer words of mmio_read. Every f64 operation stands in the
-- Rust's order; a literal is given by its bits.
use Rattle.std.specs.Prelude.{Bool, false, cond, ◌&&◌, ◌||◌, ℕ, ◌+◌, ◌-◌, ◌/◌, ◌%◌, pos, eqb, ltb, Float}
use Rattle.std.specs.Int.Bits.{bit_and, bit_or}
use Rattle.std.specs.Float.{binary64}
use Rattle.std.specs.Float.Ieee.{of_bits, of_int, sub, mul, div, lt, to_unsigned}
use Rattle.whole.specs.Words.{has, lacks}
use Rattle.timer.specs.declared.Timer.{Timer}
use Rattle.timer.specs.declared.Written.{Written}

abbrev pub fresh_timer : Timer
fresh_timer = record { start = of_bits binary64 0; seen = 0; pending = false }

-- 24,000,000.0 for a clock word of 0
unfoldable pub sysclk_of : ℕ → Float
sysclk_of clock = cond (eqb clock 0) (of_bits binary64 0x4176_E360_0000_0000) (of_int binary64 (pos clock))

-- by 256.0, or by 2.0
unfoldable pub rate_of : ℕ → ℕ → Float
rate_of clock control =
    cond (has control 1) (div binary64 (sysclk_of clock) (of_bits binary64 0x4070_0000_0000_0000))
    (div binary64 (sysclk_of clock) (of_bits binary64 0x4000_0000_0000_0000))

-- 65,536 less the word's low 16 bits
abbrev pub period_of : ℕ → ℕ
period_of reload = 0x10000 - reload % 0x10000

-- (now - start) * rate
abbrev pub ticks : Float → Float → Float → Float
ticks start now rate = mul binary64 (sub binary64 now start) rate

-- cut where they are above 0.0
unfoldable pub elapsed_of : Float → Float → Float → ℕ
elapsed_of start now rate = cond (lt (of_bits binary64 0) (ticks start now rate))
    (to_unsigned 64 (ticks start now rate)) 0

-- bit 13 runs the timer
unfoldable pub counter_of : Timer → Float → ℕ → ℕ → ℕ → ℕ → ℕ
counter_of t now clock control reload stored =
    cond (has control 0x2000) ((0x10000 - period_of reload + elapsed_of t.start now (rate_of clock control) % period_of
    reload) % 0x10000) stored

-- what is pending stands in bit 15
unfoldable pub control_of : Timer → ℕ → ℕ
control_of t stored = cond t.pending (bit_or (bit_and stored 0xFFFF_7FFF) 0x8000) (bit_and stored 0xFFFF_7FFF)

-- a written bit 15 clears what is pending
abbrev pub cleared_of : Timer → ℕ → Bool
cleared_of t val = t.pending && lacks val 0x8000

-- a run bit that was clear and is set starts the timer
unfoldable pub written_of : Timer → Float → ℕ → ℕ → Written
written_of t now val old = record {
  timer = cond (has val 0x2000 && lacks old 0x2000)
      (record { start = now; seen = 0; pending = cleared_of t val })
      (record { start = t.start; seen = t.seen; pending = cleared_of t val });
  control = bit_and val 0xFFFF_7FFF;
}

-- bit 14 asks for an interrupt
abbrev pub noted : Timer → ℕ → ℕ → Timer
noted t periods control =
    cond (ltb t.seen periods) (record {
      start = t.start;
      seen = periods;
      pending = t.pending || has control
          0x4000;
    }) t

unfoldable pub advanced_of : Timer → Float → ℕ → ℕ → ℕ → Timer
advanced_of t now clock control reload =
    cond (has control 0x2000) (noted t (elapsed_of t.start now (rate_of clock control) / period_of reload) control) t

-- timers_resync: the periods that have passed, without an interrupt for any
unfoldable pub resynced_of : Timer → Float → ℕ → ℕ → ℕ → Timer
resynced_of t now clock control reload = record {
  start = t.start;
  seen = cond (has control 0x2000) (elapsed_of t.start now (rate_of clock control) / period_of reload) 0;
  pending = t.pending;
}
