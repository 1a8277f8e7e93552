-- The periodic sources, as document 000 has them: vsync in advance, rtc_irq_advance, rtc_irq_line.
use Rattle.std.specs.Prelude.{ℕ, cond, bit_or, from_bits, nat_lt, Float}
use Rattle.std.specs.Float.{binary64}
use Rattle.std.specs.Float.Ieee.{mul, div, to_unsigned}
use Rattle.map.specs.Numbers.{RTC_TICK_BIT}
use Rattle.clock.specs.declared.RtcIrq.{RtcIrq}
use Rattle.clock.specs.declared.Signal.{Signal}
use Rattle.clock.specs.declared.Ticked.{Ticked}

-- more whole periods than were seen set a bit of the status
unfoldable pub signal_of : ℕ → ℕ → ℕ → ℕ → Signal
signal_of n seen status bit = cond (nat_lt seen n) (record { seen = n; status = bit_or status bit })
    (record { seen = seen; status = status })

-- (now * 60.0) as u64
abbrev pub vsync_of : ℕ → Float → ℕ → Signal
vsync_of last now status = signal_of (to_unsigned 64 (mul binary64 now (from_bits binary64 0x404E_0000_0000_0000))) last
    status 0x2000

-- (game / 1.0) as u64
abbrev pub tick_of : ℕ → Float → ℕ → Signal
tick_of fired game status = signal_of (to_unsigned 64 (div binary64 game
    (from_bits binary64 0x3FF0_0000_0000_0000))) fired
    status RTC_TICK_BIT

abbrev pub ticked_of : RtcIrq → Float → ℕ → Ticked
ticked_of irq game status = record {
  irq = record { fired = (tick_of irq.fired game status).seen; base = irq.base; set = irq.set };
  status = (tick_of irq.fired game status).status;
}
