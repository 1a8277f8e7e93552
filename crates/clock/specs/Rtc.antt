-- The RTC chip, as document 000 has it: Rtc, ticks, alarm_ticks, rtc_command. An i64 is given by its 64 bits.
use Rattle.std.specs.Prelude.{ℕ, ◌+◌, ◌-◌, ◌*◌, ◌/◌, ◌%◌, ◌^◌, cond, ◌&&◌, List, replicate, ◌==◌, bit_and}
use Rattle.std.specs.Prelude.{from_bits, nat_le, slice_index, slice_set, Float}
use Rattle.std.specs.Float.{binary64}
use Rattle.std.specs.Float.Ieee.{sub, mul, to_signed}
use Rattle.whole.specs.Cut.{twos}
use Rattle.whole.specs.Words.{has, lacks}
use Rattle.clock.specs.declared.Latch.{Latch}
use Rattle.clock.specs.declared.Rtc.{Rtc}
use Rattle.std.specs.Prelude.{Option, Some, None}

-- (game - since) * 32768.0, cut, on top of the base
unfoldable pub ticks_of : Latch → Float → ℕ
ticks_of latch game =
    (latch.base + twos (to_signed 63 (mul binary64 (sub binary64 game latch.since)
    (from_bits binary64 0x40E0_0000_0000_0000)))) % 2 ^ 64

-- six bytes from a place: `(0..6).map(|i| (regs[from + i] as i64) << (8 * i)).sum()`
abbrev pub joined_of : ℕ → ℕ → ℕ → ℕ → ℕ → ℕ → ℕ
joined_of a b c d e f = a + b * 2 ^ 8 + c * 2 ^ 16 + d * 2 ^ 24 + e * 2 ^ 32 + f * 2 ^ 40

unfoldable pub six_bytes : List ℕ → ℕ → ℕ
six_bytes regs from =
    joined_of (slice_index regs from) (slice_index regs (from + 1)) (slice_index regs (from + 2))
    (slice_index regs (from + 3))
    (slice_index regs (from + 4)) (slice_index regs (from + 5))

unfoldable pub alarm_of : List ℕ → Option ℕ
alarm_of regs = cond (lacks (slice_index regs 0x40) 6) None (Some (six_bytes regs 0x20))

-- an alarm's values: 0 and 0 where it is off, else 1 and its ticks
abbrev pub alarm_values : Option ℕ → ℕ × ℕ
alarm_values None = (0, 0)
alarm_values (Some t) = (1, t)

abbrev pub rtc_of : List ℕ → Latch → Rtc
rtc_of regs latch = record { regs = regs; latch = latch }

abbrev pub latched_of : Latch → List ℕ → Float → Latch
latched_of latch regs game = record { base = six_bytes regs 0x10; since = game; out = latch.out }

-- what a read of a register puts out; 0x30 to 0x35 are the ticks, and register 0 drops bit 4
unfoldable pub output_of : Latch → List ℕ → Float → ℕ → ℕ
output_of latch regs game at =
    cond (nat_le 0x30 at && nat_le at 0x35) (bit_and (ticks_of latch game / 2 ^ (8 * (at - 0x30))) 0xFF)
    (cond (at == 0) (bit_and (slice_index regs 0) 0xEF) (slice_index regs at))

unfoldable pub fresh_rtc : Rtc
fresh_rtc = rtc_of (replicate 256 0) (record { base = 0; since = from_bits binary64 0; out = 0 })

-- a write; only that of 0x15 latches
abbrev pub put_of : Rtc → Float → ℕ → ℕ → Rtc
put_of rtc game at byte =
    let regs = slice_set rtc.regs at byte in
    rtc_of regs (cond (at == 0x15) (latched_of rtc.latch regs game) rtc.latch)

abbrev pub asked_of : Rtc → Float → ℕ → Rtc
asked_of rtc game at =
    let out = output_of rtc.latch rtc.regs game at in
    rtc_of rtc.regs (record { base = rtc.latch.base; since = rtc.latch.since; out = out })

-- bit 0 writes, else bit 1 reads
unfoldable pub commanded_of : Rtc → Float → ℕ → ℕ → ℕ → Rtc
commanded_of rtc game address word cmd =
    cond (has cmd 1) (put_of rtc game (address % 0x100) (word % 0x100))
    (cond (has cmd 2) (asked_of rtc game (address % 0x100)) rtc)
