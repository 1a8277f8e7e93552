-- The judged examples of the clocks.
use Rattle.std.specs.Prelude.{ℕ, List, [], ◌∷◌, from_bits, Float}
use Rattle.std.specs.Float.{binary64}
use Rattle.whole.specs.Table.{Example}
use Rattle.clock.specs.declared.Rtc.{Rtc}
use Rattle.clock.specs.Rtc.{fresh_rtc, commanded_of}
use Rattle.clock.specs.Day.{fresh_irq, tod_of, field_of, set_of}

-- 0.0
abbrev start : Float
start = from_bits binary64 0

-- the command that writes a byte to a register
abbrev writes : Rtc → ℕ → ℕ → Rtc
writes rtc at byte = commanded_of rtc start at byte 1

-- 01 00 00 00 00, and then 80 to 0x15
abbrev staged : Rtc
staged = writes (writes (writes (writes (writes fresh_rtc 0x10 0x01) 0x11 0) 0x12 0) 0x13 0) 0x14 0

abbrev pub table : List Example
table =
    record { given = field_of (tod_of (set_of fresh_irq start 2 25) start) 2 ∷ []; expected = 1 ∷ [] }
    ∷ record { given = staged.latch.base ∷ []; expected = 0 ∷ [] }
    ∷ record { given = (writes staged 0x15 0x80).latch.base ∷ []; expected = 140737488355329 ∷ [] }
    ∷ []
