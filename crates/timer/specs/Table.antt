-- The judged examples of the timers.
use Rattle.std.specs.Prelude.{List, [], ◌∷◌, Float}
use Rattle.std.specs.Float.{binary64}
use Rattle.std.specs.Float.Ieee.{of_bits}
use Rattle.whole.specs.Table.{Example}
use Rattle.timer.specs.declared.Timer.{Timer}
use Rattle.timer.specs.Timers.{fresh_timer, period_of, written_of, advanced_of, counter_of}

-- control 0x6000 written at time 0, clock word 0, reload 0xFC18
abbrev pub started_timer : Timer
started_timer = (written_of fresh_timer (of_bits binary64 0) 0x6000 0).timer

-- 0.5
abbrev pub half : Float
half = of_bits binary64 0x3FE0_0000_0000_0000

abbrev pub table : List Example
table =
    record { given = period_of 0 ∷ []; expected = 0x10000 ∷ [] }
    ∷ record { given = period_of 0xFFFF ∷ []; expected = 1 ∷ [] }
    ∷ record { given = (advanced_of started_timer half 0 0x6000 0xFC18).seen ∷ []; expected = 6000 ∷ [] }
    ∷ record {
      given = counter_of (advanced_of started_timer half 0 0x6000 0xFC18) half 0 0x6000 0xFC18 0 ∷ [];
      expected =
          0xFC18 ∷ [];
    }
    ∷ []
