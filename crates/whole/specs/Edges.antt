-- The edges of the limits, as bit patterns, and the refusal of each.
use Rattle.std.specs.Prelude.{ℕ, List, [], ◌∷◌}
use Rattle.whole.specs.Limits.{time_of, turbo_of, time_refusal, turbo_refusal}
use Rattle.whole.specs.Table.{Example}

abbrev time : ℕ → ℕ → Example
time bits refusal = record { given = time_refusal (time_of bits) ∷ []; expected = refusal ∷ [] }

abbrev turbo : ℕ → ℕ → Example
turbo bits refusal = record { given = turbo_refusal (turbo_of bits) ∷ []; expected = refusal ∷ [] }

abbrev pub edges : List Example
edges =
    -- 0.0, 2,097,152.0, the next f64, -0.0, both infinities, a NaN
    time 0 0
    ∷ time 0x4140_0000_0000_0000 0
    ∷ time 0x4140_0000_0000_0001 1
    ∷ time 0x8000_0000_0000_0000 1
    ∷ time 0x7FF0_0000_0000_0000 1
    ∷ time 0xFFF0_0000_0000_0000 1
    ∷ time 0x7FF8_0000_0000_0000 1
    -- 1 / 1024, the f64 before it, 1024.0, the next f64, 0.0, -1.0, both infinities, a NaN
    ∷ turbo 0x3F50_0000_0000_0000 0
    ∷ turbo 0x3F4F_FFFF_FFFF_FFFF 2
    ∷ turbo 0x4090_0000_0000_0000 0
    ∷ turbo 0x4090_0000_0000_0001 2
    ∷ turbo 0 2
    ∷ turbo 0xBFF0_0000_0000_0000 2
    ∷ turbo 0x7FF0_0000_0000_0000 2
    ∷ turbo 0xFFF0_0000_0000_0000 2
    ∷ turbo 0x7FF8_0000_0000_0000 2
    ∷ []
