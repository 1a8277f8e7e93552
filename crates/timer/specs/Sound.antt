-- The buzzer, as document 000's sound_update has it.
use Rattle.std.specs.Prelude.{Bool, cond, ◌||◌, ℕ, pos, Float, Result, Ok, Err, Option, Some, None}
use Rattle.std.specs.Float.{binary64}
use Rattle.std.specs.Float.Ieee.{of_bits, of_int, div, lt, ne}
use Rattle.map.specs.declared.refusals.Refusal.{Refusal}
use Rattle.map.specs.declared.refusals.Refusal.TheVariants.{SoundFull}
use Rattle.map.specs.Refusals.{number_of}
use Rattle.whole.specs.Words.{has}
use Rattle.timer.specs.declared.Tone.{Tone}
use Rattle.timer.specs.Timers.{period_of, rate_of}

-- held within 0.05 and 0.95
unfoldable pub clamp_of : Float → Float
clamp_of x =
    cond (lt x (of_bits binary64 0x3FA9_9999_9999_999A)) (of_bits binary64 0x3FA9_9999_9999_999A)
    (cond (lt (of_bits binary64 0x3FEE_6666_6666_6666) x) (of_bits binary64 0x3FEE_6666_6666_6666) x)

-- (0.0, 0.5)
abbrev pub silence : Tone
silence = record { frequency = of_bits binary64 0; duty = of_bits binary64 0x3FE0_0000_0000_0000 }

unfoldable pub tone_of : ℕ → ℕ → ℕ → ℕ → Tone
tone_of clock control reload compare =
    let period = of_int binary64 (pos (period_of reload)) in
    let high = of_int binary64 (pos (period_of compare)) in
    cond (has control 0x2000)
    (record { frequency = div binary64 (rate_of clock control) period; duty = clamp_of (div binary64 high period) })
    silence

unfoldable pub differ_of : Tone → Tone → Bool
differ_of a b = ne a.frequency b.frequency || ne a.duty b.duty

-- a tone that differs is the new one and an event, for which there must be room
abbrev pub Sounded : Type 0
Sounded = Result (Option Tone) Refusal

unfoldable pub sounded_of : Tone → Bool → Tone → Sounded
sounded_of state full new = cond (differ_of new state) (cond full (Err SoundFull) (Ok (Some new))) (Ok None)

-- the refusal's number
abbrev pub sound_refusal : Sounded → ℕ
sound_refusal s = number_of s
