-- The numbers of a tone: the frequency is finite, and the duty is held within 0.05 and 0.95, whatever the four
-- words.
use mathlib.Core.Path.{◌≡◌, refl}
use mathlib.Core.Bool.{Bool, true, false, cond}
use Prim.Native.Nat.{ℕ, ◌^◌, ◌<◌}
use native.Mathlib.Omega.{arith}
use lib.IntN.{pos}
use lib.Dec.{T, lit<, lit≤}
use lib.Ieee.{Float, binary64, of_bits, of_int, div, le, lt}
use Rattle.whole.specs.Bounds.{Clear, AtMost, AtLeast}
use Rattle.whole.specs.Words.{has}
use Rattle.whole.proofs.Clear.{at_most_clear, at_most_finite, between_finite}
use Rattle.whole.proofs.Round.{of_int_at_most, of_int_at_least, div_at_most}
use Rattle.whole.proofs.Order.{le_of_not_lt}
use Rattle.timer.specs.Timers.{period_of, rate_of}
use Rattle.timer.specs.declared.Tone.{Tone}
use Rattle.timer.specs.Within.{low, high, ToneWithin, ToneFinite}
use Rattle.timer.specs.Sound.{clamp_of, tone_of, silence}
use Rattle.timer.proofs.Limits.{rate_at_most}

clamped : (x : Float) → Clear x → T (le low (clamp_of x)) × T (le (clamp_of x) high)
unfolding clamp_of of_bits le
clamped x c = by (lt x low) refl (lt high x) refl
  where
    by : (a : Bool) → lt x low ≡ a → (b : Bool) → lt high x ≡ b → T (le low (cond a low (cond b high x))) × T
        (le (cond a low (cond b high x)) high)
    by true h b k = (tt, tt)
    by false h true k = (tt, tt)
    by false h false k = (le_of_not_lt low x tt c h, le_of_not_lt x high c tt k)

pub tone_within : (clock control reload compare : ℕ) → clock < 2 ^ 32 → ToneWithin
    (tone_of clock control reload compare)
unfolding tone_of
tone_within clock control reload compare h = by (has control 0x2000)
  where
    top : (word : ℕ) → AtMost (of_int binary64 (pos (period_of word))) (2 ^ 16)
    top word = of_int_at_most 16 (period_of word) (lit< tt) (omega arith)

    least : AtLeast (of_int binary64 (pos (period_of reload))) 1
    least = of_int_at_least (period_of reload) (2 ^ 16) (omega arith) (top reload)

    ratio : Float
    ratio = div binary64 (of_int binary64 (pos (period_of compare))) (of_int binary64 (pos (period_of reload)))

    by : (b : Bool)
        → ToneWithin (cond b (record {
          frequency = div binary64 (rate_of clock control)
              (of_int binary64 (pos (period_of reload)));
          duty = clamp_of ratio;
        }) silence)
    by true =
        let c = clamped ratio (at_most_clear ratio (2 ^ 16) (div_at_most (of_int binary64 (pos (period_of compare)))
        (of_int binary64 (pos (period_of reload))) 16 0 (lit< tt) (top compare) least)) in
        record {
          frequency = div_at_most (rate_of clock control) (of_int binary64 (pos (period_of reload))) 31 0 (lit< tt)
              (rate_at_most clock control h)
              least;
          from = c.0;
          to = c.1;
        }
    by false = unfold of_bits le in record { frequency = lit≤ tt; from = tt; to = tt }

-- so both are finite
pub within_finite : (tone : Tone) → ToneWithin tone → ToneFinite tone
unfolding of_bits
within_finite tone w = record {
  frequency = at_most_finite tone.frequency (2 ^ 31) w.frequency;
  duty = between_finite tone.duty _ _ _ _ _ _ w.from w.to;
}
