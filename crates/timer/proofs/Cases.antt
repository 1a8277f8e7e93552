-- The branches of the definitions, as the functions meet them.
use mathlib.Core.Path.{◌≡◌, refl, sym, ap, ◌∙◌}
use mathlib.Core.Bool.{Bool, true, false, not, ◌&&◌, ◌||◌}
use mathlib.Core.Logic.{◌≢◌}
use Prim.Native.Nat.{ℕ, ◌+◌, ◌-◌, ◌/◌, ◌%◌, ◌≤◌, ◌<◌}
use lib.Bits.{bit_and}
use lib.Ieee.{Float, eq, ne, binary64, of_bits, lt, to_unsigned}
use borrow.Author.Tests.{lt-ltb, le-ltb}
use Rattle.std.specs.Prelude.{Ok, Err, Some, None}
use Rattle.whole.specs.Words.{has}
use Rattle.whole.proofs.Words.{has_some, has_not}
use Rattle.timer.specs.declared.Timer.{Timer}
use Rattle.timer.specs.declared.Tone.{Tone}
use Rattle.map.specs.declared.refusals.Refusal.TheVariants.{SoundFull}
use Rattle.timer.specs.Timers.{ticks, period_of, rate_of, elapsed_of, counter_of, noted, advanced_of}
use Rattle.timer.specs.Timers.{resynced_of}
use Rattle.timer.specs.Sound.{Sounded, differ_of, sounded_of}

pub elapsed_some : (start now rate : Float) (n : ℕ) → lt (of_bits binary64 0) (ticks start now rate) ≡ true
    → n ≡ to_unsigned 64 (ticks start now rate)
    → n ≡ elapsed_of start now rate
unfolding elapsed_of
elapsed_some start now rate n h e = rw h e

pub elapsed_none : (start now rate : Float) → lt (of_bits binary64 0) (ticks start now rate) ≡ false
    → 0 ≡ elapsed_of start now rate
unfolding elapsed_of
elapsed_none start now rate h = rw h

pub counter_stands : (t : Timer) (now : Float) (clock control reload stored : ℕ) → bit_and control 0x2000 ≡ 0
    → stored ≡ counter_of t now clock control reload stored
unfolding counter_of
counter_stands t now clock control reload stored h = rw (has_not control 0x2000 h)

pub counter_runs : (t : Timer) (now : Float) (clock control reload stored e p : ℕ) (r : Float)
    → bit_and control 0x2000 ≢ 0 → r ≡ rate_of clock control
    → e ≡ elapsed_of t.start now r → p ≡ period_of reload → (65536 - p + e % p) % 65536 ≡ counter_of t now clock
    control reload stored
unfolding counter_of
counter_runs t now clock control reload stored e p r h k i j = rw (has_some control 0x2000 h, ← k, ← i, ← j)

pub advance_stands : (t : Timer) (now : Float) (clock control reload : ℕ) → bit_and control 0x2000 ≡ 0
    → t ≡ advanced_of t now clock control reload
unfolding advanced_of
advance_stands t now clock control reload h = rw (has_not control 0x2000 h)

module _ (t : Timer) (now : Float) (clock control reload e p : ℕ) (r : Float) (h : bit_and control 0x2000 ≢ 0)
    (k : r ≡ rate_of clock control)
    (i : e ≡ elapsed_of t.start now r) (j : p ≡ period_of reload) where
  runs : advanced_of t now clock control reload ≡ noted t (e / p) control
  unfolding advanced_of
  runs = rw (has_some control 0x2000 h, ← k, ← i, ← j)

  pub advance_within : e / p ≤ t.seen → t ≡ advanced_of t now clock control reload
  advance_within l = sym (runs ∙ rw (le-ltb t.seen (e / p) l))

  pub advance_counts : t.seen < e / p
      → record { start = t.start; seen = e / p; pending = t.pending || has control 0x4000 } ≡ advanced_of t now clock
      control reload
  advance_counts l = sym (runs ∙ rw (lt-ltb t.seen (e / p) l))

  pub resync_counts : record { start = t.start; seen = e / p; pending = t.pending }
      ≡ resynced_of t now clock control reload
  unfolding resynced_of
  resync_counts = rw (has_some control 0x2000 h, ← k, ← i, ← j)

pub resync_stands : (t : Timer) (now : Float) (clock control reload : ℕ) → bit_and control 0x2000 ≡ 0
    → record { start = t.start; seen = 0; pending = t.pending } ≡ resynced_of t now clock control reload
unfolding resynced_of
resync_stands t now clock control reload h = rw (has_not control 0x2000 h)

-- ---- the buzzer
-- they are not the same tone
pub tones_differ : (a b : Tone) (d : Bool) → d ≡ not (eq a.frequency b.frequency && eq a.duty b.duty)
    → d ≡ differ_of a b
unfolding differ_of ne
tones_differ a b d h = h ∙ by (eq a.frequency b.frequency)
  where
    by : (t : Bool) → not (t && eq a.duty b.duty) ≡ (not t || not (eq a.duty b.duty))
    by true = refl
    by false = refl

module _ (state tone new : Tone) (full d : Bool) (n : new ≡ tone) (e : d ≡ differ_of new state) where
  differs : (t : Bool) → d ≡ t → differ_of tone state ≡ t
  differs t h = ap (λ (x : Tone). differ_of x state) (sym n) ∙ sym e ∙ h

  pub sounds_same : d ≡ false → (Ok None) ≡ sounded_of state full tone
  unfolding sounded_of
  sounds_same h = rw (differs false h)

  pub sounds_full : d ≡ true → full ≡ true → (Err SoundFull) ≡ sounded_of state full tone
  unfolding sounded_of
  sounds_full h f = rw (differs true h, f)

  pub sounds_new : d ≡ true → full ≡ false → Ok (Some new) ≡ sounded_of state full tone
  unfolding sounded_of
  sounds_new h f = rw (differs true h, f) (ap {B = Sounded} (λ t. Ok (Some t)) n)
