-- The limits are kept by every operation, from the fresh state on. That a press keeps them is in Kept.
use Prim.Native.Nat.{ℕ}
use mathlib.Core.Path.{◌≡◌, refl}
use mathlib.Core.Bool.{Bool, true, false, cond}
use mathlib.Core.List.{List}
use native.Mathlib.Omega.{arith}
use lib.Bits.{bit_and}
use lib.Dec.{T, leb, eqb}
use lib.Ieee.{Float, of_bits}
use Rattle.map.specs.Numbers.{BAD_KEY, BAD_TIME, DONE}
use Rattle.whole.specs.Limits.{good_time}
use Rattle.keys.specs.declared.Held.{Held}
use Rattle.keys.specs.Keys.{Buttons, fresh_buttons}
use Rattle.keys.specs.Live.{outcome, held_with, holds_with, with_live, with_holds, live_of, hold_of}
use Rattle.keys.specs.Lines.{wanted, lines, sync_of}
use Rattle.keys.specs.Within.{Within, with_applied, with_keys}

pub fresh_within : Within fresh_buttons
unfolding fresh_buttons of_bits
fresh_within = record {
  starts = refl;
  codes = refl;
  count = omega arith;
  presses = λ i l. absurd (let z : ⊥ = omega arith in z);
  hold_a = tt;
  hold_b = tt;
  hold_c = tt;
  applied = refl;
}

pub live_within : (b : Buttons) (key : ℕ) (down : Bool) → Within b
    → Within (with_keys b (live_of b.keys key down).keys)
unfolding live_of
live_within b key down w = by (leb key 2)
  where
    by : (t : Bool) → Within (with_keys b (cond t
        (outcome DONE (with_live b.keys (held_with b.keys.live key down))) (outcome BAD_KEY b.keys)).keys)
    by false = w
    by true = record {
      starts = w.starts;
      codes = w.codes;
      count = w.count;
      presses = w.presses;
      hold_a = w.hold_a;
      hold_b = w.hold_b;
      hold_c = w.hold_c;
      applied = w.applied;
    }

pub hold_within : (b : Buttons) (key : ℕ) (until : Float) → Within b
    → Within (with_keys b (hold_of b.keys key until).keys)
unfolding hold_of
hold_within b key until w = by (leb key 2) (good_time until) refl
  where
    set : (t : Bool) (old : Float) → T (good_time until) → T (good_time old) → T (good_time (cond t until old))
    set true old g h = g
    set false old g h = h

    by : (t u : Bool) → good_time until ≡ u
        → Within (with_keys b (cond t (cond u
        (outcome DONE (with_holds b.keys (holds_with b.keys.holds key until))) (outcome BAD_TIME b.keys))
        (outcome BAD_KEY b.keys)).keys)
    by false u e = w
    by true false e = w
    by true true e = record {
      starts = w.starts;
      codes = w.codes;
      count = w.count;
      presses = w.presses;
      hold_a = set (eqb key 0) b.keys.holds.a (rw e tt) w.hold_a;
      hold_b = set (eqb key 1) b.keys.holds.b (rw e tt) w.hold_b;
      hold_c = set (eqb key 2) b.keys.holds.c (rw e tt) w.hold_c;
      applied = w.applied;
    }

-- what is wanted is bits 5, 6 and 7 alone
pub wanted_lines : (h : Held) → bit_and (wanted h) 0xE0 ≡ wanted h
unfolding wanted
wanted_lines h = by h.a h.b h.c
  where
    by : (a b c : Bool) → bit_and (wanted (record { a = a; b = b; c = c })) 0xE0 ≡ wanted
        (record { a = a; b = b; c = c })
    by true true true = refl
    by true true false = refl
    by true false true = refl
    by true false false = refl
    by false true true = refl
    by false true false = refl
    by false false true = refl
    by false false false = refl

pub sync_within : (b : Buttons) (gpio : List ℕ) (h : Held) → Within b
    → Within (with_keys b (with_applied b.keys (sync_of gpio b.keys.applied h).applied))
unfolding sync_of
sync_within b gpio h w = record {
  starts = w.starts;
  codes = w.codes;
  count = w.count;
  presses = w.presses;
  hold_a = w.hold_a;
  hold_b = w.hold_b;
  hold_c = w.hold_c;
  applied = by (eqb (wanted h) b.keys.applied) gpio _;
}
  where
    by : (t : Bool) (m k : List ℕ) → bit_and (cond t (lines m b.keys.applied) (lines k (wanted h))).applied 0xE0
        ≡ (cond t (lines m b.keys.applied) (lines k (wanted h))).applied
    by true m k = w.applied
    by false m k = wanted_lines h
