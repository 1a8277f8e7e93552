-- Whatever numbers of their types the arrays of a unit hold, the machine that they hold is typed.
use Prim.Native.Nat.{ℕ, zero, suc, ◌%◌, ◌^◌, ◌<◌}
use mathlib.Core.Path.{◌≡◌, refl}
use mathlib.Core.Bool.{Bool, true, false, cond}
use mathlib.Core.List.{List, [], ◌∷◌}
use native.Mathlib.Omega.{arith}
use lib.Dec.{eqb, ltb}
use lib.Ieee.{Float, nan}
use lib.ListN.{get_or}
use borrow.Author.Tests.{ltb-true}
use Rattle.std.specs.Prelude.{None, Some}
use Rattle.whole.specs.Forms.{bit}
use Rattle.flash.specs.declared.Mode.TheVariants.{Rust, Strict}
use Rattle.state.specs.Bank.{flag_in, mode_in, maybe_in, chip_in, panel_in, times_in, timer_in, irq_in, latch_in}
use Rattle.state.specs.Bank.{tone_in, ring_in}
use Rattle.state.specs.Bank.{keys_in, parts_in}
use Rattle.state.specs.Packed.{mode_number, maybe_number, chip_cells, panel_cells, clock_cells, key_cells, times_floats}
use Rattle.state.specs.Packed.{cells_of, floats_of}
use Rattle.state.proofs.Words.{flag_bit, mode_number_lem}
use Rattle.system.specs.Bank.{machine_of}
use Rattle.keeping.specs.Typed.{Below, Fits, Typed}
use Rattle.keeping.proofs.Lists.{Fit, nan_fit}

-- ---- a number as another thing, and back

byte_again : (v : ℕ) → v % 256 % 256 ≡ v % 256
byte_again v = omega arith

short_again : (v : ℕ) → v % 65536 % 65536 ≡ v % 65536
short_again v = omega arith

word_again : (v : ℕ) → v % 2 ^ 32 % 2 ^ 32 ≡ v % 2 ^ 32
word_again v = omega arith

maybe_again : (v : ℕ) → maybe_in (maybe_number (maybe_in v)) ≡ maybe_in v
unfolding maybe_in maybe_number
maybe_again v = by (ltb v 256) refl
  where
    by : (b : Bool) → ltb v 256 ≡ b
        → cond (ltb (maybe_number (cond b (Some v) None)) 256) (Some (maybe_number (cond b (Some v) None)))
        None
        ≡ cond b (Some v) None
    by true e = rw e
    by false e = refl

pub arrays_scalars : (l : List ℕ) (f : List Float)
    → parts_in (cells_of (parts_in l f)) (floats_of (parts_in l f)) ≡ parts_in l f
unfolding cells_of chip_cells panel_cells clock_cells key_cells floats_of times_floats chip_in panel_in times_in
    timer_in irq_in
    latch_in tone_in ring_in keys_in
arrays_scalars l f =
    rw (
      mode_number_lem (mode_in (get_or l 0 0)),
      flag_bit (flag_in (get_or l 1 0)),
      flag_bit (flag_in (get_or l 2 0)),
      flag_bit (flag_in (get_or l 10 0)),
      flag_bit (flag_in (get_or l 31 0)),
      flag_bit (flag_in (get_or l 32 0)),
      flag_bit (flag_in (get_or l 33 0)),
      flag_bit (flag_in (get_or l 34 0)),
      flag_bit (flag_in (get_or l 35 0)),
      flag_bit (flag_in (get_or l 36 0)),
      flag_bit (flag_in (get_or l 40 0)),
      flag_bit (flag_in (get_or l 43 0)),
      flag_bit (flag_in (get_or l 47 0)),
      flag_bit (flag_in (get_or l 48 0)),
      flag_bit (flag_in (get_or l 49 0)),
      byte_again (get_or l 4 0),
      byte_again (get_or l 5 0),
      byte_again (get_or l 6 0),
      byte_again (get_or l 7 0),
      byte_again (get_or l 8 0),
      byte_again (get_or l 12 0),
      byte_again (get_or l 13 0),
      byte_again (get_or l 14 0),
      byte_again (get_or l 15 0),
      byte_again (get_or l 16 0),
      byte_again (get_or l 44 0),
      short_again (get_or l 17 0),
      short_again (get_or l 18 0),
      short_again (get_or l 19 0),
      short_again (get_or l 20 0),
      short_again (get_or l 21 0),
      short_again (get_or l 22 0),
      word_again (get_or l 38 0),
      word_again (get_or l 42 0),
      word_again (get_or l 50 0),
      maybe_again (get_or l 11 0),
      maybe_again (get_or l 23 0),
    )

-- ---- lists, place by place

data Each {A : Type 0} (P : A → Type 0) : List A → Type 0 where
  none : Each P []
  also : {x : A} {xs : List A} → P x → Each P xs → Each P (x ∷ xs)

each_at : {A : Type 0} {P : A → Type 0} (d : A) → P d → {l : List A} → Each P l → (i : ℕ) → P (get_or l i d)
each_at d past none i = past
each_at d past (also h rest) zero = h
each_at d past (also h rest) (suc i) = each_at d past rest i

abbrev Small : ℕ → Type 0
Small v = v < 2 ^ 64

bit_small : (b : Bool) → Small (bit b)
bit_small true = omega arith
bit_small false = omega arith

byte_small : (v : ℕ) → Small (v % 256)
byte_small v = omega arith

short_small : (v : ℕ) → Small (v % 65536)
short_small v = omega arith

word_small : (v : ℕ) → Small (v % 2 ^ 32)
word_small v = omega arith

maybe_small : (v : ℕ) → Small (maybe_number (maybe_in v))
unfolding maybe_in maybe_number
maybe_small v = by (ltb v 256) refl
  where
    by : (b : Bool) → ltb v 256 ≡ b → Small (maybe_number (cond b (Some v) None))
    by true e = let less = ltb-true v 256 e in omega arith
    by false e = omega arith

mode_small : (v : ℕ) → Small (mode_number (mode_in v))
unfolding mode_in mode_number
mode_small v = by (eqb v 0)
  where
    by : (b : Bool) → Small (mode_number (cond b Rust Strict))
    by true = omega arith
    by false = omega arith

cells_small : (l : List ℕ) (f : List Float) → Below (2 ^ 64) l → Each Small (cells_of (parts_in l f))
unfolding cells_of chip_cells panel_cells clock_cells key_cells chip_in panel_in times_in timer_in irq_in latch_in
    tone_in ring_in
    keys_in
cells_small l f small =
    also (mode_small (get_or l 0 0))
    (also (bit_small (flag_in (get_or l 1 0)))
    (also (bit_small (flag_in (get_or l 2 0)))
    (also (small 3)
    (also (byte_small (get_or l 4 0))
    (also (byte_small (get_or l 5 0))
    (also (byte_small (get_or l 6 0))
    (also (byte_small (get_or l 7 0))
    (also (byte_small (get_or l 8 0))
    (also (small 9)
    (also (bit_small (flag_in (get_or l 10 0)))
    (also (maybe_small (get_or l 11 0))
    (also (byte_small (get_or l 12 0))
    (also (byte_small (get_or l 13 0))
    (also (byte_small (get_or l 14 0))
    (also (byte_small (get_or l 15 0))
    (also (byte_small (get_or l 16 0))
    (also (short_small (get_or l 17 0))
    (also (short_small (get_or l 18 0))
    (also (short_small (get_or l 19 0))
    (also (short_small (get_or l 20 0))
    (also (short_small (get_or l 21 0))
    (also (short_small (get_or l 22 0))
    (also (maybe_small (get_or l 23 0))
    (also (small 24)
    (also (small 25)
    (also (small 26)
    (also (small 27)
    (also (small 28)
    (also (small 29)
    (also (small 30)
    (also (bit_small (flag_in (get_or l 31 0)))
    (also (bit_small (flag_in (get_or l 32 0)))
    (also (bit_small (flag_in (get_or l 33 0)))
    (also (bit_small (flag_in (get_or l 34 0)))
    (also (bit_small (flag_in (get_or l 35 0)))
    (also (bit_small (flag_in (get_or l 36 0)))
    (also (small 37)
    (also (word_small (get_or l 38 0))
    (also (small 39)
    (also (bit_small (flag_in (get_or l 40 0)))
    (also (small 41)
    (also (word_small (get_or l 42 0))
    (also (bit_small (flag_in (get_or l 43 0)))
    (also (byte_small (get_or l 44 0))
    (also (small 45)
    (also (small 46)
    (also (bit_small (flag_in (get_or l 47 0)))
    (also (bit_small (flag_in (get_or l 48 0)))
    (also (bit_small (flag_in (get_or l 49 0)))
    (also (word_small (get_or l 50 0))
    none))))))))))))))))))))))))))))))))))))))))))))))))))

floats_fit : (l : List ℕ) (f : List Float) → Fits f → Each Fit (floats_of (parts_in l f))
unfolding floats_of times_floats times_in timer_in irq_in latch_in tone_in keys_in
floats_fit l f fit =
    also (fit 0)
    (also (fit 1)
    (also (fit 2)
    (also (fit 3)
    (also (fit 4)
    (also (fit 5)
    (also (fit 6)
    (also (fit 7)
    (also (fit 8)
    (also (fit 9)
    (also (fit 10)
    (also (fit 11)
    (also (fit 12)
    (also (fit 13)
    (also (fit 14)
    (also (fit 15)
    none)))))))))))))))

-- A MACHINE THAT ARRAYS HOLD is typed: of the bank's words only that they are u64s and f64s
pub arrays_typed : (slots addresses values rtc page : List ℕ) (onsets frequencies duties starts : List Float)
    (codes l : List ℕ) (f : List Float) (ram sram gpio fb : List ℕ)
    → Below (2 ^ 32) slots → Below (2 ^ 32) addresses → Below (2 ^ 32) values → Fits onsets → Fits frequencies
    → Fits duties → Fits starts → Below (2 ^ 64) l → Fits f
    → Typed
    (machine_of slots addresses values rtc page onsets frequencies duties starts codes (parts_in l f) ram sram gpio fb)
arrays_typed slots addresses values rtc page onsets frequencies duties starts codes l f ram sram gpio fb a b c d e g h i
    j =
    record {
      scalars = arrays_scalars l f;
      cells = each_at 0 (omega arith) (cells_small l f i);
      floats = each_at nan nan_fit (floats_fit l f j);
      slots = a;
      addresses = b;
      values = c;
      onsets = d;
      frequencies = e;
      duties = g;
      starts = h;
    }
