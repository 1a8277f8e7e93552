-- The bank's words of a good session are packed.
use Prim.Native.Nat.{ℕ, zero, suc, ◌%◌, ◌^◌, ◌≤◌, ◌<◌}
use mathlib.Core.Path.{◌≡◌, refl, sym, ◌∙◌}
use mathlib.Core.Bool.{Bool, true, false, cond}
use mathlib.Core.List.{List, ◌∷◌}
use native.Mathlib.Omega.{arith}
use lib.Dec.{ltb}
use lib.Ieee.{Float}
use lib.ListN.{length, get_or, set}
use lib.Seq.{get_or-set_other}
use borrow.Author.Tests.{ltb-false, leb-true}
use Rattle.std.specs.Prelude.{None, Some}
use Rattle.whole.specs.Forms.{bit}
use Rattle.state.specs.Bank.{flag_in, mode_in, maybe_in, chip_in, panel_in, times_in, timer_in, irq_in, latch_in}
use Rattle.state.specs.Bank.{tone_in, ring_in}
use Rattle.state.specs.Bank.{keys_in, parts_in}
use Rattle.state.specs.Packed.{mode_number, maybe_number, chip_cells, panel_cells, clock_cells, key_cells, times_floats}
use Rattle.state.specs.Packed.{cells_of, floats_of, Packed}
use Rattle.state.proofs.Spread.{spread, spread_is}
use Rattle.session.specs.Layout.{mosts, most_at}
use Rattle.session.specs.Read.{cells_read, floats_read, cells_in, floats_in}
use Rattle.session.specs.Good.{in_ranges, others_in, presses_in, events_in, good_session}
use Rattle.session.specs.Session.{bank_in, parts_read}
use Rattle.session.proofs.Facts.{all_apart, facts}

-- ---- a number as another thing, and back

flag : (v : ℕ) → v ≤ 1 → bit (flag_in v) ≡ v
flag zero h = refl
flag (suc zero) h = refl
flag (suc (suc v)) h = absurd (omega arith)

byte : (v : ℕ) → v ≤ 255 → v % 256 ≡ v
byte v h = omega arith

short : (v : ℕ) → v ≤ 65535 → v % 65536 ≡ v
short v h = omega arith

word : (v : ℕ) → v < 2 ^ 32 → v % 2 ^ 32 ≡ v
word v h = omega arith

maybe : (v : ℕ) → v ≤ 256 → maybe_number (maybe_in v) ≡ v
unfolding maybe_in maybe_number
maybe v h = by (ltb v 256) refl
  where
    by : (b : Bool) → ltb v 256 ≡ b → maybe_number (cond b (Some v) None) ≡ v
    by true e = refl
    by false e = let least = ltb-false v 256 e in omega arith

mode : (v : ℕ) → v ≤ 0 → mode_number (mode_in v) ≡ v
unfolding mode_in mode_number
mode zero h = refl
mode (suc v) h = absurd (omega arith)

also : {a b : ℕ} {xs ys : List ℕ} → a ≡ b → xs ≡ ys → a ∷ xs ≡ b ∷ ys
also p q = rw (p, q)

-- ---- words within their ranges; the counts of events and presses, 45 and 46, may be any

packed_list : (l : List ℕ) (f : List Float) → ((i : ℕ) → i < 45 → get_or l i 0 ≤ most_at i)
    → ((i : ℕ) → 46 < i → i < 51 → get_or l i 0 ≤ most_at i)
    → cells_of (parts_in l f) ≡ spread 0 l 0 51
unfolding cells_of chip_cells panel_cells clock_cells key_cells chip_in panel_in times_in timer_in irq_in latch_in
    tone_in ring_in
    keys_in spread mosts
packed_list l f low high =
    also (mode (get_or l 0 0) (low 0 (omega arith)))
    (also (flag (get_or l 1 0) (low 1 (omega arith)))
    (also (flag (get_or l 2 0) (low 2 (omega arith)))
    (also refl
    (also (byte (get_or l 4 0) (let most = low 4 (omega arith) in omega arith))
    (also (byte (get_or l 5 0) (let most = low 5 (omega arith) in omega arith))
    (also (byte (get_or l 6 0) (let most = low 6 (omega arith) in omega arith))
    (also (byte (get_or l 7 0) (let most = low 7 (omega arith) in omega arith))
    (also (byte (get_or l 8 0) (let most = low 8 (omega arith) in omega arith))
    (also refl
    (also (flag (get_or l 10 0) (low 10 (omega arith)))
    (also (maybe (get_or l 11 0) (low 11 (omega arith)))
    (also (byte (get_or l 12 0) (let most = low 12 (omega arith) in omega arith))
    (also (byte (get_or l 13 0) (let most = low 13 (omega arith) in omega arith))
    (also (byte (get_or l 14 0) (let most = low 14 (omega arith) in omega arith))
    (also (byte (get_or l 15 0) (let most = low 15 (omega arith) in omega arith))
    (also (byte (get_or l 16 0) (let most = low 16 (omega arith) in omega arith))
    (also (short (get_or l 17 0) (low 17 (omega arith)))
    (also (short (get_or l 18 0) (low 18 (omega arith)))
    (also (short (get_or l 19 0) (low 19 (omega arith)))
    (also (short (get_or l 20 0) (low 20 (omega arith)))
    (also (short (get_or l 21 0) (low 21 (omega arith)))
    (also (short (get_or l 22 0) (low 22 (omega arith)))
    (also (maybe (get_or l 23 0) (low 23 (omega arith)))
    (also refl
    (also refl
    (also refl
    (also refl
    (also refl
    (also refl
    (also refl
    (also (flag (get_or l 31 0) (low 31 (omega arith)))
    (also (flag (get_or l 32 0) (low 32 (omega arith)))
    (also (flag (get_or l 33 0) (low 33 (omega arith)))
    (also (flag (get_or l 34 0) (low 34 (omega arith)))
    (also (flag (get_or l 35 0) (low 35 (omega arith)))
    (also (flag (get_or l 36 0) (low 36 (omega arith)))
    (also refl
    (also (word (get_or l 38 0) (let most = low 38 (omega arith) in omega arith))
    (also refl
    (also (flag (get_or l 40 0) (low 40 (omega arith)))
    (also refl
    (also (word (get_or l 42 0) (let most = low 42 (omega arith) in omega arith))
    (also (flag (get_or l 43 0) (low 43 (omega arith)))
    (also (byte (get_or l 44 0) (let most = low 44 (omega arith) in omega arith))
    (also refl
    (also refl
    (also (flag (get_or l 47 0) (high 47 (omega arith) (omega arith)))
    (also (flag (get_or l 48 0) (high 48 (omega arith) (omega arith)))
    (also (flag (get_or l 49 0) (high 49 (omega arith) (omega arith)))
    (also (word (get_or l 50 0) (let most = high 50 (omega arith) (omega arith) in omega arith))
    refl))))))))))))))))))))))))))))))))))))))))))))))))))

pub packed_cells : (l : List ℕ) (f : List Float) → length l ≡ 51 → ((i : ℕ) → i < 45 → get_or l i 0 ≤ most_at i)
    → ((i : ℕ) → 46 < i → i < 51 → get_or l i 0 ≤ most_at i)
    → cells_of (parts_in l f) ≡ l
packed_cells l f size low high = packed_list l f low high ∙ sym (spread_is 0 l 51 size)

-- ---- of a session

module _ (s : List ℕ) where
  bank_size : length (bank_in s) ≡ 51
  unfolding bank_in cells_in cells_read
  bank_size = refl

  module _ (ranges : in_ranges (cells_in s (others_in s)) ≡ true) where
    pub in_range : (i : ℕ) → i < 51 → get_or (cells_in s (others_in s)) i 0 ≤ most_at i
    unfolding in_ranges
    in_range i below = leb-true _ _ (all_apart _ 51 ranges i below)

    low_range : (i : ℕ) → i < 45 → get_or (bank_in s) i 0 ≤ most_at i
    unfolding bank_in
    low_range i below =
        let a = get_or-set_other (set (cells_in s (others_in s)) 45 (events_in s)) 46 i (presses_in s) 0
        (λ e. omega arith) in
        let b = get_or-set_other (cells_in s (others_in s)) 45 i (events_in s) 0 (λ e. omega arith) in
        rw (a, b) (in_range i (omega arith))

    high_range : (i : ℕ) → 46 < i → i < 51 → get_or (bank_in s) i 0 ≤ most_at i
    unfolding bank_in
    high_range i above below =
        let a = get_or-set_other (set (cells_in s (others_in s)) 45 (events_in s)) 46 i (presses_in s) 0
        (λ e. omega arith) in
        let b = get_or-set_other (cells_in s (others_in s)) 45 i (events_in s) 0 (λ e. omega arith) in
        rw (a, b) (in_range i below)

    pub read_cells : cells_of (parts_read s) ≡ bank_in s
    unfolding parts_read
    read_cells = packed_cells (bank_in s) (floats_in s (others_in s)) bank_size low_range high_range

  -- the floats
  pub read_floats : floats_of (parts_read s) ≡ floats_in s (others_in s)
  unfolding floats_of times_floats parts_read times_in timer_in irq_in latch_in tone_in keys_in floats_in floats_read
  read_floats = refl

  pub good_packed : good_session s ≡ true → Packed (bank_in s) (floats_in s (others_in s))
  unfolding parts_read
  good_packed h = record { cells = read_cells (facts s h).body.cells.ranges; floats = read_floats }
