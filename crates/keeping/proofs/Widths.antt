-- The machine of a good session is typed.
use Prim.Native.Nat.{ℕ, zero, suc, ◌+◌, ◌-◌, ◌*◌, ◌^◌, ◌≤◌, ◌<◌}
use mathlib.Core.Path.{◌≡◌, refl, sym, ap, ap₂, subst, ◌∙◌}
use mathlib.Core.Bool.{true}
use mathlib.Core.List.{List, ◌++◌}
use native.Mathlib.Omega.{arith}
use lib.Dec.{ltb}
use lib.Ieee.{Float, nan, binary64}
use lib.Ieee.Bits.{of_bits-fits}
use lib.ListN.{length, get_or, set, take, drop, get_or-eq_default}
use borrow.Author.Tests.{ltb-true}
use Rattle.map.specs.Numbers.{SRAM_SIZE}
use Rattle.memory.proofs.Stored.{load_fits}
use Rattle.whole.specs.Forms.{nought}
use Rattle.whole.proofs.Choice.{by_less, by_cond}
use Rattle.timer.specs.declared.Timer.{Timer}
use Rattle.timer.specs.Timers.{resynced_of}
use Rattle.state.specs.declared.Parts.{Parts}
use Rattle.state.specs.Bank.{chip_in, panel_in, times_in, timer_in, irq_in, latch_in, tone_in, ring_in, keys_in}
use Rattle.state.specs.Bank.{parts_in}
use Rattle.state.specs.Packed.{chip_cells, panel_cells, clock_cells, key_cells, times_floats, of_timers, cells_of}
use Rattle.state.specs.Packed.{floats_of}
use Rattle.state.specs.Packed.{laid_at}
use Rattle.state.specs.Parts.{none, clocks_put}
use Rattle.time.specs.Clocks.{clock_in}
use Rattle.time.specs.Resync.{timers_resynced, clocks_resynced}
use Rattle.time.proofs.Limits.{resynced_within}
use Rattle.session.specs.Fields.{number, part, span, all_below}
use Rattle.session.specs.Layout.{mosts, most_at, presses_at, events_at, sram_at}
use Rattle.session.specs.Read.{float_at, cells_read, floats_read, cells_in, floats_in, slots_in, place_in}
use Rattle.session.specs.Read.{places_in, start_in}
use Rattle.session.specs.Read.{starts_in, column_at, column_in}
use Rattle.session.specs.Good.{others_in, presses_in, events_in, good_session}
use Rattle.session.specs.Session.{bank_in, parts_read, parts_back, machine_in}
use Rattle.keeping.specs.Typed.{Below, Fits, Typed}
use Rattle.session.proofs.Facts.{all_apart, Body, Facts, facts}
use Rattle.keeping.proofs.Lists.{zeros_fit, each_set, each_tabled, each_append, each_take, each_drop, Fit}
use Rattle.keeping.proofs.Lists.{nan_fit}
use Rattle.keeping.proofs.Runs.{number_small}
use Rattle.session.proofs.Packed.{in_range, read_cells, read_floats}
use Rattle.keeping.proofs.Bank.{back_floats}
use Rattle.keeping.proofs.Resumed.{read_clocks}

-- ---- parts whose periods are counted anew

resynced : List ℕ → ℕ → Parts → Parts
resynced slots clock x = clocks_put x (clocks_resynced slots x.devices.clocks clock)

-- stay those that their words make
resynced_parts : (slots : List ℕ) (clock : ℕ) (x : Parts) → parts_in (cells_of x) (floats_of x) ≡ x
    → parts_in (cells_of (resynced slots clock x)) (floats_of (resynced slots clock x)) ≡ resynced slots clock x
unfolding resynced clocks_resynced timers_resynced resynced_of cells_of chip_cells panel_cells clock_cells key_cells
    floats_of
    times_floats chip_in panel_in times_in timer_in irq_in latch_in tone_in ring_in keys_in
resynced_parts slots clock x e = ap (resynced slots clock) e

-- and only the counts of periods are other words
resynced_cells : (slots : List ℕ) (clock : ℕ) (x : Parts)
    → cells_of (resynced slots clock x)
    ≡ laid_at (cells_of x) 25 (of_timers (λ (t : Timer). t.seen) (resynced slots clock x).devices.clocks.timers)
unfolding resynced clocks_resynced timers_resynced resynced_of cells_of chip_cells panel_cells clock_cells key_cells
    laid_at
resynced_cells slots clock x = refl

-- ---- numbers of a session

module _ (s : List ℕ) (bytes : Below 256 s) where
  word_small : (at : ℕ) → number s at 4 < 2 ^ 32
  unfolding span
  word_small at = number_small s bytes at 4

  slots_small : Below (2 ^ 32) (slots_in s)
  unfolding slots_in
  slots_small =
      each_tabled (λ (v : ℕ). v < 2 ^ 32) 0 (omega arith) (λ i. number s (62 + 4 * i) 4) 76
      (λ i. word_small (62 + 4 * i))

  places_small : (at n : ℕ) → Below (2 ^ 32) (places_in s at n)
  unfolding places_in place_in
  places_small at n =
      each_tabled (λ (v : ℕ). v < 2 ^ 32) 0 (omega arith) (λ i. place_in s at n i) 256
      (λ i. by_cond (λ (v : ℕ). v < 2 ^ 32) (ltb i n) (number s (at + 8 * (n - 1 - i)) 4) 0 (λ h. word_small _)
      (λ h. omega arith))

float_fits : (s : List ℕ) (at : ℕ) → Fit (float_at s at)
float_fits s at = of_bits-fits binary64 (number s at 8)

starts_fit : (s : List ℕ) (at k : ℕ) → Fits (starts_in s at k)
unfolding starts_in start_in
starts_fit s at k =
    each_tabled Fit nan nan_fit (λ i. start_in s at k i) 64
    (λ i. by_cond Fit (ltb i k) (float_at s (at + 9 * i + 1)) nought (λ h. float_fits s _)
    (λ h. of_bits-fits binary64 0))

column_fits : (s : List ℕ) (at e : ℕ) → Fits (column_in s at e)
unfolding column_in column_at
column_fits s at e =
    each_tabled Fit nan nan_fit (λ i. column_at s at e i) 256
    (λ i. by_cond Fit (ltb i e) (float_at s (at + 24 * i)) nought (λ h. float_fits s _) (λ h. of_bits-fits binary64 0))

run_fits : (s : List ℕ) (at : ℕ) (f : List Float) (i n : ℕ) → Fits f → Fits (floats_read s at f i n)
unfolding floats_read
run_fits s at f i zero all = all
run_fits s at f i (suc n) all =
    each_set Fit nan nan_fit (floats_read s at f i n) (i + n) (float_at s (at + 8 * n)) (run_fits s at f i n all)
    (float_fits s (at + 8 * n))

floats_fit : (s : List ℕ) (n : ℕ) → Fits (floats_in s n)
unfolding floats_in
floats_fit s n =
    run_fits s _ _ 13 3
    (run_fits s _ _ 11 2 (run_fits s _ _ 9 2 (run_fits s _ _ 0 3 (run_fits s _ _ 3 6 (zeros_fit 16)))))

-- ---- all of it

mosts_tested : all_below (λ i. ltb (most_at i) (2 ^ 64)) 51 ≡ true
unfolding mosts all_below
mosts_tested = refl

most_small : (i : ℕ) → i < 51 → most_at i < 2 ^ 64
most_small i below = ltb-true _ _ (all_apart (λ i. ltb (most_at i) (2 ^ 64)) 51 mosts_tested i below)

-- f of six timers
six_small : (f : Timer → ℕ) (ts : List Timer) → ((i : ℕ) → i < 6 → f (get_or ts i none) < 2 ^ 64)
    → Below (2 ^ 64) (of_timers f ts)
six_small f ts each zero = each 0 (omega arith)
six_small f ts each (suc zero) = each 1 (omega arith)
six_small f ts each (suc (suc zero)) = each 2 (omega arith)
six_small f ts each (suc (suc (suc zero))) = each 3 (omega arith)
six_small f ts each (suc (suc (suc (suc zero)))) = each 4 (omega arith)
six_small f ts each (suc (suc (suc (suc (suc zero))))) = each 5 (omega arith)
six_small f ts each (suc (suc (suc (suc (suc (suc i)))))) = omega arith

module _ (s : List ℕ) (bytes : Below 256 s) (a : Facts s) where
  abbrev n : ℕ
  n = others_in s

  abbrev k : ℕ
  k = presses_in s

  abbrev e : ℕ
  e = events_in s

  abbrev b : Body s n k e
  b = a.body

  abbrev sram : List ℕ
  sram = part s (sram_at n k e + 4) SRAM_SIZE

  cells_size : length (cells_in s n) ≡ 51
  unfolding cells_in cells_read
  cells_size = refl

  cells_small : Below (2 ^ 64) (cells_in s n)
  cells_small i =
      by_less i 51
      (λ less. let p = in_range s b.cells.ranges i less in let q = most_small i less in omega arith)
      (λ past. subst (λ (v : ℕ). v < 2 ^ 64)
      (sym (get_or-eq_default (cells_in s n) 0 (let z = cells_size in omega arith))) (omega arith))

  bank_small : Below (2 ^ 64) (bank_in s)
  unfolding bank_in
  bank_small =
      let p = a.events in
      let q = a.presses in
      each_set (λ (v : ℕ). v < 2 ^ 64) 0 (omega arith) (set (cells_in s n) 45 e) 46 k
      (each_set (λ (v : ℕ). v < 2 ^ 64) 0 (omega arith) (cells_in s n) 45 e cells_small (omega arith)) (omega arith)

  read_is : parts_in (cells_of (parts_read s)) (floats_of (parts_read s)) ≡ parts_read s
  unfolding parts_read
  read_is = ap₂ (λ (l : List ℕ) (f : List Float). parts_in l f) (read_cells s b.cells.ranges) (read_floats s)

  abbrev clock : ℕ
  clock = clock_in sram

  abbrev counted : List ℕ
  counted = of_timers (λ (t : Timer). t.seen) (resynced (slots_in s) clock (parts_read s)).devices.clocks.timers

  seen_small : Below (2 ^ 64) counted
  unfolding resynced
  seen_small =
      six_small (λ (t : Timer). t.seen) (resynced (slots_in s) clock (parts_read s)).devices.clocks.timers (λ i below.
      let l = seen i below in omega arith)
    where
      seen : (i : ℕ) → i < 6
          → (get_or (resynced (slots_in s) clock (parts_read s)).devices.clocks.timers i none).seen ≤ 2 ^ 52
      seen i below =
          ((resynced_within (slots_in s) (parts_read s).devices.clocks clock (load_fits sram 0x90A4 4)
          (read_clocks s bytes a)).timers i below).limit

  back_small : Below (2 ^ 64) (cells_of (resynced (slots_in s) clock (parts_read s)))
  unfolding laid_at
  back_small i =
      subst (λ (l : List ℕ). get_or l i 0 < 2 ^ 64)
      (sym (resynced_cells (slots_in s) clock (parts_read s)
      ∙ ap (λ (l : List ℕ). laid_at l 25 counted) (read_cells s b.cells.ranges)))
      (each_append (λ (v : ℕ). v < 2 ^ 64) 0 (omega arith) (take 25 (bank_in s)) (counted ++ drop 31 (bank_in s))
      (each_take (λ (v : ℕ). v < 2 ^ 64) 0 (omega arith) 25 (bank_in s) bank_small)
      (each_append (λ (v : ℕ). v < 2 ^ 64) 0 (omega arith) counted (drop 31 (bank_in s)) seen_small
      (each_drop (λ (v : ℕ). v < 2 ^ 64) 0 (omega arith) 31 (bank_in s) bank_small)) i)

  back_fit : Fits (floats_of (parts_back s sram))
  back_fit i = subst (λ (f : List Float). Fit (get_or f i nan)) (sym (back_floats s sram)) (floats_fit s n i)

  pub read_typed : Typed (machine_in s)
  unfolding machine_in parts_back resynced
  read_typed = record {
    scalars = resynced_parts (slots_in s) clock (parts_read s) read_is;
    cells = back_small;
    floats = back_fit;
    slots = slots_small s bytes;
    addresses = places_small s bytes 366 n;
    values = places_small s bytes 370 n;
    onsets = column_fits s (events_at n k + 4) e;
    frequencies = column_fits s (events_at n k + 4 + 8) e;
    duties = column_fits s (events_at n k + 4 + 16) e;
    starts = starts_fit s (presses_at n + 4) k;
  }

pub resumed_typed : (s : List ℕ) → Below 256 s → good_session s ≡ true → Typed (machine_in s)
resumed_typed s bytes h = read_typed s bytes (facts s h)
