-- The parts that the bank's words of a good session make have the session's bytes.
use Prim.Native.Nat.{ℕ, ◌+◌}
use mathlib.Core.Path.{◌≡◌, refl, ap}
use mathlib.Core.Bool.{true}
use mathlib.Core.List.{List}
use lib.Ieee.{Float}
use Rattle.timer.specs.Timers.{resynced_of}
use Rattle.state.specs.Bank.{times_in, timer_in, irq_in, latch_in, tone_in, keys_in}
use Rattle.state.specs.Packed.{chip_cells, panel_cells, clock_cells, key_cells, times_floats, cells_of, floats_of}
use Rattle.time.specs.Resync.{timers_resynced, clocks_resynced}
use Rattle.session.specs.Fields.{rows_of}
use Rattle.session.specs.Layout.{pending_at, flags_at, panel_at, clocks_at, flash_at, keys_at, sound_at, starts_at}
use Rattle.session.specs.Read.{cells_read, floats_read, cells_in, floats_in}
use Rattle.session.specs.Sections.{cell_bytes, float_bytes}
use Rattle.session.specs.Good.{in_ranges, others_in}
use Rattle.session.specs.Session.{bank_in, parts_read, parts_back}
use Rattle.session.proofs.Packed.{read_cells}
use Rattle.keeping.proofs.Runs.{cell_run, float_run}

module _ (s : List ℕ) (sram : List ℕ) where
  abbrev n : ℕ
  n = others_in s

  abbrev l : List ℕ
  l = cells_of (parts_back s sram)

  abbrev f : List Float
  f = floats_of (parts_back s sram)

  -- every run of cells that is saved; the timers' counts, which are not, are others
  pub record CellsBack : Type 0 where
    pub pending : cell_bytes l 31 6 ≡ cell_run s pending_at 31 6
    pub converting : cell_bytes l 40 1 ≡ cell_run s (flags_at n + 4) 40 1
    pub off : cell_bytes l 43 1 ≡ cell_run s (flags_at n + 5) 43 1
    pub panel : cell_bytes l 11 14 ≡ cell_run s (panel_at n + 4) 11 14
    pub ticks : cell_bytes l 37 3 ≡ cell_run s (clocks_at n + 44) 37 3
    pub latch : cell_bytes l 41 2 ≡ cell_run s (clocks_at n + 64) 41 2
    pub chip : cell_bytes l 1 10 ≡ cell_run s (flash_at n + 4) 1 10
    pub keys : cell_bytes l 47 4 ≡ cell_run s (keys_at n + 4) 47 4

  pub cells_back : in_ranges (cells_in s n) ≡ true → CellsBack
  unfolding parts_back clocks_resynced timers_resynced resynced_of cells_of chip_cells panel_cells clock_cells key_cells
      cell_bytes rows_of cell_run bank_in cells_in cells_read
  cells_back ranges =
      let same = read_cells s ranges in
      record {
        pending = ap (λ (l : List ℕ). cell_bytes l 31 6) same;
        converting = ap (λ (l : List ℕ). cell_bytes l 40 1) same;
        off = ap (λ (l : List ℕ). cell_bytes l 43 1) same;
        panel = ap (λ (l : List ℕ). cell_bytes l 11 14) same;
        ticks = ap (λ (l : List ℕ). cell_bytes l 37 3) same;
        latch = ap (λ (l : List ℕ). cell_bytes l 41 2) same;
        chip = ap (λ (l : List ℕ). cell_bytes l 1 10) same;
        keys = ap (λ (l : List ℕ). cell_bytes l 47 4) same;
      }

  pub back_floats : f ≡ floats_in s n
  unfolding floats_of times_floats parts_back parts_read clocks_resynced timers_resynced resynced_of times_in
      timer_in irq_in
      latch_in tone_in keys_in floats_in floats_read
  back_floats = refl

  -- and every run of floats
  pub record FloatsBack : Type 0 where
    pub starts : float_bytes f 3 6 ≡ float_run s starts_at 6
    pub times : float_bytes f 0 3 ≡ float_run s (clocks_at n + 4) 3
    pub moments : float_bytes f 9 2 ≡ float_run s (clocks_at n + 28) 2
    pub tone : float_bytes f 11 2 ≡ float_run s (sound_at n + 4) 2
    pub taps : float_bytes f 13 3 ≡ float_run s (keys_at n + 8) 3

  pub floats_back : FloatsBack
  unfolding float_bytes rows_of float_run floats_in floats_read
  floats_back =
      let same = back_floats in
      record {
        starts = ap (λ (f : List Float). float_bytes f 3 6) same;
        times = ap (λ (f : List Float). float_bytes f 0 3) same;
        moments = ap (λ (f : List Float). float_bytes f 9 2) same;
        tone = ap (λ (f : List Float). float_bytes f 11 2) same;
        taps = ap (λ (f : List Float). float_bytes f 13 3) same;
      }
