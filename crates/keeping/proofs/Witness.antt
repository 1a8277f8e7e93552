-- The fresh machine of a unit is typed, so its session is good: what the theorems ask can be met.
use Prim.Native.Nat.{ℕ, zero, suc, ◌^◌, ◌<◌}
use mathlib.Core.Path.{◌≡◌, refl, sym, subst, ◌∙◌}
use mathlib.Core.Bool.{true}
use mathlib.Core.List.{List}
use native.Mathlib.Omega.{arith}
use lib.Dec.{T, ltb}
use lib.Ieee.{nan, binary64, of_bits, fits}
use lib.ListN.{length, get_or, replicate, length-replicate, get_or-eq_default}
use borrow.Author.Tests.{ltb-true, eq-eqb}
use Rattle.map.specs.Numbers.{RAM_SIZE, SRAM_SIZE, GPIO_SIZE, FRAMEBUFFER_SIZE}
use Rattle.whole.proofs.Choice.{by_less}
use Rattle.registers.specs.Words.{fresh_registers}
use Rattle.clock.specs.Rtc.{fresh_rtc}
use Rattle.timer.specs.Events.{empty_queue}
use Rattle.keys.specs.Keys.{fresh_buttons}
use Rattle.state.specs.Bank.{mode_in, maybe_in, chip_in, panel_in, times_in, timer_in, irq_in, latch_in, tone_in}
use Rattle.state.specs.Bank.{ring_in, keys_in}
use Rattle.state.specs.Bank.{parts_in}
use Rattle.state.specs.Packed.{mode_number, maybe_number, chip_cells, panel_cells, clock_cells, key_cells, times_floats}
use Rattle.state.specs.Packed.{cells_of, floats_of}
use Rattle.time.specs.Clocks.{fresh_clocks}
use Rattle.runner.specs.Script.{bad_memory}
use Rattle.system.specs.System.{Machine, machine, fresh_devices, fresh_system}
use Rattle.system.specs.Calls.{wiped_of}
use Rattle.system.proofs.Kept.{fresh_limits_over}
use Rattle.session.specs.Fields.{all_below}
use Rattle.session.specs.Good.{good_session}
use Rattle.session.specs.Session.{parts_of, bytes_in}
use Rattle.keeping.specs.Typed.{Below, Fits, Typed, UnitLengths}
use Rattle.session.proofs.Facts.{all_apart}
use Rattle.keeping.proofs.Lists.{Fit, nan_fit, zeros_fit}
use Rattle.keeping.proofs.Saved.{saved_good}

zeros_below : (k n : ℕ) → 0 < k → Below k (replicate n 0)
zeros_below k zero some j = some
zeros_below k (suc n) some zero = some
zeros_below k (suc n) some (suc j) = zeros_below k n some j

module _ (ram sram gpio fb : List ℕ) where
  abbrev fresh : Machine
  fresh = machine fresh_system ram sram gpio fb

  fresh_scalars : parts_in (cells_of (parts_of fresh)) (floats_of (parts_of fresh)) ≡ parts_of fresh
  unfolding fresh_system fresh_devices fresh_clocks fresh_rtc empty_queue fresh_buttons cells_of chip_cells panel_cells
      clock_cells key_cells floats_of times_floats mode_number maybe_number mode_in maybe_in chip_in panel_in
      times_in timer_in
      irq_in latch_in tone_in ring_in keys_in
  fresh_scalars = refl

  cells_tested : all_below (λ i. ltb (get_or (cells_of (parts_of fresh)) i 0) (2 ^ 64)) 51 ≡ true
  unfolding fresh_system fresh_devices fresh_clocks fresh_rtc empty_queue fresh_buttons cells_of chip_cells panel_cells
      clock_cells key_cells mode_number maybe_number all_below
  cells_tested = refl

  cells_long_lem : length (cells_of (parts_of fresh)) ≡ 51
  unfolding cells_of chip_cells panel_cells clock_cells key_cells
  cells_long_lem = refl

  fresh_cells : Below (2 ^ 64) (cells_of (parts_of fresh))
  fresh_cells i =
      by_less i 51
      (λ less. ltb-true _ _ (all_apart (λ i. ltb (get_or (cells_of (parts_of fresh)) i 0) (2 ^ 64)) 51 cells_tested
      i less))
      (λ past. subst (λ (v : ℕ). v < 2 ^ 64)
      (sym (get_or-eq_default (cells_of (parts_of fresh)) 0 (let z = cells_long_lem in omega arith))) (omega arith))

  floats_tested : all_below (λ i. fits binary64 (get_or (floats_of (parts_of fresh)) i nan)) 16 ≡ true
  unfolding fresh_system fresh_devices fresh_clocks fresh_rtc empty_queue fresh_buttons floats_of times_floats fits
      of_bits
      all_below
  floats_tested = refl

  floats_long : length (floats_of (parts_of fresh)) ≡ 16
  unfolding floats_of times_floats
  floats_long = refl

  fresh_floats : Fits (floats_of (parts_of fresh))
  fresh_floats i =
      by_less i 16
      (λ less. subst T
      (sym (all_apart (λ i. fits binary64 (get_or (floats_of (parts_of fresh)) i nan)) 16 floats_tested i less)) tt)
      (λ past. subst Fit
      (sym (get_or-eq_default (floats_of (parts_of fresh)) nan (let z = floats_long in omega arith))) nan_fit)

  pub fresh_typed : Typed fresh
  unfolding fresh_system fresh_registers empty_queue fresh_buttons
  fresh_typed = record {
    scalars = fresh_scalars;
    cells = fresh_cells;
    floats = fresh_floats;
    slots = zeros_below (2 ^ 32) 76 (omega arith);
    addresses = zeros_below (2 ^ 32) 256 (omega arith);
    values = zeros_below (2 ^ 32) 256 (omega arith);
    onsets = zeros_fit 256;
    frequencies = zeros_fit 256;
    duties = zeros_fit 256;
    starts = zeros_fit 64;
  }

  -- THE FRESH MACHINE'S SESSION is good, over any memories of a unit
  pub fresh_good : UnitLengths fresh → good_session (bytes_in fresh) ≡ true
  fresh_good u = saved_good fresh (fresh_limits_over ram sram gpio fb) fresh_typed u

-- so there is a session: that of a unit that was wiped
abbrev zeros : ℕ → List ℕ
zeros n = replicate n 0

wiped_lengths : (ram sram gpio fb : ℕ) → ram ≡ RAM_SIZE → sram ≡ SRAM_SIZE → gpio ≡ GPIO_SIZE → fb ≡ FRAMEBUFFER_SIZE
    → UnitLengths (wiped_of ram sram gpio fb)
unfolding wiped_of bad_memory
wiped_lengths ram sram gpio fb r s g f =
    rw (
      eq-eqb (length (zeros ram)) RAM_SIZE (length-replicate ram 0 ∙ r),
      eq-eqb (length (zeros sram)) SRAM_SIZE (length-replicate sram 0 ∙ s),
      eq-eqb (length (zeros gpio)) GPIO_SIZE (length-replicate gpio 0 ∙ g),
      eq-eqb (length (zeros fb)) FRAMEBUFFER_SIZE (length-replicate fb 0 ∙ f),
    )

wiped_good : (ram sram gpio fb : ℕ) → UnitLengths (wiped_of ram sram gpio fb)
    → good_session (bytes_in (wiped_of ram sram gpio fb)) ≡ true
unfolding wiped_of
wiped_good ram sram gpio fb u = fresh_good (replicate ram 0) (replicate sram 0) (replicate gpio 0) (replicate fb 0) u

pub wiped_session : good_session (bytes_in (wiped_of RAM_SIZE SRAM_SIZE GPIO_SIZE FRAMEBUFFER_SIZE)) ≡ true
wiped_session =
    wiped_good RAM_SIZE SRAM_SIZE GPIO_SIZE FRAMEBUFFER_SIZE
    (wiped_lengths RAM_SIZE SRAM_SIZE GPIO_SIZE FRAMEBUFFER_SIZE refl refl refl refl)
