-- DEMAND 2 FROM A RESUMED MACHINE ON: flash, panel and presses do as sys.rs does.
use Prim.Native.Nat.{ℕ, zero, suc, ◌+◌, ◌%◌, ◌^◌, ◌≤◌, ◌<◌}
use mathlib.Core.Path.{◌≡◌, refl, sym, ap, subst}
use mathlib.Core.Bool.{Bool, true, false, cond}
use mathlib.Core.List.{List, [], ◌∷◌}
use native.Mathlib.Omega.{arith}
use lib.Dec.{ltb}
use lib.ListN.{length, get_or, take}
use lib.Seq.{length-take-le}
use borrow.Author.Tests.{ltb-true}
use Rattle.std.specs.Prelude.{None, Some}
use Rattle.map.specs.Numbers.{FLASH_SIZE, RAM_SIZE}
use Rattle.flash.specs.Board.{good_size}
use Rattle.flash.specs.Run.{Good}
use Rattle.reach.proofs.Exactly as exactly
use Rattle.panel.specs.Onward.{IsByte, PanelTyped}
use Rattle.panel.proofs.Onward as drawn
use Rattle.keys.proofs.Onward as pressed
use Rattle.state.specs.declared.Parts.{Parts}
use Rattle.state.specs.Bank.{maybe_in, panel_in}
use Rattle.state.specs.Packed.{cells_of}
use Rattle.system.specs.System.{Machine, buttons_in}
use Rattle.system.specs.Carried.{array_in, board_in}
use Rattle.system.specs.Limits.{WithinLimits}
use Rattle.script.proofs.Wiped.{good_memory}
use Rattle.session.specs.Layout.{ram_at}
use Rattle.session.specs.Good.{good_session, others_in, presses_in, events_in}
use Rattle.session.specs.Session.{parts_of, machine_in}
use Rattle.keeping.specs.Typed.{Below, Typed, UnitLengths}
use Rattle.keeping.specs.AsRust.{AsRust}
use Rattle.keeping.proofs.Lists.{each_take}
use Rattle.keeping.proofs.Resumed.{part_bytes, resumed_limits}
use Rattle.keeping.proofs.Widths.{resumed_typed}
use Rattle.keeping.proofs.Exactly.{resumed_lengths}

-- ---- the panel of a bank's words is typed, whatever they are

byte_below : (v : ℕ) → v % 256 < 256
byte_below v = omega arith

short_below : (v : ℕ) → v % 65536 < 2 ^ 16
short_below v = omega arith

maybe_byte : (v : ℕ) → IsByte (maybe_in v)
unfolding maybe_in
maybe_byte v = by (ltb v 256) refl
  where
    by : (b : Bool) → ltb v 256 ≡ b → IsByte (cond b (Some v) None)
    by true e = ltb-true v 256 e
    by false e = tt

args_below : (a b c d i : ℕ) → get_or (a % 256 ∷ b % 256 ∷ c % 256 ∷ d % 256 ∷ []) i 0 < 256
args_below a b c d zero = byte_below a
args_below a b c d (suc zero) = byte_below b
args_below a b c d (suc (suc zero)) = byte_below c
args_below a b c d (suc (suc (suc zero))) = byte_below d
args_below a b c d (suc (suc (suc (suc i)))) = omega arith

words_panel : (l : List ℕ) → PanelTyped (panel_in l)
unfolding panel_in
words_panel l =
    record {
      x0 = short_below (get_or l 17 0);
      x1 = short_below (get_or l 18 0);
      y0 = short_below (get_or l 19 0);
      y1 = short_below (get_or l 20 0);
      x = short_below (get_or l 21 0);
      y = short_below (get_or l 22 0);
      half = maybe_byte (get_or l 23 0);
      args = args_below (get_or l 12 0) (get_or l 13 0) (get_or l 14 0) (get_or l 15 0);
    }

-- ---- the array of a unit

array_good : (ram : List ℕ) → length ram ≡ RAM_SIZE → Below 256 ram → Good (array_in ram)
unfolding array_in
array_good ram size bytes =
    let long : length (take FLASH_SIZE ram) ≡ FLASH_SIZE =
    length-take-le FLASH_SIZE ram (subst (λ (i : ℕ). FLASH_SIZE ≤ i) (sym size) (omega arith)) in
    record {
      size = ap good_size long;
      bytes = each_take (λ (v : ℕ). v < 256) 0 (omega arith) FLASH_SIZE ram bytes;
    }

-- ANY UNIT WITHIN THE LIMITS; `arrays_typed` has what its arrays need for `Typed`
pub unit_as_rust : (m : Machine) → WithinLimits m → Typed m → UnitLengths m → Below 256 m.ram → AsRust m
unit_as_rust m w t u bytes =
    let panel : PanelTyped m.system.devices.panel =
    subst (λ (x : Parts). PanelTyped x.devices.panel) t.scalars (words_panel (cells_of (parts_of m))) in
    let good = array_good m.ram (good_memory m.ram m.sram m.gpio m.fb u).ram_size bytes in
    record {
      flash = exactly.as_rust_from (board_in m) w.flash.mode good w.flash.reached;
      panel = drawn.as_rust_from m.system.devices.panel m.fb w.panel panel;
      keys = λ acts k o. pressed.as_rust_from (buttons_in m.system) m.system.devices.clocks.times.now w.keys
          (λ i l. t.starts i) w.clocks.times.now_good acts o k;
    }

resumed_ram : (s : List ℕ) → Below 256 s → Below 256 (machine_in s).ram
unfolding machine_in
resumed_ram s bytes = part_bytes s bytes (ram_at (others_in s) (presses_in s) (events_in s) + 4) RAM_SIZE

-- ANY RESUMED SESSION
pub resumed_as_rust : (s : List ℕ) → Below 256 s → good_session s ≡ true → AsRust (machine_in s)
resumed_as_rust s bytes h =
    unit_as_rust (machine_in s) (resumed_limits s bytes h) (resumed_typed s bytes h) (resumed_lengths s bytes h)
    (resumed_ram s bytes)
