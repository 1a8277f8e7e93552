-- The bank's words of a machine within the limits: each is at most what a session may say.
use Prim.Native.Nat.{ℕ, zero, suc, ◌+◌, ◌%◌, ◌≤◌, ◌<◌}
use mathlib.Core.Path.{◌≡◌, refl, sym, ap, subst}
use mathlib.Core.Bool.{Bool, true, false, cond, ◌&&◌}
use mathlib.Core.List.{List, [], ◌∷◌}
use native.Mathlib.Omega.{arith}
use lib.Bits.{and_le_r}
use lib.Dec.{ltb, leb}
use lib.ListN.{length, get_or, replicate}
use lib.Seq.{length-take-le}
use borrow.Author.Tests.{ltb-true, leb-true, le-leb}
use Rattle.std.specs.Prelude.{None, Some}
use Rattle.map.specs.Numbers.{FLASH_SIZE}
use Rattle.whole.specs.Forms.{bit}
use Rattle.flash.specs.declared.Trans.{Trans}
use Rattle.whole.proofs.Choice.{both as apart}
use Rattle.reach.specs.Reach.{reachable, header_ok, mark_ok, page_ok}
use Rattle.state.specs.declared.Parts.{Parts}
use Rattle.state.specs.Bank.{mode_in, maybe_in, chip_in, panel_in, times_in, timer_in, irq_in, latch_in, tone_in}
use Rattle.state.specs.Bank.{ring_in, keys_in}
use Rattle.state.specs.Packed.{maybe_number, chip_cells, panel_cells, clock_cells, key_cells, cells_of}
use Rattle.state.specs.Parts.{none}
use Rattle.system.specs.System.{Machine}
use Rattle.system.specs.Carried.{array_in}
use Rattle.system.specs.Limits.{WithinLimits}
use Rattle.session.specs.Fields.{span, all_below}
use Rattle.session.specs.Layout.{mosts, width_at, most_at}
use Rattle.session.specs.Good.{in_ranges}
use Rattle.keeping.specs.Typed.{Typed}
use Rattle.session.proofs.Facts.{all_apart, all_joined}
use Rattle.keeping.proofs.Placed.{Sized, cells}
use Rattle.keeping.proofs.Runs.{copied}

-- ---- lists, place by place

data AtMosts : List ℕ → List ℕ → Type 0 where
  end : {ms : List ℕ} → AtMosts [] ms
  also : {x m : ℕ} {xs ms : List ℕ} → x ≤ m → AtMosts xs ms → AtMosts (x ∷ xs) (m ∷ ms)

at_most_at : {l ms : List ℕ} → AtMosts l ms → (i : ℕ) → get_or l i 0 ≤ get_or ms i 0
at_most_at end i = omega arith
at_most_at (also h rest) zero = h
at_most_at (also h rest) (suc i) = at_most_at rest i

-- the greatest number of each word; of one that is not saved any
unfoldable pub tops : List ℕ
tops =
    0xFFFFFFFFFFFFFFFF ∷ 1 ∷ 1 ∷ 0xFFFFFFFFFFFFFFFF ∷ 255 ∷ 255 ∷ 255 ∷ 255 ∷ 255 ∷ 0xFFFFFFFF ∷ 1
    ∷ 256 ∷ 255 ∷ 255 ∷ 255 ∷ 255 ∷ 4 ∷ 65535 ∷ 65535 ∷ 65535 ∷ 65535 ∷ 65535 ∷ 65535 ∷ 256 ∷ 0xFFFFFFFFFFFFFFFF
    ∷ 0xFFFFFFFFFFFFFFFF ∷ 0xFFFFFFFFFFFFFFFF ∷ 0xFFFFFFFFFFFFFFFF ∷ 0xFFFFFFFFFFFFFFFF
    ∷ 0xFFFFFFFFFFFFFFFF ∷ 0xFFFFFFFFFFFFFFFF ∷ 1 ∷ 1 ∷ 1 ∷ 1 ∷ 1 ∷ 1
    ∷ 0xFFFFFFFFFFFFFFFF ∷ 86399 ∷ 0xFFFFFFFFFFFFFFFF ∷ 1 ∷ 0xFFFFFFFFFFFF ∷ 255 ∷ 1
    ∷ 0xFFFFFFFFFFFFFFFF ∷ 0xFFFFFFFFFFFFFFFF ∷ 0xFFFFFFFFFFFFFFFF ∷ 1 ∷ 1 ∷ 1 ∷ 255 ∷ []

-- ---- numbers that are packed

bit_most : (b : Bool) → bit b ≤ 1
bit_most true = omega arith
bit_most false = omega arith

byte_most : (v : ℕ) → v % 256 ≡ v → v ≤ 255
byte_most v h = omega arith

short_most : (v : ℕ) → v % 65536 ≡ v → v ≤ 65535
short_most v h = omega arith

maybe_most : (v : ℕ) → maybe_number (maybe_in v) ≡ v → v ≤ 256
unfolding maybe_in maybe_number
maybe_most v h = by (ltb v 256) refl h
  where
    by : (b : Bool) → ltb v 256 ≡ b → maybe_number (cond b (Some v) None) ≡ v → v ≤ 256
    by true e h = let less = ltb-true v 256 e in omega arith
    by false e h = omega arith

module _ (m : Machine) (w : WithinLimits m) (t : Typed m) (z : Sized m) where
  cell : (i : ℕ) → get_or (cells m) i 0 ≤ 0xFFFFFFFFFFFFFFFF
  cell i = let less = t.cells i in omega arith

  array_long : length (array_in m.ram) ≡ FLASH_SIZE
  unfolding array_in
  array_long = length-take-le FLASH_SIZE m.ram (subst (λ (k : ℕ). FLASH_SIZE ≤ k) (sym z.ram) (omega arith))

  -- the flash's transaction is one over its array
  pub flash_trans : reachable FLASH_SIZE m.system.devices.flash.tx m.system.page ≡ true
  flash_trans =
      subst (λ (k : ℕ). reachable k m.system.devices.flash.tx m.system.page ≡ true) array_long
      w.flash.reached.trans

  abbrev trans : Trans
  trans = m.system.devices.flash.tx

  pos_most : trans.pos ≤ 0xFFFFFFFF
  unfolding reachable
  pos_most =
      let a = apart (leb trans.pos (FLASH_SIZE + 4) && header_ok trans)
      (mark_ok trans && page_ok trans m.system.page 256) flash_trans in
      let b = apart (leb trans.pos (FLASH_SIZE + 4)) (header_ok trans) a.0 in
      let c = leb-true trans.pos (FLASH_SIZE + 4) b.0 in
      omega arith

  day_most : m.system.devices.clocks.irq.base ≤ 86399
  day_most = let h = w.clocks.day.base in omega arith

  base_most : m.system.devices.latch.base ≤ 0xFFFFFFFFFFFF
  base_most = let h = w.rtc.base in omega arith

  out_most : m.system.devices.latch.out ≤ 255
  out_most = let h = w.rtc.out in omega arith

  lines_most : m.system.keys.applied ≤ 255
  lines_most =
      let h = and_le_r m.system.keys.applied 0xE0 in
      let e = w.keys.applied in
      omega arith

  words_most : AtMosts (cells m) tops
  unfolding tops cells_of chip_cells panel_cells clock_cells key_cells mode_in chip_in panel_in times_in timer_in
      irq_in latch_in
      tone_in ring_in keys_in
  words_most =
      also (cell 0)
      (also (bit_most m.system.devices.flash.cs)
      (also (bit_most m.system.devices.flash.wel)
      (also (cell 3)
      (also (byte_most _ (ap (λ (y : Parts). y.devices.flash.rx) t.scalars))
      (also (byte_most _ (ap (λ (y : Parts). y.devices.flash.tx.cmd) t.scalars))
      (also (byte_most _ (ap (λ (y : Parts). y.devices.flash.tx.a1) t.scalars))
      (also (byte_most _ (ap (λ (y : Parts). y.devices.flash.tx.a2) t.scalars))
      (also (byte_most _ (ap (λ (y : Parts). y.devices.flash.tx.a3) t.scalars))
      (also pos_most
      (also (bit_most m.system.devices.flash.tx.long)
      (also (maybe_most _ (ap (λ (y : Parts). maybe_number y.devices.panel.cmd) t.scalars))
      (also (byte_most _ (ap (λ (y : Parts). get_or y.devices.panel.args 0 0) t.scalars))
      (also (byte_most _ (ap (λ (y : Parts). get_or y.devices.panel.args 1 0) t.scalars))
      (also (byte_most _ (ap (λ (y : Parts). get_or y.devices.panel.args 2 0) t.scalars))
      (also (byte_most _ (ap (λ (y : Parts). get_or y.devices.panel.args 3 0) t.scalars))
      (also w.panel.most
      (also (short_most _ (ap (λ (y : Parts). y.devices.panel.window.x0) t.scalars))
      (also (short_most _ (ap (λ (y : Parts). y.devices.panel.window.x1) t.scalars))
      (also (short_most _ (ap (λ (y : Parts). y.devices.panel.window.y0) t.scalars))
      (also (short_most _ (ap (λ (y : Parts). y.devices.panel.window.y1) t.scalars))
      (also (short_most _ (ap (λ (y : Parts). y.devices.panel.pen.x) t.scalars))
      (also (short_most _ (ap (λ (y : Parts). y.devices.panel.pen.y) t.scalars))
      (also (maybe_most _ (ap (λ (y : Parts). maybe_number y.devices.panel.pen.half) t.scalars))
      (also (cell 24)
      (also (cell 25)
      (also (cell 26)
      (also (cell 27)
      (also (cell 28)
      (also (cell 29)
      (also (cell 30)
      (also (bit_most (get_or m.system.devices.clocks.timers 0 none).pending)
      (also (bit_most (get_or m.system.devices.clocks.timers 1 none).pending)
      (also (bit_most (get_or m.system.devices.clocks.timers 2 none).pending)
      (also (bit_most (get_or m.system.devices.clocks.timers 3 none).pending)
      (also (bit_most (get_or m.system.devices.clocks.timers 4 none).pending)
      (also (bit_most (get_or m.system.devices.clocks.timers 5 none).pending)
      (also (cell 37)
      (also day_most
      (also (cell 39)
      (also (bit_most m.system.devices.clocks.converting)
      (also base_most
      (also out_most
      (also (bit_most m.system.devices.off)
      (also (cell 44)
      (also (cell 45)
      (also (cell 46)
      (also (bit_most m.system.keys.live.a)
      (also (bit_most m.system.keys.live.b)
      (also (bit_most m.system.keys.live.c)
      (also lines_most
      end))))))))))))))))))))))))))))))))))))))))))))))))))

  pub word_most : (i : ℕ) → get_or (cells m) i 0 ≤ get_or tops i 0
  word_most i = at_most_at words_most i

-- ---- the words that are saved, and 0 for the others

unfoldable pub saved_of : List ℕ → List ℕ
saved_of l =
    let timers = copied l 0 (replicate 51 0) 31 6 in
    let converting = copied l 0 timers 40 1 in
    let off = copied l 0 converting 43 1 in
    let panel = copied l 0 off 11 14 in
    let clocks = copied l 0 panel 37 3 in
    let rtc = copied l 0 clocks 41 2 in
    let flash = copied l 0 rtc 1 10 in
    copied l 0 flash 47 4

-- a word that is not saved
unsaved : 0 ≤ 0
unsaved = omega arith

saved_most : (l : List ℕ) → ((i : ℕ) → get_or l i 0 ≤ get_or tops i 0) → AtMosts (saved_of l) mosts
unfolding saved_of copied tops mosts
saved_most l r =
    also unsaved
    (also (r 1)
    (also (r 2)
    (also (r 3)
    (also (r 4)
    (also (r 5)
    (also (r 6)
    (also (r 7)
    (also (r 8)
    (also (r 9)
    (also (r 10)
    (also (r 11)
    (also (r 12)
    (also (r 13)
    (also (r 14)
    (also (r 15)
    (also (r 16)
    (also (r 17)
    (also (r 18)
    (also (r 19)
    (also (r 20)
    (also (r 21)
    (also (r 22)
    (also (r 23)
    (also (r 24)
    (also unsaved
    (also unsaved
    (also unsaved
    (also unsaved
    (also unsaved
    (also unsaved
    (also (r 31)
    (also (r 32)
    (also (r 33)
    (also (r 34)
    (also (r 35)
    (also (r 36)
    (also (r 37)
    (also (r 38)
    (also (r 39)
    (also (r 40)
    (also (r 41)
    (also (r 42)
    (also (r 43)
    (also unsaved
    (also unsaved
    (also unsaved
    (also (r 47)
    (also (r 48)
    (also (r 49)
    (also (r 50)
    end))))))))))))))))))))))))))))))))))))))))))))))))))

pub saved_ranges : (l : List ℕ) → ((i : ℕ) → get_or l i 0 ≤ get_or tops i 0) → in_ranges (saved_of l) ≡ true
unfolding in_ranges
saved_ranges l r =
    all_joined (λ i. leb (get_or (saved_of l) i 0) (most_at i)) 51
    (λ i below. le-leb (get_or (saved_of l) i 0) (most_at i) (at_most_at (saved_most l r) i))

-- each has room in its bytes
pub run_small : (l : List ℕ) → ((i : ℕ) → get_or l i 0 ≤ get_or tops i 0) → (i n : ℕ)
    → all_below (λ j. ltb (get_or tops (i + j) 0) (span (width_at (i + j)))) n ≡ true
    → (j : ℕ) → j < n → get_or l (i + j) 0 < span (width_at (i + j))
run_small l r i n tested j below =
    let a = r (i + j) in
    let b = ltb-true (get_or tops (i + j) 0) (span (width_at (i + j)))
    (all_apart (λ j. ltb (get_or tops (i + j) 0) (span (width_at (i + j)))) n tested j below) in
    omega arith
