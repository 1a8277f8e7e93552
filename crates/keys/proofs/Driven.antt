-- The lines: bits 5, 6 and 7 of their word are driven, and nothing else of the GPIO memory changes.
use Prim.Native.Nat.{ℕ, zero, suc, ◌-◌, ◌/◌, ◌%◌, ◌^◌, ◌≤◌, ◌<◌}
use mathlib.Core.Path.{◌≡◌, refl, ap, ◌∙◌}
use mathlib.Core.Bool.{Bool, true, false, cond}
use mathlib.Core.List.{List}
use mathlib.Core.Logic.{◌≢◌}
use native.Mathlib.Nat.{mod-eq_of_lt, mod-mod, mod-lt}
use native.Mathlib.Omega.{arith}
use lib.Bits.{bit_and, bit_or, or_lt, and_le_l, and_le_r, and_shr, or_shr, and_mod, or_mod, and_mask, and_zero_r}
use lib.Bits.{or_zero_r}
use lib.Dec.{eqb, lit<, lit≤}
use lib.ListN.{length, get_or}
use borrow.Author.Tests.{ne_eqb}
use Rattle.memory.specs.Bytes.{loaded, stored_at}
use Rattle.memory.proofs.Stored.{Outside, byte_other, load_store, load_fits}
use Rattle.keys.specs.declared.Held.{Held}
use Rattle.keys.specs.Lines.{wanted, driven, lines, sync_of, line_of}

-- the word of the lines
abbrev word : List ℕ → ℕ
word gpio = loaded gpio 0x20 4

-- ---- what is wanted, by its bits
record Bits (h : Held) : Type 0 where
  pub high : wanted h / 256 ≡ 0
  pub low : wanted h % 32 ≡ 0
  pub a : wanted h / 0x20 % 2 ≡ cond h.a 1 0
  pub b : wanted h / 0x40 % 2 ≡ cond h.b 1 0
  pub c : wanted h / 0x80 % 2 ≡ cond h.c 1 0

bits : (h : Held) → Bits h
unfolding wanted
bits h = by h.a h.b h.c
  where
    by : (a b c : Bool) → Bits (record { a = a; b = b; c = c })
    by true true true = record { high = refl; low = refl; a = refl; b = refl; c = refl }
    by true true false = record { high = refl; low = refl; a = refl; b = refl; c = refl }
    by true false true = record { high = refl; low = refl; a = refl; b = refl; c = refl }
    by true false false = record { high = refl; low = refl; a = refl; b = refl; c = refl }
    by false true true = record { high = refl; low = refl; a = refl; b = refl; c = refl }
    by false true false = record { high = refl; low = refl; a = refl; b = refl; c = refl }
    by false false true = record { high = refl; low = refl; a = refl; b = refl; c = refl }
    by false false false = record { high = refl; low = refl; a = refl; b = refl; c = refl }

driven_fits : (w applied : ℕ) (h : Held) → w < 2 ^ 32 → driven w applied (wanted h) < 2 ^ 32
unfolding driven
driven_fits w applied h l =
    or_lt 32 (bit_and w (0xFFFFFFFF - applied)) (wanted h) (omega (arith, and_le_l w (0xFFFFFFFF - applied)))
    (omega (arith, (bits h).high))

-- the lines change
driven_word : (gpio : List ℕ) (applied : ℕ) (h : Held) → 36 ≤ length gpio
    → loaded (stored_at gpio 0x20 4 (driven (word gpio) applied (wanted h))) 0x20 4
    ≡ driven (word gpio) applied (wanted h)
driven_word gpio applied h l =
    load_store gpio 0x20 4 (driven (word gpio) applied (wanted h)) (lit≤ tt) l
    ∙ mod-eq_of_lt (driven_fits (word gpio) applied h (load_fits gpio 0x20 4))

-- ---- bits but 5, 6 and 7
high_kept : (w applied : ℕ) (h : Held) → w < 2 ^ 32 → applied ≤ 0xE0 → driven w applied (wanted h) / 2 ^ 8 ≡ w / 2 ^ 8
unfolding driven
high_kept w applied h l a =
    let m : (0xFFFFFFFF - applied) / 2 ^ 8 ≡ 2 ^ 24 - 1 = omega arith in
    let s : w / 2 ^ 8 < 2 ^ 24 = omega arith in
    rw (or_shr, and_shr, m, (bits h).high, or_zero_r) (and_mask (w / 2 ^ 8) 24 ∙ mod-eq_of_lt s)

low_kept : (w applied : ℕ) (h : Held) → applied ≤ 0xE0 → applied % 32 ≡ 0 → driven w applied (wanted h) % 2 ^ 5 ≡ w %
    2 ^ 5
unfolding driven
low_kept w applied h a z =
    let m : (0xFFFFFFFF - applied) % 2 ^ 5 ≡ 2 ^ 5 - 1 = omega arith in
    rw (or_mod, and_mod, m, (bits h).low, or_zero_r) (and_mask (w % 2 ^ 5) 5 ∙ mod-mod w (2 ^ 5))

-- ---- a line
line : (x y : ℕ) (on : Bool) → x < 2 → y < 2 → bit_or (bit_and x (1 - y)) (cond on 1 0) ≡ line_of on y x
line zero zero true h k = refl
line zero zero false h k = refl
line zero (suc zero) true h k = refl
line zero (suc zero) false h k = refl
line (suc zero) zero true h k = refl
line (suc zero) zero false h k = refl
line (suc zero) (suc zero) true h k = refl
line (suc zero) (suc zero) false h k = refl
line (suc (suc x)) y on h k = absurd (let z : ⊥ = omega arith in z)
line zero (suc (suc y)) on h k = absurd (let z : ⊥ = omega arith in z)
line (suc zero) (suc (suc y)) on h k = absurd (let z : ⊥ = omega arith in z)

line_driven : (k w applied want : ℕ) (on : Bool) → (0xFFFFFFFF - applied) / 2 ^ k % 2 ^ 1 ≡ 1 - applied / 2 ^ k % 2
    → want / 2 ^ k % 2 ^ 1 ≡ cond on 1 0
    → driven w applied want / 2 ^ k % 2 ^ 1 ≡ line_of on (applied / 2 ^ k % 2) (w / 2 ^ k % 2)
unfolding driven
line_driven k w applied want on m e =
    rw (or_shr, or_mod, and_shr, and_mod, m, e) (line (w / 2 ^ k % 2) (applied / 2 ^ k % 2) on
    (mod-lt (w / 2 ^ k) (lit< tt)) (mod-lt (applied / 2 ^ k) (lit< tt)))

-- ---- the memory after the lines are driven
module _ (gpio : List ℕ) (applied : ℕ) (h : Held) where
  -- bits but 5, 6 and 7 of the word stay
  pub other_bits_kept : 36 ≤ length gpio → bit_and applied 0xE0 ≡ applied
      → (word (sync_of gpio applied h).gpio / 256 ≡ word gpio / 256) × (word (sync_of gpio applied h).gpio % 32 ≡ word
      gpio % 32)
  unfolding sync_of
  other_bits_kept l a = by (eqb (wanted h) applied)
    where
      most : applied ≤ 0xE0
      most = omega (arith, and_le_r applied 0xE0)

      none : applied % 32 ≡ 0
      none = let z : bit_and applied 0xE0 % 2 ^ 5 ≡ 0 = rw and_mod (and_zero_r (applied % 2 ^ 5)) in rw a at z

      by : (t : Bool) → let m = (cond t (lines gpio applied)
          (lines (stored_at gpio 0x20 4 (driven (word gpio) applied (wanted h))) (wanted h))).gpio in
          (word m / 256 ≡ word gpio / 256) × (word m % 32 ≡ word gpio % 32)
      by true = (refl, refl)
      by false = (
        ap (λ (w : ℕ). w / 256) (driven_word gpio applied h l) ∙ high_kept (word gpio) applied h
            (load_fits gpio 0x20 4) most,
        ap (λ (w : ℕ). w % 32) (driven_word gpio applied h l) ∙ low_kept (word gpio) applied h most none,
      )

  -- where what is wanted changed, each line is up if it is wanted, down if it was applied and is wanted no more, and
  -- else as it was
  pub lines_driven : 36 ≤ length gpio → applied < 2 ^ 32 → wanted h ≢ applied
      → (word (sync_of gpio applied h).gpio / 0x20 % 2 ≡ line_of h.a (applied / 0x20 % 2) (word gpio / 0x20 % 2))
      × (word (sync_of gpio applied h).gpio / 0x40 % 2 ≡ line_of h.b (applied / 0x40 % 2) (word gpio / 0x40 % 2))
      × (word (sync_of gpio applied h).gpio / 0x80 % 2 ≡ line_of h.c (applied / 0x80 % 2) (word gpio / 0x80 % 2))
  unfolding sync_of
  lines_driven l a d =
      rw (ne_eqb (wanted h) applied d, driven_word gpio applied h l) (
        line_driven 5 (word gpio) applied (wanted h) h.a (omega arith) (bits h).a,
        line_driven 6 (word gpio) applied (wanted h) h.b (omega arith) (bits h).b,
        line_driven 7 (word gpio) applied (wanted h) h.c (omega arith) (bits h).c,
      )

  -- and no other byte changes
  pub other_bytes_kept : (p : ℕ) → Outside 0x20 4 p → get_or (sync_of gpio applied h).gpio p 0 ≡ get_or gpio p 0
  unfolding sync_of
  other_bytes_kept p o = by (eqb (wanted h) applied)
    where
      by : (t : Bool) → get_or (cond t (lines gpio applied)
          (lines (stored_at gpio 0x20 4 (driven (word gpio) applied (wanted h))) (wanted h))).gpio p 0 ≡ get_or gpio p 0
      by true = refl
      by false = byte_other gpio 0x20 4 (driven (word gpio) applied (wanted h)) p o
