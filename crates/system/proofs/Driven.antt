-- Writes of each size carry their low byte to the flash, so any transaction can be carried by any of them.
use Prim.Native.Nat.{ℕ, ◌+◌, ◌/◌, ◌%◌, ◌^◌, ◌≤◌}
use mathlib.Core.Path.{◌≡◌, sym, ap, ap₂, ◌∙◌}
use mathlib.Core.Bool.{Bool, true, false, not, false≢true}
use mathlib.Core.List.{List, [], ◌∷◌, ◌++◌}
use mathlib.Core.Logic.{⊎_elim}
use native.Mathlib.Nat.{mod-eq_of_lt}
use native.Mathlib.Omega.{arith}
use lib.Dec.{eqb}
use lib.Bits.{bit_and, and_mod, and_le_r}
use borrow.Author.Tests.{ne_eqb}
use Rattle.whole.proofs.Choice.{by_cond}
use Rattle.map.specs.Numbers.{SPIFC_SELECT, SPIFC_SEND}
use Rattle.registers.proofs.Slots.{select_port, send_port}
use Rattle.whole.specs.Words.{has}
use Rattle.whole.proofs.Choice.{lt_or_ge}
use Rattle.memory.specs.Places.{within, in_registers, place_of}
use Rattle.memory.specs.Access.{good_size, span_of, cut_of}
use Rattle.memory.proofs.Access.{cut_merged}
use Rattle.flash.specs.Steps.{Step, cs, byte, sends, ByteSteps}
use Rattle.system.specs.System.{Machine}
use Rattle.system.specs.Steps.{write, step}
use Rattle.system.specs.Carried.{lands, merged_in, flash_word, flash_steps, flash_carried, Apart}
use Rattle.system.specs.Damage.{session, Carries, sending, driven}

-- ---- the low byte of the merged word

size_le : (n : ℕ) → good_size n ≡ true → 0 + n ≤ 4
unfolding good_size
size_le n g = ⊎_elim (λ l. omega arith)
    (λ l. absurd (false≢true (rw (
      ne_eqb n 1 (λ e. omega arith),
      ne_eqb n 2 (λ e. omega arith),
      ne_eqb n 4
          (λ e. omega arith),
    ) at g))) (lt_or_ge n 5)

-- a number's low byte, from its remainder by what a size spans
abbrev Low : ℕ → ℕ → ℕ → Type 0
Low x v s = x / 1 % s ≡ v % s → x % 256 ≡ v % 256

span_low : (n x v : ℕ) → Low x v (span_of n)
unfolding span_of
span_low n x v = by_cond (Low x v) (eqb n 4) (2 ^ 32) _ (λ t e. omega arith)
    (λ t. by_cond (Low x v) (eqb n 2) 65536 256 (λ u e. omega arith) (λ u e. omega arith))

-- bit 6 lies in the low byte
has_low : (x : ℕ) → has x 0x40 ≡ has (x % 256) 0x40
has_low x = ap (λ (k : ℕ). not (eqb k 0)) (low (bit_and x 0x40) (and_le_r x 0x40) ∙ and_mod x 0x40 8)
  where
    low : (k : ℕ) → k ≤ 0x40 → k ≡ k % 2 ^ 8
    low k l = omega arith

module _ (m : Machine) (n v : ℕ) (g : good_size n ≡ true) where
  select_low : merged_in m SPIFC_SELECT n v % 256 ≡ v % 256
  unfolding cut_of
  select_low = span_low n _ v (cut_merged _ SPIFC_SELECT n v g (size_le n g))

  send_low : merged_in m SPIFC_SEND n v % 256 ≡ v % 256
  unfolding cut_of
  send_low = span_low n _ v (cut_merged _ SPIFC_SEND n v g (size_le n g))

  select_carried : flash_steps m (write SPIFC_SELECT n v) ≡ cs (has v 0x40) ∷ []
  unfolding lands place_of within in_registers flash_word
  select_carried = rw (g, select_port) (ap (λ (b : Bool). cs b ∷ []) (has_low (merged_in m SPIFC_SELECT n v) ∙ ap
      (λ (k : ℕ). has k 0x40) select_low ∙ sym (has_low v)))

  send_carried : flash_steps m (write SPIFC_SEND n v) ≡ byte (v % 256) ∷ []
  unfolding lands place_of within in_registers flash_word
  send_carried = rw (g, send_port) (ap (λ (k : ℕ). byte k ∷ []) send_low)

-- ---- a whole transaction

sending_carries : (n : ℕ) → good_size n ≡ true → (bs : List ℕ) (m : Machine) → ByteSteps (sends bs)
    → flash_carried m (sending n bs) ≡ sends bs ++ (cs false ∷ [])
unfolding flash_carried
sending_carries n g [] m h = ap (λ (l : List Step). l ++ []) (select_carried m n 0 g)
sending_carries n g (b ∷ bs) m h =
    ap₂ (λ (k l : List Step). k ++ l)
    (send_carried m n b g ∙ ap (λ (k : ℕ). byte k ∷ []) (mod-eq_of_lt h.0))
    (sending_carries n g bs (step m (write SPIFC_SEND n b)).machine h.1)

sending_apart : (n : ℕ) (bs : List ℕ) → Apart (sending n bs)
unfolding place_of within in_registers
sending_apart n [] = (tt, tt)
sending_apart n (b ∷ bs) = (tt, sending_apart n bs)

pub driven_carries : (m : Machine) (n : ℕ) (bs : List ℕ) → good_size n ≡ true → ByteSteps (sends bs)
    → Carries m (driven n bs) (session bs)
unfolding flash_carried place_of within in_registers
driven_carries m n bs g h =
    record {
      apart = (tt, sending_apart n bs);
      steps =
          ap₂ (λ (k l : List Step). k ++ l) (select_carried m n 0x40 g)
          (sending_carries n g bs (step m (write SPIFC_SELECT n 0x40)).machine h);
    }
