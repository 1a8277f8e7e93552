-- The branches of the definitions, each with the facts that lead to it.
use Rattle.std.proofs.Common.{◌≡◌, ℕ, ◌+◌, ◌-◌, ◌%◌, ◌^◌, ◌<◌, ◌≤◌, Bool, true, false, leb, List, ◌∷◌, length}
use Rattle.std.proofs.Common.{get_or, drop, sym, ap, ◌∙◌, ⊎_elim, add-one, arith, drop_of_length-le, drop-cons}
use Rattle.std.proofs.Common.{le-leb}
use borrow.Author.Tests.{lt-leb}
use Rattle.whole.proofs.Choice.{lt_or_ge}
use Rattle.registers.specs.declared.Registers.{Registers}
use Rattle.block.specs.Block as block
use Rattle.block.specs.Block.{Block, peek_of, joined_of, block_of, whole_of, Plain, poked_of, laid_from, laid_of}

-- ---- a block that fits

module _ (len at n : ℕ) where
  pub fits_short : len < n → false ≡ leb (at + n) len
  fits_short h = let l : len < at + n = omega arith in sym (lt-leb _ _ l)

  pub fits_is : n ≤ len → leb at (len - n) ≡ leb (at + n) len
  fits_is h = ⊎_elim (λ l. lt-leb _ _ l ∙ fits_not (omega arith)) (λ l. le-leb _ _ l ∙ fits_yes (omega arith))
      (lt_or_ge (len - n) at)
    where
      fits_not : len < at + n → false ≡ leb (at + n) len
      fits_not l = sym (lt-leb _ _ l)

      fits_yes : at + n ≤ len → true ≡ leb (at + n) len
      fits_yes l = sym (le-leb _ _ l)

-- ---- a word of four bytes

pub word_joined : (r : Registers) (ram sram gpio : List ℕ) (addr : ℕ) {a b c d i j k l x : ℕ} → i ≡ (addr + 0) % 2 ^ 32
    → a ≡ peek_of r ram sram gpio i → j ≡ (addr + 1) % 2 ^ 32
    → b ≡ peek_of r ram sram gpio j → k ≡ (addr + 2) % 2 ^ 32 → c ≡ peek_of r ram sram gpio k → l ≡ (addr + 3) % 2 ^ 32
    → d ≡ peek_of r ram sram gpio l → x ≡ joined_of a b c d
    → x ≡ block.peeked32 r ram sram gpio addr
unfolding block.peeked32
word_joined r ram sram gpio addr i a j b k c l d x = rw (← i, ← a, ← j, ← b, ← k, ← c, ← l, ← d) x

pub block_read : (r : Registers) (ram sram gpio : List ℕ) (a n : ℕ) {l : List ℕ} {b : Bool}
    → l ≡ block_of r ram sram gpio a n
    → b ≡ whole_of (length ram) (length sram) (length gpio) a n → block.block b l ≡ block.read_of r ram sram gpio a n
unfolding block.read_of
block_read r ram sram gpio a n h k = rw (h, k)

pub block_bytes : (r : Registers) (ram sram gpio : List ℕ) (a n : ℕ) {l : List ℕ} {b : Bool}
    → block.block b l ≡ block.read_of r ram sram gpio a n → l ≡ block_of r ram sram gpio a n
unfolding block.read_of
block_bytes r ram sram gpio a n h = ap (λ (z : Block). z.bytes) h

-- ---- poke

pub lay_step : (p : Plain) {q : Plain} (a i : ℕ) (bytes : List ℕ) {k : ℕ} → i < length bytes → k ≡ (a + i) % 2 ^ 32
    → q ≡ poked_of p k (get_or bytes i 0) → laid_from q a (i + 1) (drop (i + 1) bytes) ≡ laid_from p a i (drop i bytes)
unfolding laid_from
lay_step p a i bytes l e h =
    ap (λ (z : Plain). laid_from z a (i + 1) (drop (i + 1) bytes))
    (h ∙ ap (λ (x : ℕ). poked_of p x (get_or bytes i 0)) e)
    ∙ sym (ap (λ (bs : List ℕ). laid_from p a i bs)
    (drop-cons bytes i 0 l ∙ ap (λ (x : ℕ). get_or bytes i 0 ∷ drop x bytes) (sym (add-one i))))

pub lay_end : (p q : Plain) (a i : ℕ) (bytes : List ℕ) → length bytes ≤ i → laid_from p a i (drop i bytes) ≡ laid_of q a
    bytes → p ≡ laid_of q a bytes
unfolding laid_from
lay_end p q a i bytes l h = rw (drop_of_length-le bytes l) at h
