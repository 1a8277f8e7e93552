-- Bytes of the bus without side effects: peek8, peek32, read_block; and poke.
use Rattle.std.specs.Prelude.{ℕ, zero, suc, ◌+◌, ◌-◌, ◌*◌, ◌%◌, ◌^◌, Bool, false, ◌&&◌, List, [], ◌∷◌, length}
use Rattle.std.specs.Prelude.{nat_le, slice_index}
use Rattle.registers.specs.declared.Registers.{Registers}
use Rattle.registers.specs.Words.{registers_of, word_at}
use Rattle.block.specs.declared.Seen.{Seen}
use Rattle.memory.specs.declared.Place.{Place}
use Rattle.memory.specs.declared.Place.TheVariants.{Ram, Sram, Gpio, Register, Stray}
use Rattle.memory.specs.Places.{place_of}
use Rattle.memory.specs.Bytes.{stored_at}
use Rattle.memory.specs.Access.{cut_of}

-- the registers that are seen
abbrev pub held_in : Seen → Registers
held_in s = registers_of s.slots.now s.addresses.now s.values.now

-- the memory byte, the stored register byte or 0
abbrev pub peek_at : Place → Registers → List ℕ → List ℕ → List ℕ → ℕ → ℕ
peek_at (Ram o) r ram sram gpio a = slice_index ram o
peek_at (Sram o) r ram sram gpio a = slice_index sram o
peek_at (Gpio o) r ram sram gpio a = slice_index gpio o
peek_at Register r ram sram gpio a = cut_of (word_at r (a - a % 4)) a 1 % 256
peek_at Stray r ram sram gpio a = 0

unfoldable pub peek_of : Registers → List ℕ → List ℕ → List ℕ → ℕ → ℕ
peek_of r ram sram gpio a = peek_at (place_of a) r ram sram gpio a

abbrev pub joined_of : ℕ → ℕ → ℕ → ℕ → ℕ
joined_of a b c d = a + b * 2 ^ 8 + c * 2 ^ 16 + d * 2 ^ 24

-- the byte i after an address, modulo 2^32
abbrev pub peek_on : Registers → List ℕ → List ℕ → List ℕ → ℕ → ℕ → ℕ
peek_on r ram sram gpio a i = peek_of r ram sram gpio ((a + i) % 2 ^ 32)

unfoldable pub peeked32 : Registers → List ℕ → List ℕ → List ℕ → ℕ → ℕ
peeked32 r ram sram gpio a = joined_of (peek_on r ram sram gpio a 0) (peek_on r ram sram gpio a 1)
    (peek_on r ram sram gpio a 2) (peek_on r ram sram gpio a 3)

-- f of i and of the n - 1 numbers after it
unfoldable pub table : (ℕ → ℕ) → ℕ → ℕ → List ℕ
table f i zero = []
table f i (suc n) = f i ∷ table f (suc i) n

-- the n bytes from an address on
unfoldable pub block_of : Registers → List ℕ → List ℕ → List ℕ → ℕ → ℕ → List ℕ
block_of r ram sram gpio a n = table (λ i. peek_on r ram sram gpio a i) 0 n

-- whether they lie in a memory of so many addresses from the first on, and of this length
unfoldable pub lies_in : ℕ → ℕ → ℕ → ℕ → ℕ → Bool
lies_in first size len a n = nat_le first a && (nat_le (a - first + n) size && nat_le (a - first + n) len)

-- whether they lie in one memory of these lengths; stray space is in pages of 64 KiB
abbrev pub whole_at : Place → ℕ → ℕ → ℕ → ℕ → ℕ → Bool
whole_at (Ram o) ram sram gpio a n = nat_le (o + n) ram
whole_at (Sram o) ram sram gpio a n = nat_le (o + n) sram
whole_at (Gpio o) ram sram gpio a n = nat_le (o + n) gpio
whole_at Register ram sram gpio a n = false
whole_at Stray ram sram gpio a n = nat_le (a % 0x10000 + n) 0x10000

unfoldable pub whole_of : ℕ → ℕ → ℕ → ℕ → ℕ → Bool
whole_of ram sram gpio a n = whole_at (place_of a) ram sram gpio a n

pub record Block : Type 0 where
  pub whole : Bool
  pub bytes : List ℕ

abbrev pub block : Bool → List ℕ → Block
block b l = record { whole = b; bytes = l }

unfoldable pub read_of : Registers → List ℕ → List ℕ → List ℕ → ℕ → ℕ → Block
read_of r ram sram gpio a n = block (whole_of (length ram) (length sram) (length gpio) a n)
    (block_of r ram sram gpio a n)

-- ---- poke

-- the memories that bytes can be laid into
pub record Plain : Type 0 where
  pub ram : List ℕ
  pub sram : List ℕ
  pub gpio : List ℕ

abbrev pub plain : List ℕ → List ℕ → List ℕ → Plain
plain ram sram gpio = record { ram = ram; sram = sram; gpio = gpio }

abbrev pub poked_at : Place → Plain → ℕ → Plain
poked_at (Ram o) p b = plain (stored_at p.ram o 1 b) p.sram p.gpio
poked_at (Sram o) p b = plain p.ram (stored_at p.sram o 1 b) p.gpio
poked_at (Gpio o) p b = plain p.ram p.sram (stored_at p.gpio o 1 b)
poked_at Register p b = p
poked_at Stray p b = p

unfoldable pub poked_of : Plain → ℕ → ℕ → Plain
poked_of p a b = poked_at (place_of a) p b

-- a byte after the other, from place i after an address
unfoldable pub laid_from : Plain → ℕ → ℕ → List ℕ → Plain
laid_from p a i [] = p
laid_from p a i (b ∷ bs) = laid_from (poked_of p ((a + i) % 2 ^ 32) b) a (i + 1) bs

unfoldable pub laid_of : Plain → ℕ → List ℕ → Plain
laid_of p a bs = laid_from p a 0 bs
