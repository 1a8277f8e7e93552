-- The part of a register word that an access reads or writes.
use Rattle.std.specs.Prelude.{ℕ, ◌-◌, ◌*◌, ◌/◌, ◌%◌, ◌^◌, Bool, cond, ◌||◌, eqb}
use Rattle.std.specs.Int.Bits.{bit_and, bit_or}

-- 1, 2 or 4
unfoldable pub good_size : ℕ → Bool
good_size n = eqb n 1 || eqb n 2 || eqb n 4

-- how many values the bytes of an access have
unfoldable pub span_of : ℕ → ℕ
span_of n = cond (eqb n 4) (2 ^ 32) (cond (eqb n 2) 65536 256)

-- a word as an access at an address sees it
unfoldable pub cut_of : ℕ → ℕ → ℕ → ℕ
cut_of word addr n = word / 2 ^ (8 * (addr % 4)) % span_of n

-- bits past the word are lost
unfoldable pub shifted : ℕ → ℕ → ℕ
shifted v addr = v * 2 ^ (8 * (addr % 4)) % 2 ^ 32

-- the bits of the word that an access reaches: all of them where the size is 4, even unaligned
unfoldable pub mask_of : ℕ → ℕ → ℕ
mask_of addr n = cond (eqb n 4) 0xFFFFFFFF (shifted (span_of n - 1) addr)

-- (val << sh) & mask
unfoldable pub written_of : ℕ → ℕ → ℕ → ℕ
written_of addr n v = bit_and (shifted v addr) (mask_of addr n)

-- (old & !mask) | ((val << sh) & mask)
unfoldable pub merged_of : ℕ → ℕ → ℕ → ℕ → ℕ
merged_of old addr n v = bit_or (bit_and old (0xFFFFFFFF - mask_of addr n)) (written_of addr n v)
