-- The screen as 8-bit colours, as document 000 has it (rgb).
use Rattle.std.specs.Prelude.{ℕ, ◌+◌, ◌*◌, ◌/◌, ◌%◌, ◌^◌, List, [], ◌∷◌, bit_and, slice_index}
use Rattle.map.specs.Numbers.{PIXELS}
use Rattle.panel.specs.declared.Colours.{Colours}

-- (v >> 11 & 0x1F) * 255 / 31, (v >> 5 & 0x3F) * 255 / 63, (v & 0x1F) * 255 / 31
unfoldable pub parted : ℕ → Colours
parted v =
    record {
      r = bit_and (v / 2 ^ 11) 0x1F * 255 / 31;
      g = bit_and (v / 2 ^ 5) 0x3F * 255 / 63;
      b = bit_and v 0x1F * 255 / 31;
    }

-- u16::from_le_bytes
abbrev pub from_le : ℕ → ℕ → ℕ
from_le lo hi = hi * 256 + lo

abbrev pub pushed : Colours → List ℕ → List ℕ
pushed c rest = c.r ∷ c.g ∷ c.b ∷ rest

-- three bytes for each two; a byte that is left over is no pixel
unfoldable pub rgb_of : List ℕ → List ℕ
rgb_of [] = []
rgb_of (lo ∷ []) = []
rgb_of (lo ∷ hi ∷ rest) = pushed (parted (from_le lo hi)) (rgb_of rest)

-- pixel n
abbrev pub colours_at : List ℕ → ℕ → Colours
colours_at fb n = parted (from_le (slice_index fb (n * 2)) (slice_index fb (n * 2 + 1)))

-- pixel k modulo 16,384
abbrev pub pixel_at : List ℕ → ℕ → Colours
pixel_at fb k = colours_at fb (k % PIXELS)

-- the three bytes from place i on
abbrev pub triple_at : List ℕ → ℕ → Colours
triple_at out i = record { r = slice_index out i; g = slice_index out (i + 1); b = slice_index out (i + 2) }

-- a list laid over another, as far as that reaches
unfoldable pub over : List ℕ → List ℕ → List ℕ
over [] out = out
over (x ∷ xs) [] = []
over (x ∷ xs) (o ∷ out) = x ∷ over xs out
