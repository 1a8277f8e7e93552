-- Tests of a word's bits by a mask, in the Rust's words.
use Rattle.std.specs.Prelude.{ℕ, Bool, not, ◌==◌, bit_and}

-- `w & mask == 0`
abbrev pub lacks : ℕ → ℕ → Bool
lacks w mask = bit_and w mask == 0

-- `w & mask != 0`
abbrev pub has : ℕ → ℕ → Bool
has w mask = not (lacks w mask)
