-- Bytes of a session: numbers of some bytes, the lowest first, and rows one behind the other.
use Rattle.std.specs.Prelude.{ℕ, zero, suc, ◌+◌, ◌*◌, Bool, true, ◌&&◌, List, [], ◌++◌, get_or, take, drop}
use Rattle.memory.specs.Bytes.{bytes_of}

-- the number of the n bytes at a place; a byte past the end counts as 0
unfoldable pub number : List ℕ → ℕ → ℕ → ℕ
number s at zero = 0
number s at (suc n) = get_or s at 0 + 256 * number s (at + 1) n

-- how many numbers n bytes have
unfoldable pub span : ℕ → ℕ
span zero = 1
span (suc n) = 256 * span n

-- n bytes from a place on
abbrev pub part : List ℕ → ℕ → ℕ → List ℕ
part s at n = take n (drop at s)

-- the rows of each number below n
unfoldable pub rows_of : (ℕ → List ℕ) → ℕ → List ℕ
rows_of f zero = []
rows_of f (suc n) = rows_of f n ++ f n

-- f holds of each number below n
unfoldable pub all_below : (ℕ → Bool) → ℕ → Bool
all_below f zero = true
all_below f (suc n) = f n && all_below f n

-- a section: its count, and what is behind it
abbrev pub counted : ℕ → List ℕ → List ℕ
counted n bytes = bytes_of 4 n ++ bytes
