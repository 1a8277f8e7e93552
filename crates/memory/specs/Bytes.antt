-- The bytes of a memory as numbers, little-endian, of any count.
use Rattle.std.specs.Prelude.{ℕ, zero, suc, ◌+◌, ◌*◌, ◌/◌, ◌%◌, ◌^◌, cond, List, [], ◌∷◌, length, get_or, leb}
use Rattle.std.proofs.lemmas.List.Edits.{sets}

-- the number of the n bytes at o, the lowest first; of more than four, the lowest four count
unfoldable pub le : List ℕ → ℕ → ℕ → ℕ
le m o zero = 0
le m o (suc n) = (get_or m o 0 + 256 * le m (o + 1) n) % 2 ^ 32

-- an access that passes the end reads 0
unfoldable pub loaded : List ℕ → ℕ → ℕ → ℕ
loaded m o n = cond (leb (o + n) (length m)) (le m o n) 0

-- the n lowest bytes of a value, the lowest first
unfoldable pub bytes_of : ℕ → ℕ → List ℕ
bytes_of zero v = []
bytes_of (suc n) v = v % 256 ∷ bytes_of n (v / 256)

-- an access that passes the end stores nothing
unfoldable pub stored_at : List ℕ → ℕ → ℕ → ℕ → List ℕ
stored_at m o n v = cond (leb (o + n) (length m)) (sets m o (bytes_of n v)) m
