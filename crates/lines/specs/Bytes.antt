-- Bytes as a whole: how many of them are lent, and their digest.
use Rattle.std.specs.Prelude.{ℕ, zero, suc, ◌+◌, ◌*◌, ◌%◌, ◌^◌, cond, List, length, nat_lt, slice_index}

abbrev pub least_of : ℕ → ℕ → ℕ
least_of n most = cond (nat_lt n most) n most

-- the digest of the first k bytes
unfoldable pub digest_to : List ℕ → ℕ → ℕ
digest_to bytes zero = 0
digest_to bytes (suc k) = (digest_to bytes k * 31 + slice_index bytes k) % 2 ^ 64

abbrev pub digest_of : List ℕ → ℕ
digest_of bytes = digest_to bytes (length bytes)
