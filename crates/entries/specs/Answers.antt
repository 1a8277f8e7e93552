-- What an entry answers, and where it stands in the output: a refusal u8 and three u64.
use Rattle.std.specs.Prelude.{ℕ, ◌+◌, ◌/◌, ◌%◌, ◌^◌, Bool, cond, ◌||◌, List, [], ◌∷◌, eqb, leb, length}
use Rattle.map.specs.Numbers.{ANSWER_BYTES, NEXT, SOUND}
use Rattle.whole.specs.Forms.{bits_of}
use Rattle.memory.specs.Bytes.{stored_at}
use Rattle.system.specs.Steps.{Outcome}
use Rattle.entries.specs.declared.Answer.{Answer}

abbrev pub reply : ℕ → ℕ → ℕ → ℕ → Answer
reply n a b c = record { refusal = n; a = a; b = b; c = c }

-- NEXT answers a time, SOUND time, frequency and duty of a sound event: their bits. The others answer whole numbers
unfoldable pub in_bits : ℕ → Bool
in_bits kind = eqb kind NEXT || eqb kind SOUND

unfoldable pub reply_of : Bool → Outcome → Answer
reply_of bits o =
    cond bits (reply o.refusal (bits_of o.x) (bits_of o.y) (bits_of o.z))
    (reply o.refusal o.a o.b o.c)

-- ---- in the output

abbrev pub answer_bytes : ℕ
answer_bytes = ANSWER_BYTES

-- eight bytes, the lowest first
unfoldable pub stored_wide : List ℕ → ℕ → ℕ → List ℕ
stored_wide l at v = stored_at (stored_at l at 4 (v % 2 ^ 32)) (at + 4) 4 (v / 2 ^ 32)

-- from a place on
unfoldable pub answer_laid : List ℕ → ℕ → Answer → List ℕ
answer_laid l at x =
    stored_wide
    (stored_wide (stored_wide (stored_at l at 1 x.refusal) (at + 1) x.a) (at + 9) x.b)
    (at + 17)
    x.c

-- the same where there is room for all of it; else nothing
unfoldable pub laid_within : List ℕ → ℕ → Answer → List ℕ
laid_within l at x = cond (leb (at + answer_bytes) (length l)) (answer_laid l at x) l

-- one behind the other
unfoldable pub laid_all : List ℕ → ℕ → List Answer → List ℕ
laid_all l at [] = l
laid_all l at (x ∷ xs) = laid_all (answer_laid l at x) (at + answer_bytes) xs
