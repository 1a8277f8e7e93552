-- What the registers hold, and what a word put there changes.
use Rattle.std.specs.Prelude.{ℕ, zero, suc, ◌+◌, ◌-◌, ◌/◌, ◌^◌, Bool, cond, ◌||◌, List, [], ◌∷◌, ◌++◌, get_or, set}
use Rattle.std.specs.Prelude.{take, drop, replicate, eqb, ltb}
use Rattle.map.specs.Numbers.{DONE, REGISTERS_FULL}
use Rattle.registers.specs.declared.Registers.{Registers}
use Rattle.registers.specs.declared.Spot.{Spot}
use Rattle.registers.specs.declared.Spot.TheVariants.{Own, Never, Present, Absent}
use Rattle.registers.specs.Ports.{slot_of, day_word}

-- ---- words with storage of their own

-- a word in its own storage, which has 76 words; where it has none it reads as 0, and nothing is stored
unfoldable pub own_at : List ℕ → ℕ → ℕ
own_at slots a = get_or slots (slot_of a) 0

unfoldable pub own_with : List ℕ → ℕ → ℕ → List ℕ
own_with slots a v = set slots (slot_of a) v

-- ---- the others

-- never stored: the time of day; and 0, the address of a free place, where no register stands
unfoldable pub unstored : ℕ → Bool
unstored a = eqb a 0 || day_word a

-- one halving of a search: past the next half of the places, where the last of them holds more than the key
unfoldable pub halved : List ℕ → ℕ → ℕ → ℕ → ℕ
halved l k i half = cond (ltb k (get_or l (i + half - 1) 0)) (i + half) i

-- n halvings, from place i on
unfoldable pub halving : ℕ → List ℕ → ℕ → ℕ → ℕ
halving zero l k i = i
halving (suc n) l k i = halving n l k (halved l k i (2 ^ n))

-- how many places hold more than the key, where they are in falling order; 255 where all of them do
unfoldable pub place : List ℕ → ℕ → ℕ
place l k = halving 8 l k 0

-- 256 places for words that are not zero
pub record Others : Type 0 where
  pub addresses : List ℕ
  pub values : List ℕ

abbrev pub others : List ℕ → List ℕ → Others
others addresses values = record { addresses = addresses; values = values }

-- the places behind place i move up, and a zero comes last
unfoldable pub removed : List ℕ → ℕ → List ℕ
removed [] i = []
removed (x ∷ xs) zero = xs ++ (0 ∷ [])
removed (x ∷ xs) (suc i) = x ∷ removed xs i

-- the places from place i on move down, the last falls out, and a word comes in
unfoldable pub inserted : List ℕ → ℕ → ℕ → List ℕ
inserted [] i y = []
inserted (x ∷ xs) zero y = y ∷ inserted xs zero x
inserted (x ∷ xs) (suc i) y = x ∷ inserted xs i y

-- the same among places 0 to n, and the others as they are
unfoldable pub removed_to : ℕ → List ℕ → ℕ → List ℕ
removed_to n l i = removed (take (n + 1) l) i ++ drop (n + 1) l

unfoldable pub inserted_to : ℕ → List ℕ → ℕ → ℕ → List ℕ
inserted_to n l i y = inserted (take (n + 1) l) i y ++ drop (n + 1) l

-- how far apart the places are that are asked for the end of what is moved, and how often that is in the table
abbrev pub stride : ℕ
stride = 16

abbrev pub strides : ℕ
strides = 256 / stride

-- the last place that need be moved: of those a stride apart from place i on, of which n are looked at, the first that
-- is free; where none is before the last stride, the last of all. The free places come last, so all behind it are free.
unfoldable pub end_from : ℕ → List ℕ → ℕ → ℕ
end_from zero l i = 255
end_from (suc n) l i = cond (ltb i (256 - stride)) (cond (eqb (get_or l i 0) 0) i (end_from n l (i + stride))) 255

unfoldable pub end_of : Others → ℕ → ℕ
end_of o i = end_from strides o.addresses i

-- a word that stands in place i becomes v; with zero it gives the place back
unfoldable pub put_present : Others → ℕ → ℕ → Others
put_present o i v =
    cond (eqb v 0)
    (others (removed_to (end_of o i) o.addresses i) (removed_to (end_of o i) o.values i))
    (others o.addresses (set o.values i v))

pub record OtherOutcome : Type 0 where
  pub refusal : ℕ
  pub others : Others

abbrev pub other_outcome : ℕ → Others → OtherOutcome
other_outcome n o = record { refusal = n; others = o }

-- a word that stands nowhere becomes v, and takes place i; while the last place is not free there is no room
unfoldable pub put_absent : Others → ℕ → ℕ → ℕ → OtherOutcome
put_absent o i a v =
    cond (eqb v 0) (other_outcome DONE o)
    (cond (eqb (get_or o.values 255 0) 0)
    (other_outcome DONE (others (inserted_to (end_of o i) o.addresses i a) (inserted_to (end_of o i) o.values i v)))
    (other_outcome REGISTERS_FULL o))

-- ---- all words

abbrev pub registers_of : List ℕ → List ℕ → List ℕ → Registers
registers_of slots addresses values = record { slots = slots; addresses = addresses; values = values }

abbrev pub others_of : Registers → Others
others_of r = others r.addresses r.values

unfoldable pub fresh_registers : Registers
fresh_registers = registers_of (replicate 76 0) (replicate 256 0) (replicate 256 0)

-- where a word is that has no storage of its own
unfoldable pub other_spot : List ℕ → ℕ → Spot
other_spot addresses a =
    cond (unstored a) Never
    (cond (eqb (get_or addresses (place addresses a) 0) a) (Present (place addresses a)) (Absent (place addresses a)))

-- where a word is
unfoldable pub spot_of : List ℕ → ℕ → Spot
spot_of addresses a = cond (ltb (slot_of a) 76) (Own (slot_of a)) (other_spot addresses a)

abbrev pub word_in : List ℕ → List ℕ → Spot → ℕ
word_in slots values (Own s) = get_or slots s 0
word_in slots values Never = 0
word_in slots values (Present i) = get_or values i 0
word_in slots values (Absent i) = 0

unfoldable pub word_at : Registers → ℕ → ℕ
word_at r a = word_in r.slots r.values (spot_of r.addresses a)

pub record Outcome : Type 0 where
  pub refusal : ℕ
  pub registers : Registers

abbrev pub outcome : ℕ → Registers → Outcome
outcome n s = record { refusal = n; registers = s }

-- what a put of another word leaves, beside the own words
abbrev pub beside : List ℕ → OtherOutcome → Outcome
beside slots o = record {
  refusal = o.refusal;
  registers = registers_of slots o.others.addresses o.others.values;
}

abbrev pub put_in : Registers → Spot → ℕ → ℕ → Outcome
put_in r (Own s) a v = outcome DONE (registers_of (set r.slots s v) r.addresses r.values)
put_in r Never a v = outcome DONE r
put_in r (Present i) a v = beside r.slots (other_outcome DONE (put_present (others_of r) i v))
put_in r (Absent i) a v = beside r.slots (put_absent (others_of r) i a v)

unfoldable pub put_word : Registers → ℕ → ℕ → Outcome
put_word r a v = put_in r (spot_of r.addresses a) a v
