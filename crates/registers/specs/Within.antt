-- What holds of the registers within the limits, and when they are full. Every `put_word` keeps `Tidy`.
use Rattle.std.specs.Prelude.{ℕ, ◌+◌, ◌<◌, ◌≡◌, cond, false, List, [], ◌∷◌, ◌≢◌, length, get_or, eqb}
use Rattle.registers.specs.declared.Registers.{Registers}
use Rattle.registers.specs.Words.{unstored, Others, others_of, word_at}
use Rattle.registers.specs.Ports.{slot_of}

-- a word that takes one of the 256 places while it is not zero
pub record Other (a : ℕ) : Type 0 where
  pub slot : slot_of a ≡ 76
  pub stored : unstored a ≡ false

pub record TidyOthers (o : Others) : Type 0 where
  pub addresses : length o.addresses ≡ 256
  pub values : length o.values ≡ 256
  -- a free place holds zeros
  pub free : (i : ℕ) → get_or o.values i 0 ≡ 0 → get_or o.addresses i 0 ≡ 0
  -- any other holds a word that belongs there
  pub belongs : (i : ℕ) → get_or o.values i 0 ≢ 0 → Other (get_or o.addresses i 0)
  -- of a lower address than any before it: so no two hold the same word, and the free places come last
  pub falls : (i j : ℕ) → i < j → get_or o.values j 0 ≢ 0 → get_or o.addresses j 0 < get_or o.addresses i 0

pub record Tidy (r : Registers) : Type 0 where
  pub slots : length r.slots ≡ 76
  pub others : TidyOthers (others_of r)

-- what holds of the address of each word that takes a place
abbrev pub EachOther : (ℕ → Type 0) → Others → Type 0
EachOther P o = (i : ℕ) → get_or o.values i 0 ≢ 0 → P (get_or o.addresses i 0)

-- 1 for a word that is not zero
unfoldable pub count_of : ℕ → ℕ
count_of v = cond (eqb v 0) 0 1

-- how many words are not zero
unfoldable pub non_zero : List ℕ → ℕ
non_zero [] = 0
non_zero (x ∷ xs) = count_of x + non_zero xs

-- RegistersFull: the new value is not zero, the word holds zero, it has no storage of its own, and 256 others are
-- non-zero. A word that is never stored needs no room.
pub record Full (r : Registers) (a v : ℕ) : Type 0 where
  pub value : v ≢ 0
  pub word : word_at r a ≡ 0
  pub other : Other a
  pub most : non_zero r.values ≡ 256
