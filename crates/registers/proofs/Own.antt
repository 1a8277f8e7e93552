-- The words with storage of their own.
use Prim.Native.Nat.{ℕ, ◌<◌, ◌≤◌}
use mathlib.Core.Path.{◌≡◌, refl, sym, ap, ◌∙◌}
use mathlib.Core.List.{List}
use mathlib.Core.Logic.{◌≢◌}
use native.Mathlib.Omega.{arith}
use lib.ListN.{length, get_or, length-set}
use lib.Seq.{get_or-set_same, get_or-set_other}
use Rattle.map.specs.Numbers.{DONE}
use Rattle.registers.specs.declared.Registers.{Registers}
use Rattle.registers.specs.Words.{own_at, own_with}
use Rattle.registers.specs.Ports.{words_from, named_rows, own_words, slot_of}
use Rattle.registers.specs.Words.{registers_of, word_at, outcome, put_word}
use Rattle.registers.proofs.Cases.{spot_own}
use Rattle.whole.proofs.Choice.{by_less}
use Rattle.registers.proofs.Search.{index_most, index_hit}

-- ---- slots

own_count : length own_words ≡ 76
unfolding own_words words_from named_rows
own_count = refl

pub slot_most : (a : ℕ) → slot_of a ≤ 76
unfolding slot_of
slot_most a = omega (arith, own_count, index_most own_words a)

pub by_slot : {A : Type 0} (a : ℕ) → (slot_of a < 76 → A) → (slot_of a ≡ 76 → A) → A
by_slot a own other = by_less (slot_of a) 76 own (λ out. other (omega (arith, slot_most a)))

-- the word of a slot
pub slot_hit : (a : ℕ) → slot_of a < 76 → get_or own_words (slot_of a) 0 ≡ a
unfolding slot_of
slot_hit a less = index_hit own_words a (omega (arith, own_count))

-- no two words share a slot
pub slot_apart : (a b : ℕ) → slot_of a < 76 → b ≢ a → slot_of b ≢ slot_of a
slot_apart a b less other same =
    let less_b : slot_of b < 76 = omega arith in
    other (sym (slot_hit b less_b) ∙ ap (λ (i : ℕ). get_or own_words i 0) same ∙ slot_hit a less)

-- ---- what is stored is read back, and the other slots stay

pub own_length : (slots : List ℕ) (a v : ℕ) → length (own_with slots a v) ≡ length slots
unfolding own_with
own_length slots a v = length-set slots (slot_of a) v

pub own_own : (slots : List ℕ) (a v : ℕ) → length slots ≡ 76 → slot_of a < 76 → own_at (own_with slots a v) a ≡ v
unfolding own_at own_with
own_own slots a v size less = get_or-set_same slots (slot_of a) v 0 (omega arith)

pub own_stays : (slots : List ℕ) (a b v : ℕ) → slot_of b ≢ slot_of a → own_at (own_with slots a v) b ≡ own_at slots b
unfolding own_at own_with
own_stays slots a b v apart = get_or-set_other slots (slot_of a) (slot_of b) v 0 apart

-- ---- among all words

module _ (r : Registers) (a : ℕ) where
  pub own_word : slot_of a < 76 → word_at r a ≡ own_at r.slots a
  unfolding word_at own_at
  own_word less = rw (← spot_own r.addresses a (slot_of a) refl less)

  pub own_put : (v : ℕ) → slot_of a < 76
      → put_word r a v ≡ outcome DONE (registers_of (own_with r.slots a v) r.addresses r.values)
  unfolding put_word own_with
  own_put v less = rw (← spot_own r.addresses a (slot_of a) refl less)
