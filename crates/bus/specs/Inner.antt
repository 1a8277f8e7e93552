-- What contracts of inner functions speak of. No public contract and no theorem that docs/PROMISES.md cites does, so
-- a reader may pass it over.
use Rattle.std.specs.Prelude.{ℕ, ◌≡◌, false, cond, List, ◌≢◌, Float}
use Rattle.registers.specs.Words.{word_at}
use Rattle.state.specs.declared.Devices.{Devices}
use Rattle.state.specs.declared.Parts.{Parts}
use Rattle.state.specs.Bank.{panel_in, parts_in}
use Rattle.state.specs.Packed.{StaysPacked}
use Rattle.state.specs.Parts.{panel_put}
use Rattle.bus.specs.Answers.{WriteAnswer}
use Rattle.bus.specs.World.{Wrote, answer}
use Rattle.map.specs.Numbers.{DONE, BAD_SIZE}
use Rattle.registers.specs.declared.Registers.{Registers}
use Rattle.registers.specs.Ports.{day_word, field_of}
use Rattle.memory.specs.Bytes.{stored_at}
use Rattle.memory.specs.Access.{good_size}
use Rattle.state.specs.declared.Clocks.{Clocks}
use Rattle.bus.specs.Answers.{Got}
use Rattle.bus.specs.Write.{Stored, stored, stored_word}
use Rattle.bus.specs.Read.{day_read}
use Rattle.bus.specs.Words.{day_set}

-- ---- the bank

-- of the parts nothing but the devices differs
pub record Only (x y : Parts) : Type 0 where
  pub ring : y.ring ≡ x.ring
  pub keys : y.keys ≡ x.keys

-- from cells to later ones nothing but the panel differs; packed words stay packed. The floats are not lent.
pub record OnlyPanel (l l' : List ℕ) : Type 0 where
  pub parts : (f : List Float) → parts_in l' f ≡ panel_put (parts_in l f) (panel_in l')
  pub packed : (f : List Float) → StaysPacked l f l' f

-- what a write leaves of the bank beside the devices: ring and keys; packed words packed; and where it is refused it
-- makes no event and every word is as it was
pub record Rest (r : WriteAnswer) (l : List ℕ) (f : List Float) (l' : List ℕ) (f' : List Float) : Type 0 where
  pub only : Only (parts_in l f) (parts_in l' f')
  pub packed : StaysPacked l f l' f'
  pub still : r.refusal ≢ DONE → (r.event ≡ false) × (l' ≡ l) × (f' ≡ f)

-- ---- answers

-- an answer, with the devices that are then in the bank
abbrev pub wrote_of : WriteAnswer → Devices → Wrote
wrote_of r d = record { refusal = r.refusal; event = r.event; devices = d }

-- an answer without an event
abbrev pub without_event : ℕ → WriteAnswer
without_event n = record { refusal = n; event = false }

-- ---- a word that has no storage of its own

-- what it reads as
unfoldable pub other_value : Registers → Clocks → ℕ → ℕ
other_value r c word = cond (day_word word) (day_read c (field_of word)) (word_at r word)

-- what a write leaves: of a field of the time of day, or of one that is only stored
unfoldable pub other_written : Registers → Devices → ℕ → ℕ → Stored
other_written r d word new = cond (day_word word) (stored r (answer DONE (day_set d (field_of word) new)))
    (stored_word r d word new)

-- ---- an access to a memory

-- what it reads; 9 where its size is not 1, 2 or 4
abbrev pub sized_got : ℕ → ℕ → Got
sized_got n v = cond (good_size n) (record { refusal = DONE; value = v }) (record { refusal = BAD_SIZE; value = 0 })

-- what it leaves: as it was, where its size is not 1, 2 or 4
abbrev pub sized_put : List ℕ → ℕ → ℕ → ℕ → List ℕ
sized_put m o n v = cond (good_size n) (stored_at m o n v) m

-- and its number
abbrev pub sized_number : ℕ → ℕ
sized_number n = cond (good_size n) DONE BAD_SIZE
