-- The judged examples of registers: what a write on the bus leaves in the word that it writes to.
use Rattle.std.specs.Prelude.{ℕ, List, [], ◌∷◌}
use Rattle.whole.specs.Table.{Example}
use Rattle.map.specs.Numbers.{LCD_STATUS}
use Rattle.registers.specs.Words.{own_with, word_at}
use Rattle.bus.specs.Write.{word_address}
use Rattle.system.specs.System.{Machine, machine, with_slots, fresh_system}
use Rattle.system.specs.Steps.{step, write}

-- no memory is written in these examples, so none is lent
abbrev pub fresh : Machine
fresh = machine fresh_system [] [] [] []

-- and with a word that holds something
abbrev pub holding : ℕ → ℕ → Machine
holding word v = machine (with_slots fresh_system (own_with fresh_system.registers.slots word v)) [] [] [] []

-- the word that an address lies in, once v is written there
abbrev pub written : Machine → ℕ → ℕ → ℕ → ℕ
written m a n v = word_at (step m (write a n v)).machine.system.registers (word_address a)

abbrev pub table : List Example
table =
    record { given = written (holding LCD_STATUS 0x2040) LCD_STATUS 1 0x40 ∷ []; expected = 0 ∷ [] }
    ∷ record { given = written (holding LCD_STATUS 0x2040) LCD_STATUS 4 0x40 ∷ []; expected = 0x2000 ∷ [] }
    ∷ record { given = written fresh 0xC0100002 4 0x11223344 ∷ []; expected = 0x33440000 ∷ [] }
    ∷ record { given = written fresh 0xC0100003 2 0xBEEF ∷ []; expected = 0xEF000000 ∷ [] }
    ∷ []
