-- What contracts of inner functions speak of. No public contract and no theorem that docs/PROMISES.md cites does, so
-- a reader may pass it over.
use Rattle.std.specs.Prelude.{ℕ}
use Rattle.map.specs.Numbers.{DONE, BAD_MEMORY}
use Rattle.flash.specs.declared.Chip.{Chip}
use Rattle.flash.specs.Board.{Reply}

-- what a step answers with
abbrev pub refusing : Chip → Reply
refusing s = record { refusal = BAD_MEMORY; answer = 0; chip = s }

abbrev pub giving : ℕ → Chip → Reply
giving a s = record { refusal = DONE; answer = a; chip = s }
