-- The judged examples of the flash: what is sent, and what is answered.
use Rattle.std.specs.Prelude.{ℕ, true, List, [], ◌∷◌}
use Rattle.whole.specs.Table.{Example}
use Rattle.flash.specs.Board.{Board, board}
use Rattle.flash.specs.Flash.{made_in}
use Rattle.flash.specs.Steps.{Step, cs, sends}
use Rattle.flash.specs.Run.{answers}
use Rattle.flash.specs.declared.Mode.TheVariants.{Rust}

-- a chip as it is made where no mode is named, over an array
abbrev pub made : List ℕ → Board
made m = board (made_in Rust).chip (made_in Rust).page m

abbrev pub steps : List ℕ → List Step
steps sent = cs true ∷ sends sent

-- 0x9F and four more; 0x90 00 00 00 and three more
abbrev pub identity : List ℕ
identity = 0x9F ∷ 0 ∷ 0 ∷ 0 ∷ 0 ∷ []

abbrev pub maker : List ℕ
maker = 0x90 ∷ 0 ∷ 0 ∷ 0 ∷ 0 ∷ 0 ∷ 0 ∷ []

-- over this array
abbrev pub table : List ℕ → List Example
table m =
    record { given = answers (made m) (steps identity); expected = 0xFF ∷ 0xEF ∷ 0x40 ∷ 0x17 ∷ 0xFF ∷ [] }
    ∷ record { given = answers (made m) (steps maker); expected = 0xFF ∷ 0xFF ∷ 0xFF ∷ 0xFF ∷ 0xEF ∷ 0x16 ∷ 0xEF ∷ [] }
    ∷ []
