-- What a session prints, line by line, in the words of the rule. `by_lines` of proofs/ByLines.antt: the machine prints
-- the same.
use Rattle.std.specs.Prelude.{ℕ, ◌+◌, true, false, List, [], ◌∷◌, ◌++◌, ◌==◌}
use Rattle.flash.specs.Pick.{pick}
use Rattle.flash.specs.Board.{Board}
use Rattle.flash.specs.Flash.{selected, transferred}
use Rattle.steps.specs.Rule.{step_of}
use Rattle.steps.specs.Text.{hex_line, bad_line, last_line}
use Rattle.steps.specs.declared.Step.{Step}
use Rattle.steps.specs.declared.Step.TheVariants.{Select, Deselect, Byte, Other}

-- a line that the end of the input ends: none, where nothing of it is there
abbrev pub line_left : List ℕ → List (List ℕ)
line_left [] = []
line_left (a ∷ line) = (a ∷ line) ∷ []

-- the lines of an input, with what stands before it on its first line
unfoldable pub lines_from : List ℕ → List ℕ → List (List ℕ)
lines_from line [] = line_left line
lines_from line (c ∷ cs) = pick (c == 10) (line ∷ lines_from [] cs) (lines_from (line ++ (c ∷ [])) cs)

-- the lines of an input, without their newlines; the last newline may be missing
abbrev pub lines : List ℕ → List (List ℕ)
lines input = lines_from [] input

-- what a line prints, and after it the rest of the session from the later board; a bad line is the last
abbrev pub and_then : Step → Board → ℕ → (Board → List ℕ) → List ℕ
and_then Select b number rest = rest (selected b true).board
and_then Deselect b number rest = rest (selected b false).board
and_then (Byte x) b number rest = hex_line (transferred b x).answer ++ rest (transferred b x).board
and_then Other b number rest = bad_line number

-- what lines print from the one of that number on
unfoldable pub prints : Board → ℕ → List (List ℕ) → List ℕ
prints b number [] = last_line b.chip.wel b.chip.writes b.array
prints b number (line ∷ rest) = and_then (step_of line) b number (λ (next : Board). prints next (number + 1) rest)
