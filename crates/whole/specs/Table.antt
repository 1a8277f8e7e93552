-- A table of judged examples: what the definitions give beside what the paper says, under one claim.
use Rattle.std.specs.Prelude.{◌≡◌, ℕ, List, [], ◌∷◌}

-- numbers in the paper's order: often one, of a chip's answers several
pub record Example : Type 0 where
  pub given : List ℕ
  pub expected : List ℕ

-- the claim, of each example in turn
abbrev pub Holds : Example → Type 0
Holds e = e.given ≡ e.expected

abbrev pub All : List Example → Type 0
All [] = Unit {0}
All (e ∷ es) = Holds e × All es
