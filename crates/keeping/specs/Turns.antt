-- Live calls with resumes among them. A resume puts any session in, whenever it was saved: so now may go back.
use Rattle.std.specs.Prelude.{ℕ, List, [], ◌∷◌}
use Rattle.system.specs.System.{Machine}
use Rattle.live.specs.Sequence.{Call, left_by}
use Rattle.session.specs.Session.{resume_of}
use Rattle.keeping.specs.Typed.{Below}

pub data Turn : Type 0 where
  calls : Call → Turn
  resumes : List ℕ → Turn

unfoldable pub left_by_turn : Machine → Turn → Machine
left_by_turn m (calls c) = left_by m c
left_by_turn m (resumes s) = (resume_of m s).machine

unfoldable pub left_by_turns : Machine → List Turn → Machine
left_by_turns m [] = m
left_by_turns m (t ∷ ts) = left_by_turns (left_by_turn m t) ts

-- what is resumed, good or not, are bytes
abbrev pub ByteTurns : List Turn → Type 0
ByteTurns [] = Unit {0}
ByteTurns (calls c ∷ ts) = ByteTurns ts
ByteTurns (resumes s ∷ ts) = Below 256 s × ByteTurns ts
