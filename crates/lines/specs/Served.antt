-- What a list did: which lines were read, and what the machine made of their steps.
use Rattle.std.specs.Prelude.{◌≡◌, ℕ, ◌⊎◌, Option, Some, None, List, length}
use Rattle.std.specs.List.{FoldsTo}
use Rattle.std.specs.Io.KnownBytes.{Consumes}
use Rattle.lines.specs.declared.Step.{Step}
use Rattle.lines.specs.declared.Answer.{Answer}
use Rattle.lines.specs.Line.{step_of}

-- a step that was read: what 29 bytes say, the next that the reader had where its bytes are known
pub record Taken (before after : Option (List ℕ)) (s : Step) : Type 0 where
  pub line : List ℕ
  pub whole : length line ≡ 29
  pub says : s ≡ step_of line
  pub taken : Consumes before after line

-- what a step of a machine may answer, and the machine after it
abbrev pub Steps : Type 0 → Type 1
Steps M = M → Step → Option Answer → M → Type 0

-- steps were read one after the other, and each was answered
pub record Turned {M : Type 0} (steps : Steps M) (m n : M) (input left : Option (List ℕ)) : Type 0 where
  pub asked : List Step
  pub read : FoldsTo (λ p s q. Taken p q s) input asked left
  pub answered : FoldsTo (λ p s q. (a : Answer) × steps p s (Some a) q) m asked n

-- a last step that was not answered, or none
abbrev pub Ended : {M : Type 0} → Steps M → M → M → Option (List ℕ) → Type 0
Ended steps n last left =
    (n ≡ last) ⊎ ((s : Step) × (rest : Option (List ℕ)) × Taken left rest s × steps n s None last)

pub record Served {M : Type 0} (steps : Steps M) (m last : M) (input : Option (List ℕ)) : Type 0 where
  pub before : M
  pub left : Option (List ℕ)
  pub turned : Turned steps m before input left
  pub ended : Ended steps before last left
