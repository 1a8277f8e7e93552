-- A turn more of a list that is answered.
use Rattle.std.proofs.Common.{ℕ, Option, Some, List, [], ◌∷◌, ◌++◌}
use Rattle.std.proofs.lemmas.Fn.{FoldsTo-push}
use Rattle.lines.specs.declared.Step.{Step}
use Rattle.lines.specs.declared.Answer.{Answer}
use Rattle.lines.specs.Served.{Steps, Taken, Turned}

pub turned_more : {M : Type 0} (steps : Steps M) (m n q : M) (input left rest : Option (List ℕ)) (s : Step)
    (a : Answer) → Turned steps m n input left → Taken left rest s → steps n s (Some a) q → Turned steps m q input rest
turned_more steps m n q input left rest s a t k e = record {
  asked = t.asked ++ (s ∷ []);
  read = FoldsTo-push _ _ _ _ _ _ t.read k;
  answered = FoldsTo-push _ _ _ _ _ _ t.answered (a, e);
}
