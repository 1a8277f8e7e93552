-- What meets a contract that is an equation is the only thing that does.
use mathlib.Core.Path.{◌≡◌, refl, ap}
use Rattle.std.specs.Prelude.{Result}
use Rattle.map.specs.declared.refusals.Refusal.{Refusal}
use Rattle.map.specs.Refusals.{number_of}
use Rattle.whole.proofs.Unique.{unique}
use Rattle.whole.proofs.Answered.{answer_tells}
use Rattle.registers.specs.Words.{Others, OtherOutcome, other_outcome}

-- of a put to a word that stands there are one later pair of lists
pub one_present : (d : Others) (p q : Others) → p ≡ d → q ≡ d → (p.addresses ≡ q.addresses) × (p.values ≡ q.values)
one_present d p q h k =
    let e : p ≡ q = unique h k in
    (ap (λ (o : Others). o.addresses) e, ap (λ (o : Others). o.values) e)

-- and of one to a word that does not, one refusal too
pub one_absent : (d : OtherOutcome) (a b : Result Unit Refusal) (p q : Others)
    → other_outcome (number_of a) p ≡ d → other_outcome (number_of b) q ≡ d
    → (a ≡ b) × (p ≡ q)
one_absent d a b p q h k =
    let e : other_outcome (number_of a) p ≡ other_outcome (number_of b) q = unique h k in
    (answer_tells tt a b (ap (λ (o : OtherOutcome). o.refusal) e) refl, ap (λ (o : OtherOutcome). o.others) e)
