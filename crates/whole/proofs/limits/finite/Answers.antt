use Rattle.std.proofs.Common.{◌∙◌}
use Rattle.whole.proofs.Finite.{finite_is}
use Rattle.whole.proofs.limits.finite.Goals as goal

pub returns : goal.returns
returns c = c.is_finite.ensures.value ∙ finite_is _
