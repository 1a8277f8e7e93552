use Rattle.std.proofs.Common.{◌∙◌}
use Rattle.whole.proofs.Finite.{bits_are}
use Rattle.whole.proofs.forms.bits_of.Goals as goal

pub returns : goal.returns
returns c = c.f64_to_bits_with_nan.ensures ∙ bits_are _
