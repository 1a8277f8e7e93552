use Rattle.std.proofs.Common.{ap, ◌∙◌, from_bits}
use Rattle.std.specs.Float.{binary64}
use Rattle.whole.specs.Limits.{good_time}
use Rattle.whole.proofs.Bits.{bits_back}
use Rattle.whole.proofs.limits.good_time.Goals as goal

pub returns : goal.returns
returns c =
    let back = ap (from_bits binary64) c.f64_to_bits_with_nan.ensures ∙ bits_back c.args.x c.well_formed.0.1 in
    c.time_bits.ensures ∙ ap good_time back
