use Rattle.std.proofs.Common.{◌∙◌, arith, get_or}
use Rattle.std.specs.Float.Ieee.{le}
use lib.Ieee.{nan}
use Rattle.session.specs.Good.{in_order}
use Rattle.resuming.proofs.Alls.{all_two, all_six}
use Rattle.resuming.proofs.judge.in_order.Goals as goal

pub returns : goal.returns
unfolding in_order
returns c =
    let f = c.args.f.now in
    rw (
      c.none_after.ensures ∙ all_six (λ t. le t (get_or f 0 nan)) f 3 (omega (arith, c.told-f)),
      c.none_after-2.ensures ∙ all_two (λ t. le t (get_or f 1 nan)) f 9 (omega (arith, c.told-f)),
    )
