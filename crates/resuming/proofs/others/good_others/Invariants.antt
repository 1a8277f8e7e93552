use Rattle.std.proofs.Common.{◌+◌, ◌*◌, ◌≡◌, true}
use Rattle.session.specs.Fields.{number, all_below}
use Rattle.session.specs.Good.{good_other, last_at}
use Rattle.resuming.proofs.others.good_others.Given as goal

abbrev pub invariant-loop-i : goal.invariant-loop-i
invariant-loop-i l =
    all_below (λ j. good_other (last_at l.s j) (number l.s (366 + 8 * j) 4) (number l.s (366 + 8 * j + 4) 4)) l.i ≡
    true
