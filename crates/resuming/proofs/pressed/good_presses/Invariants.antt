use Rattle.std.proofs.Common.{◌+◌, ◌*◌, ◌≡◌, true}
use Rattle.session.specs.Fields.{number, all_below}
use Rattle.session.specs.Read.{float_at}
use Rattle.session.specs.Good.{good_press}
use Rattle.resuming.proofs.pressed.good_presses.Given as goal

abbrev pub invariant-loop-i : goal.invariant-loop-i
invariant-loop-i l =
    all_below (λ j. good_press (number l.s (l.from + 9 * j) 1) (float_at l.s (l.from + 9 * j + 1)) l.time) l.i ≡ true
