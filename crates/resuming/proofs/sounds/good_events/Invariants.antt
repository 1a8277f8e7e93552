use Rattle.std.proofs.Common.{◌+◌, ◌*◌, ◌≡◌, true}
use Rattle.session.specs.Fields.{all_below}
use Rattle.session.specs.Read.{float_at}
use Rattle.session.specs.Good.{good_event}
use Rattle.resuming.proofs.sounds.good_events.Given as goal

abbrev pub invariant-loop-i : goal.invariant-loop-i
invariant-loop-i l =
    all_below (λ j. good_event (float_at l.s (l.from + 24 * j)) (float_at l.s (l.from + 24 * j + 8))
    (float_at l.s (l.from + 24 * j + 16))) l.i ≡ true
