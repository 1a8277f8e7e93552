-- After i turns the places of the i oldest events are zero.
use Rattle.std.proofs.Common.{◌≡◌}
use Rattle.timer.specs.Events.{cleared}
use Rattle.timer.proofs.events.drop_from.Given as goal

abbrev pub invariant-loop-i : goal.invariant-loop-i
invariant-loop-i l =
    (l.onsets ≡ cleared l.ring l.i l.initial.onsets) ×
    (l.frequencies ≡ cleared l.ring l.i l.initial.frequencies) ×
    (l.duties ≡ cleared l.ring l.i l.initial.duties)
