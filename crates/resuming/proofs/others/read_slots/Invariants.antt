use Rattle.std.proofs.Common.{◌+◌, ◌*◌}
use Rattle.resuming.proofs.Tables.{Filled}
use Rattle.session.specs.Fields.{number}
use Rattle.resuming.proofs.others.read_slots.Given as goal

abbrev pub invariant-loop-i : goal.invariant-loop-i
invariant-loop-i l = Filled (λ j. number l.s (62 + 4 * j) 4) l.slots l.initial.slots l.i
