-- After i turns the first i records are the i oldest events.
use Rattle.std.proofs.Common.{◌≡◌, length}
use Rattle.timer.specs.Events.{queue_of, fit_of}
use Rattle.timer.proofs.Laid.{over}
use Rattle.timer.proofs.events.lay_into.Given as goal

abbrev pub invariant-loop-i : goal.invariant-loop-i
invariant-loop-i l = record {
  counted : l.count ≡ fit_of l.ring.count (length l.initial.records);
  laid : l.records ≡ over (queue_of l.onsets l.frequencies l.duties l.ring) l.initial.records l.i;
}
