use Rattle.std.proofs.Common.{◌≡◌, false}
use Rattle.keys.proofs.Cases.{Up}
use Rattle.keys.proofs.down.any_down.Given as goal

abbrev pub invariant-loop-t : goal.invariant-loop-t
invariant-loop-t l = l.on ≡ false → Up l.starts l.time l.from l.t-index
