-- The first k bytes are ANDed and the rest as they were.
use Rattle.std.proofs.Common.{◌≡◌, ◌++◌, take, drop}
use Rattle.flash.specs.Finish.{ands}
use Rattle.flash.proofs.array.program.Given as goal

abbrev pub invariant-loop-k : goal.invariant-loop-k
invariant-loop-k l = l.part ≡ take l.k (ands l.initial.part l.mask) ++ drop l.k l.initial.part
