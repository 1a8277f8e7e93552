use Rattle.std.proofs.Common.{◌≡◌, ◌-◌, ◌++◌, length, take}
use Rattle.memory.specs.Bytes.{bytes_of}
use Rattle.memory.proofs.lay.Given as goal

abbrev pub invariant-loop-b : goal.invariant-loop-b
invariant-loop-b l =
    take l.b-index l.bytes ++ bytes_of (length l.bytes - l.b-index) l.v ≡ bytes_of (length l.initial.bytes) l.value
