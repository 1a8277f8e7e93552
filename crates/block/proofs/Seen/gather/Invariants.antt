use Rattle.std.proofs.Common.{◌≡◌, ◌++◌, length, take, drop}
use Rattle.block.specs.Block.{held_in, peek_on, table}
use Rattle.block.proofs.Seen.gather.Given as goal

abbrev pub invariant-loop-i : goal.invariant-loop-i
invariant-loop-i l =
    l.buf ≡ take l.i (table (λ k. peek_on (held_in l.self) l.self.ram.now l.self.sram.now l.self.gpio.now l.addr
    k) 0 (length l.initial.buf)) ++
    drop l.i l.initial.buf
