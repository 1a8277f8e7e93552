use Rattle.std.proofs.Common.{◌≡◌, drop}
use Rattle.block.specs.Block.{plain, laid_from, laid_of}
use Rattle.block.proofs.poke.Given as goal

abbrev pub invariant-loop-i : goal.invariant-loop-i
invariant-loop-i l =
    laid_from (plain l.ram l.sram l.gpio) l.addr l.i (drop l.i l.bytes) ≡ laid_of
    (plain l.initial.ram l.initial.sram l.initial.gpio) l.addr l.bytes
