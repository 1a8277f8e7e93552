use Rattle.block.specs.Block.{held_in}
use Rattle.std.proofs.Common.{length, sym, ap, ◌∙◌}
use Rattle.block.proofs.Whole.{found, block_long}
use Rattle.memory.proofs.Copied.{copied_whole}
use Rattle.block.proofs.Seen.copy.Goals as goal

pub returns-in-Some : goal.returns-in-Some
returns-in-Some c =
    let a = c.args in
    let s = a.self.now in
    let r = held_in s in
    let n = length a.buf.now in
    let bytes = found r s.ram.now s.sram.now s.gpio.now a.addr n _ _ _ _ _ c.in-Some.bytes
    c.part.ensures c.part-2.ensures c.part-3.ensures c.or.ensures c.or-run.ensures c.in-Some.is in
    let long = ap length bytes ∙ block_long r s.ram.now s.sram.now s.gpio.now a.addr n in
    c.copy.ensures ∙ copied_whole a.buf.now _ (sym long) ∙ bytes
