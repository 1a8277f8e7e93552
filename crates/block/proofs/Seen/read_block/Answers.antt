use Rattle.block.specs.Block.{held_in}
use Rattle.std.proofs.Common.{length}
use Rattle.block.proofs.Cases.{block_read}
use Rattle.block.proofs.Seen.read_block.Goals as goal

pub returns : goal.returns
returns c =
    let a = c.args in
    let r = held_in a.self.now in
    block_read r a.self.now.ram.now a.self.now.sram.now a.self.now.gpio.now a.addr (length a.buf.now)
    c.copy.ensures
    c.is_whole.ensures
