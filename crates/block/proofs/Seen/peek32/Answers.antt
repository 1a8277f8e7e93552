use Rattle.block.specs.Block.{held_in}
use Rattle.block.proofs.Cases.{word_joined}
use Rattle.block.proofs.Seen.peek32.Goals as goal

pub returns : goal.returns
returns c =
    let a = c.args in
    let r = held_in a.self.now in
    word_joined r a.self.now.ram.now a.self.now.sram.now a.self.now.gpio.now a.addr
    c.along.ensures
    c.peek8-a.ensures c.along-2.ensures
    c.peek8-b.ensures c.along-3.ensures
    c.peek8-c.ensures c.along-4.ensures c.peek8-d.ensures
    c.from_le_bytes.ensures
