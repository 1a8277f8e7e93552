use Rattle.std.proofs.Common.{◌≡◌, ℕ, ◌<◌, length, ◌∙◌, add-one, arith}
use Rattle.block.specs.Block.{held_in, peek_on, block_of}
use Rattle.block.proofs.Table.{table_step, table_whole}
use Rattle.block.proofs.Seen.gather.Goals as goal

pub loop-i-preserved : goal.loop-i-preserved
loop-i-preserved c =
    let a = c.args in
    let l = c.loop-i in
    let f : ℕ → ℕ = (λ k. peek_on (held_in a.self.now) a.self.now.ram.now
    a.self.now.sram.now a.self.now.gpio.now a.addr k) in
    let m : l.i < length a.buf.now = omega arith in
    rw (l.invariant, c.peek8.ensures, c.along.ensures, add-one)
    (table_step f l.i 0 l.i a.buf.now (omega arith) m)

pub returns : goal.returns
unfolding block_of
returns c =
    let a = c.args in
    let e : c.loop-i.i ≡ length a.buf.now = omega arith in
    c.loop-i.invariant ∙ rw e (table_whole _ a.buf.now)
