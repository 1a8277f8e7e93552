use Rattle.std.proofs.Common.{refl, ◌∙◌, arith}
use Rattle.block.specs.Block.{plain, laid_of}
use Rattle.block.proofs.Cases.{lay_step, lay_end}
use Rattle.block.proofs.poke.Goals as goal

pub loop-i-init : goal.loop-i-init
unfolding laid_of
loop-i-init c = refl

pub loop-i-preserved : goal.loop-i-preserved
loop-i-preserved c =
    let a = c.args in
    let l = c.loop-i in
    lay_step (plain l.ram l.sram l.gpio) a.addr l.i a.bytes.now (omega arith) c.along.ensures c.poke8.ensures
    ∙ l.invariant

pub returns : goal.returns
returns c = lay_end _ _ _ c.loop-i.i _ (omega arith) c.loop-i.invariant
