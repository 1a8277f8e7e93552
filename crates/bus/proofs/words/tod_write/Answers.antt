use Rattle.bus.proofs.BankedWords.{day_put}
use Rattle.state.specs.Bank.{parts_in}
use Rattle.bus.proofs.words.tod_write.Goals as goal

pub returns : goal.returns
returns c =
    let a = c.args in
    let x = parts_in a.cells.now a.floats.now in
    let p = c.put_irq.ensures in (
      day_put x a.field a.new c.times_of-times.ensures
          c.irq_of-irq.ensures c.tod_write-next.ensures p.parts,
      p.packed,
    )
