use Rattle.bus.proofs.BankedWords.{only_put, adc_done}
use Rattle.state.specs.Bank.{parts_in}
use Rattle.bus.proofs.words.adc_write.Goals as goal

pub returns : goal.returns
returns c =
    let a = c.args in
    let x = parts_in a.cells.now a.floats.now in
    let p = c.put_converting.ensures a.floats.now in (
      adc_done a.slots.now x a.old a.new c.converting_of.ensures c.own_reg.ensures
          c.adc_write_ctrl-after.ensures c.own_insert.ensures p.parts,
      only_put p.parts,
      p.packed,
    )
