use Rattle.bus.proofs.Cases.{spi_done}
use Rattle.bus.proofs.words.spi_sent.Goals as goal

pub returns : goal.returns
returns c =
    let a = c.args in
    spi_done a.slots.now a.new c.own_insert.ensures
    c.own_insert-2.ensures c.own_reg-c.ensures c.own_insert-3.ensures
