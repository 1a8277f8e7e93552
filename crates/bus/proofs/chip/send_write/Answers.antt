use Rattle.bus.proofs.Cases.{send_stored}
use Rattle.bus.proofs.chip.send_write.Goals as goal

pub returns : goal.returns
returns c =
    let a = c.args in
    send_stored a.slots.now a.chip a.page.now a.ram.now a.new c.own_insert.ensures
    c.low.ensures c.flash_xfer.ensures
