use Rattle.std.proofs.Common.{refl}
use Rattle.bus.proofs.Cases.{select_stored}
use Rattle.bus.proofs.chip.select_write.Goals as goal

pub returns : goal.returns
returns c =
    let a = c.args in
    select_stored a.slots.now a.chip a.page.now a.ram.now a.new c.own_insert.ensures refl
    c.flash_select.ensures
