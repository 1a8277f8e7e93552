use Rattle.bus.proofs.Cases.{command_done}
use Rattle.bus.proofs.rtc.command_write.Goals as goal

pub returns : goal.returns
returns c =
    let a = c.args in
    command_done a.slots.now _ a.game a.new c.own_insert.ensures
    c.own_reg-address.ensures c.own_reg-word.ensures c.rtc_command.ensures
