use Rattle.std.proofs.Common.{refl}
use Rattle.state.specs.Bank.{parts_in}
use Rattle.system.specs.Bank.{machine_of}
use Rattle.live.proofs.Calls.{stepped_turbo}
use Rattle.system.proofs.Banks.{turbo_done}
use Rattle.live.proofs.moments.tg18_lent_turbo.Goals as goal

pub returns : goal.returns
returns c slots addresses values rtc page onsets frequencies duties starts codes l ram sram gpio fb =
    let a = c.args in
    let m = machine_of slots addresses values rtc page onsets frequencies duties starts codes
    (parts_in l a.floats.now) ram sram gpio fb in
    rw c.status.ensures (
      stepped_turbo m a.to (turbo_done m.system a.to {x = parts_in l a.floats.now} refl (c.set_turbo.ensures l).0),
      (c.set_turbo.ensures l).1,
    )
