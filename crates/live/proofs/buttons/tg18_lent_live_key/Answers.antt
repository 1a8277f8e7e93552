use Rattle.std.proofs.Common.{refl, not, eqb}
use Rattle.state.specs.Bank.{parts_in}
use Rattle.system.specs.Bank.{machine_of}
use Rattle.live.proofs.Calls.{stepped_live}
use Rattle.system.proofs.Banks.{live_done}
use Rattle.live.proofs.buttons.tg18_lent_live_key.Goals as goal

pub returns : goal.returns
returns c slots addresses values rtc page onsets frequencies duties starts codes ram sram gpio fb =
    let a = c.args in
    let m = machine_of slots addresses values rtc page onsets frequencies duties starts codes (parts_in a.cells.now
    a.floats.now) ram sram gpio fb in
    rw c.status.ensures (
      stepped_live m a.key (not (eqb a.down 0)) (live_done m.system {x = parts_in a.cells.now a.floats.now} refl
          a.key (not (eqb a.down 0)) (c.set_live.ensures.0)),
      c.set_live.ensures.1,
    )
