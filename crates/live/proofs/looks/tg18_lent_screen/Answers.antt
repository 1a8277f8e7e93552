use Rattle.state.specs.Bank.{parts_in}
use Rattle.system.specs.Bank.{machine_of}
use Rattle.live.proofs.Calls.{screen_refused, screen_laid}
use Rattle.live.proofs.looks.tg18_lent_screen.Goals as goal

pub returns-then-bad_memory : goal.returns-then-bad_memory
returns-then-bad_memory c slots addresses values rtc page onsets frequencies duties starts codes l f =
    let a = c.args in
    let m = machine_of slots addresses values rtc page onsets frequencies duties starts codes (parts_in l f)
    a.ram.now a.sram.now a.gpio.now a.fb.now in
    screen_refused m c.bad_memory.ensures a.rgb.now c.if-bad_memory.true

pub returns : goal.returns
returns c slots addresses values rtc page onsets frequencies duties starts codes l f =
    let a = c.args in
    let m = machine_of slots addresses values rtc page onsets frequencies duties starts codes (parts_in l f)
    a.ram.now a.sram.now a.gpio.now a.fb.now in
    screen_laid m c.bad_memory.ensures a.rgb.now c.if-bad_memory.false c.status.ensures
    c.rgb.ensures
