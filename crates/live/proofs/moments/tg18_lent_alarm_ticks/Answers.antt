use Rattle.state.specs.Bank.{parts_in}
use Rattle.system.specs.Bank.{machine_of}
use Rattle.live.proofs.Calls.{alarm_off, alarm_on}
use Rattle.live.proofs.moments.tg18_lent_alarm_ticks.Goals as goal

pub returns-in-None : goal.returns-in-None
returns-in-None c slots addresses values page onsets frequencies duties starts codes l f ram sram gpio fb =
    let a = c.args in
    let m = machine_of slots addresses values a.rtc.now page onsets frequencies duties starts codes (parts_in l f)
    ram sram gpio fb in
    alarm_off m c.alarm_ticks-alarm.ensures c.in-None.is

pub returns-in-Some : goal.returns-in-Some
returns-in-Some c slots addresses values page onsets frequencies duties starts codes l f ram sram gpio fb =
    let a = c.args in
    let m = machine_of slots addresses values a.rtc.now page onsets frequencies duties starts codes (parts_in l f)
    ram sram gpio fb in
    alarm_on m c.alarm_ticks-alarm.ensures _ c.in-Some.is
