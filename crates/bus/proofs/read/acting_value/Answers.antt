use Rattle.state.specs.Bank.{parts_in}
use Rattle.bus.proofs.Values.{acting_timer, acting_no_day}
use Rattle.bus.proofs.read.acting_value.Goals as goal

pub returns-in-TimerControl : goal.returns-in-TimerControl
returns-in-TimerControl c =
    let a = c.args in
    acting_timer a.s c.requires.0
    (parts_in a.cells.now a.floats.now).devices.clocks a.old c.requires.1
    c.in-TimerControl.is c.timer_read.ensures

pub returns-in-DayField : goal.returns-in-DayField
returns-in-DayField c =
    absurd (acting_no_day _ c.requires.0 c.requires.1 c.in-DayField.is)

pub returns-in-Sound : goal.returns-in-Sound
returns-in-Sound c =
    rw c.in-Sound.is

pub returns-in-LcdStatus : goal.returns-in-LcdStatus
returns-in-LcdStatus c =
    rw c.in-LcdStatus.is

pub returns-in-Tick : goal.returns-in-Tick
returns-in-Tick c =
    rw c.in-Tick.is

pub returns-in-AdcControl : goal.returns-in-AdcControl
returns-in-AdcControl c =
    rw c.in-AdcControl.is

pub returns-in-Power : goal.returns-in-Power
returns-in-Power c =
    rw c.in-Power.is

pub returns-in-SpiSend : goal.returns-in-SpiSend
returns-in-SpiSend c =
    rw c.in-SpiSend.is
