use Rattle.time.specs.Clocks.{clock_in}
use Rattle.state.specs.Bank.{latch_in, parts_in}
use Rattle.bus.proofs.Values.{view_counter, counter_slot}
use Rattle.bus.proofs.read.view_of.Goals as goal

pub counter_read-requires : goal.counter_read-requires
counter_read-requires c =
    counter_slot _ c.requires.0
    c.requires.1 c.in-TimerCounter.is

pub returns-in-TimerCounter : goal.returns-in-TimerCounter
returns-in-TimerCounter c =
    let a = c.args in
    let d = (parts_in a.cells.now a.floats.now).devices in
    view_counter a.s c.requires.0 a.slots.now d
    (clock_in a.sram.now) a.old c.requires.1
    c.in-TimerCounter.is c.sysclk_var-clock.ensures
    c.counter_read.ensures

pub returns-in-SpiAnswer : goal.returns-in-SpiAnswer
returns-in-SpiAnswer c =
    rw (
      c.in-SpiAnswer.is,
      c.own_insert.ensures,
      c.own_reg-c.ensures,
    )

pub returns-in-RtcReady : goal.returns-in-RtcReady
returns-in-RtcReady c =
    rw c.in-RtcReady.is

pub returns-in-RtcOut : goal.returns-in-RtcOut
unfolding latch_in
returns-in-RtcOut c =
    rw (c.in-RtcOut.is, c.out_of.ensures)

pub returns-in-FlashStatus : goal.returns-in-FlashStatus
returns-in-FlashStatus c =
    rw c.in-FlashStatus.is

pub returns-in-FlashAnswer : goal.returns-in-FlashAnswer
returns-in-FlashAnswer c =
    rw (c.in-FlashAnswer.is, c.rx_of-rx.ensures)

pub returns-in-ClockStatus : goal.returns-in-ClockStatus
returns-in-ClockStatus c =
    rw (c.in-ClockStatus.is, c.clock_status.ensures)

pub returns-in-Pending : goal.returns-in-Pending
returns-in-Pending c =
    let p = c.pending_irq.ensures c.args.floats.now in rw
    (c.in-Pending.is, p)

pub returns-in-PendingFiq : goal.returns-in-PendingFiq
returns-in-PendingFiq c =
    rw c.in-PendingFiq.is
