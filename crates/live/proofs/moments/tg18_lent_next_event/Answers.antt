use Rattle.std.proofs.Common.{refl}
use Rattle.state.specs.Bank.{parts_in}
use Rattle.system.specs.Bank.{machine_of}
use Rattle.system.specs.Steps as steps
use Rattle.live.proofs.Calls.{called_bad, called_good, stepped_next}
use Rattle.system.proofs.Banks.{next_done}
use Rattle.live.proofs.moments.tg18_lent_next_event.Goals as goal

pub returns-then-bad_memory : goal.returns-then-bad_memory
returns-then-bad_memory c addresses values rtc page onsets frequencies duties codes =
    let a = c.args in
    let m = machine_of a.slots.now addresses values rtc page onsets frequencies duties a.starts.now codes
    (parts_in a.cells.now a.floats.now) a.ram.now a.sram.now a.gpio.now a.fb.now in
    called_bad m (steps.next_event) c.bad_memory.ensures c.if-bad_memory.true

pub returns : goal.returns
returns c addresses values rtc page onsets frequencies duties codes =
    let a = c.args in
    let m = machine_of a.slots.now addresses values rtc page onsets frequencies duties a.starts.now codes
    (parts_in a.cells.now a.floats.now) a.ram.now a.sram.now a.gpio.now a.fb.now in
    rw (c.status.ensures, c.unwrap_or.ensures) (called_good m (steps.next_event) c.bad_memory.ensures
    c.if-bad_memory.false (stepped_next m (next_done m.system {x = parts_in a.cells.now a.floats.now} refl
    a.sram.now c.next_event-next.ensures)))
