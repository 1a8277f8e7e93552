use Rattle.std.proofs.Common.{refl}
use Rattle.state.specs.Bank.{parts_in}
use Rattle.system.specs.Bank.{machine_of}
use Rattle.system.specs.Steps as steps
use Rattle.live.proofs.Calls.{called_bad, called_good, stepped_read}
use Rattle.system.proofs.Banks.{read_done}
use Rattle.live.proofs.access.tg18_lent_read.Goals as goal

pub returns-then-bad_memory : goal.returns-then-bad_memory
returns-then-bad_memory c rtc page onsets frequencies duties starts codes =
    let a = c.args in
    let m = machine_of a.slots.now a.addresses.now a.values.now rtc page onsets frequencies duties starts
    codes (parts_in a.cells.now a.floats.now) a.ram.now a.sram.now a.gpio.now a.fb.now in
    called_bad m (steps.read a.address a.size) c.bad_memory.ensures c.if-bad_memory.true

pub returns : goal.returns
returns c rtc page onsets frequencies duties starts codes =
    let a = c.args in
    let m = machine_of a.slots.now a.addresses.now a.values.now rtc page onsets frequencies duties starts
    codes (parts_in a.cells.now a.floats.now) a.ram.now a.sram.now a.gpio.now a.fb.now in
    rw (c.status.ensures, c.unwrap_or.ensures) (called_good m (steps.read a.address a.size) c.bad_memory.ensures
    c.if-bad_memory.false (stepped_read m a.address a.size
    (read_done m.system a.ram.now a.sram.now a.gpio.now a.address a.size {x =
    parts_in a.cells.now a.floats.now} refl c.read-got.ensures refl)))
