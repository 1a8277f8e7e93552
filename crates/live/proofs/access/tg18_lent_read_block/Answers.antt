use Rattle.state.specs.Bank.{parts_in}
use Rattle.system.specs.Bank.{machine_of}
use Rattle.live.proofs.Calls.{flag_number, block_refused, block_read}
use Rattle.live.proofs.access.tg18_lent_read_block.Goals as goal

pub returns-then-bad_memory : goal.returns-then-bad_memory
returns-then-bad_memory c rtc page onsets frequencies duties starts codes l f =
    let a = c.args in
    let m = machine_of a.slots.now a.addresses.now a.values.now rtc page onsets frequencies duties starts
    codes (parts_in l f) a.ram.now a.sram.now a.gpio.now a.fb.now in
    block_refused m c.bad_memory.ensures a.address a.bytes.now c.if-bad_memory.true

pub returns : goal.returns
returns c rtc page onsets frequencies duties starts codes l f =
    let a = c.args in
    let m = machine_of a.slots.now a.addresses.now a.values.now rtc page onsets frequencies duties starts
    codes (parts_in l f) a.ram.now a.sram.now a.gpio.now a.fb.now in
    block_read m c.bad_memory.ensures a.address a.bytes.now c.if-bad_memory.false (flag_number _ c.from.ensures)
    c.read_block.ensures
