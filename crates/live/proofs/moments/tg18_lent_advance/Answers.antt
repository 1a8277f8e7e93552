use Rattle.std.proofs.Common.{refl}
use Rattle.state.specs.Bank.{parts_in}
use Rattle.system.specs.Bank.{machine_of}
use Rattle.system.specs.Steps as steps
use Rattle.live.proofs.Calls.{called_bad, called_good, stepped_advance}
use Rattle.runner.proofs.Runs.{unchanged}
use Rattle.system.proofs.Banks.{advance_done}
use Rattle.live.proofs.moments.tg18_lent_advance.Goals as goal

pub returns-then-bad_memory : goal.returns-then-bad_memory
returns-then-bad_memory c addresses values rtc page onsets frequencies duties =
    let a = c.args in
    let m = machine_of a.slots.now addresses values rtc page onsets frequencies duties a.starts.now a.codes.now
    (parts_in a.cells.now a.floats.now) a.ram.now a.sram.now a.gpio.now a.fb.now in
    (called_bad m (steps.advance a.to) c.bad_memory.ensures c.if-bad_memory.true, unchanged _ _ _)

pub returns : goal.returns
returns c addresses values rtc page onsets frequencies duties =
    let a = c.args in
    let m = machine_of a.slots.now addresses values rtc page onsets frequencies duties a.starts.now a.codes.now
    (parts_in a.cells.now a.floats.now) a.ram.now a.sram.now a.gpio.now a.fb.now in
    rw c.status.ensures (
      called_good m (steps.advance a.to) c.bad_memory.ensures c.if-bad_memory.false (stepped_advance m a.to
          (advance_done m.system a.sram.now a.gpio.now a.to {x = parts_in a.cells.now a.floats.now}
          refl (c.advance.ensures.0))),
      c.advance.ensures.1,
    )
