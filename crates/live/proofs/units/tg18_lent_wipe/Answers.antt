use Rattle.std.proofs.Common.{arith}
use Rattle.state.specs.Bank.{parts_in}
use Rattle.system.specs.Bank.{machine_of}
use Rattle.system.specs.Steps as steps
use Rattle.live.proofs.Calls.{called_bad, called_good, stepped_wipe, wiped_still, wiped_fresh}
use Rattle.live.proofs.units.tg18_lent_wipe.Goals as goal

pub returns-then-bad_memory : goal.returns-then-bad_memory
returns-then-bad_memory c =
    let a = c.args in
    let m = machine_of a.slots.now a.addresses.now a.values.now a.rtc.now a.page.now a.onsets.now a.frequencies.now
    a.duties.now a.starts.now a.codes.now (parts_in a.cells.now a.floats.now) a.ram.now a.sram.now a.gpio.now
    a.fb.now in
    (called_bad m (steps.wipe) c.bad_memory.ensures c.if-bad_memory.true, wiped_still _ _ _ (λ e. omega arith))

pub returns : goal.returns
returns c =
    let a = c.args in
    let m = machine_of a.slots.now a.addresses.now a.values.now a.rtc.now a.page.now a.onsets.now a.frequencies.now
    a.duties.now a.starts.now a.codes.now (parts_in a.cells.now a.floats.now) a.ram.now a.sram.now a.gpio.now
    a.fb.now in
    let w = c.wipe_all.new in
    let m₁ = machine_of w.slots w.addresses w.values w.rtc w.page w.onsets w.frequencies w.duties w.starts w.codes
    (parts_in w.cells w.floats) w.ram w.sram w.gpio w.fb in (
      called_good m steps.wipe c.bad_memory.ensures c.if-bad_memory.false
          (stepped_wipe m {m₁ = m₁} (c.wipe_all.ensures.0)),
      wiped_fresh _ _ _ _ (c.wipe_all.ensures.1, c.wipe_all.ensures.2),
    )
