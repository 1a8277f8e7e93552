use Rattle.std.proofs.Common.{refl}
use Rattle.state.specs.Bank.{parts_in}
use Rattle.system.specs.Bank.{machine_of}
use Rattle.system.specs.Steps as steps
use Rattle.live.proofs.Calls.{called_bad, called_good, stepped_write}
use Rattle.runner.proofs.Runs.{unchanged}
use Rattle.system.proofs.Banks.{write_done}
use Rattle.live.proofs.access.tg18_lent_write.Goals as goal

pub returns-then-bad_memory : goal.returns-then-bad_memory
returns-then-bad_memory c starts codes =
    let a = c.args in
    let m = machine_of a.slots.now a.addresses.now a.values.now a.rtc.now a.page.now a.onsets.now a.frequencies.now
    a.duties.now starts codes (parts_in a.cells.now a.floats.now) a.ram.now
    a.sram.now a.gpio.now a.fb.now in (
      called_bad m (steps.write a.address a.size a.value) c.bad_memory.ensures c.if-bad_memory.true,
      unchanged _ _ _,
    )

pub returns : goal.returns
returns c starts codes =
    let a = c.args in
    let m = machine_of a.slots.now a.addresses.now a.values.now a.rtc.now a.page.now a.onsets.now a.frequencies.now
    a.duties.now starts codes (parts_in a.cells.now a.floats.now) a.ram.now
    a.sram.now a.gpio.now a.fb.now in
    let w = c.write-answer.new in
    let y = parts_in w.cells w.floats in
    let m₁ = machine_of w.slots w.addresses w.values w.rtc w.page w.onsets w.frequencies w.duties starts codes y
    w.ram w.sram w.gpio w.fb in
    rw c.status.ensures (
      called_good m (steps.write a.address a.size a.value) c.bad_memory.ensures c.if-bad_memory.false
          (stepped_write m a.address a.size a.value {m₁ = m₁} (write_done m
          a.address a.size a.value {r = m₁.system.registers} {rtc = m₁.system.rtc} {page = m₁.system.page}
          {ram = m₁.ram} {sram = m₁.sram} {gpio = m₁.gpio} {fb = m₁.fb} {d = y.devices} {k = y.keys}
          {q = m₁.system.queue} {x = parts_in a.cells.now a.floats.now} refl (c.write-answer.ensures.0)
          (c.write-answer.ensures.1))),
      c.write-answer.ensures.2,
    )
