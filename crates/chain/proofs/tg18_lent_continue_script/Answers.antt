use Rattle.map.specs.Refusals.{number_of}
use Rattle.state.specs.Bank.{parts_in}
use Rattle.system.specs.Bank.{machine_of}
use Rattle.runner.specs.Script.{continued}
use Rattle.runner.proofs.Runs.{unchanged, script_refused, script_goes}
use Rattle.chain.proofs.tg18_lent_continue_script.Goals as goal

pub returns-then-bad_memory : goal.returns-then-bad_memory
returns-then-bad_memory c =
    let a = c.args in
    let m = machine_of a.slots.now a.addresses.now a.values.now a.rtc.now a.page.now a.onsets.now a.frequencies.now
    a.duties.now a.starts.now a.codes.now (parts_in a.cells.now a.floats.now) a.ram.now a.sram.now a.gpio.now
    a.fb.now in (
      script_refused m a.script.now a.out.now c.bad_memory.ensures c.if-bad_memory.true,
      unchanged _ _
          _,
    )

pub returns : goal.returns
returns c =
    let a = c.args in
    let m = machine_of a.slots.now a.addresses.now a.values.now a.rtc.now a.page.now a.onsets.now a.frequencies.now
    a.duties.now a.starts.now a.codes.now (parts_in a.cells.now a.floats.now) a.ram.now a.sram.now a.gpio.now
    a.fb.now in
    let w = c.continue_script-answer.new in
    let m₁ = machine_of w.slots w.addresses w.values w.rtc w.page w.onsets w.frequencies w.duties w.starts w.codes
    (parts_in w.cells w.floats) w.ram w.sram w.gpio w.fb in
    rw c.status.ensures (
      script_goes m a.script.now a.out.now c.bad_memory.ensures
          {x = continued (number_of c.continue_script-answer.result) m₁ w.out} c.if-bad_memory.false
          (c.continue_script-answer.ensures.0),
      c.continue_script-answer.ensures.1,
    )
