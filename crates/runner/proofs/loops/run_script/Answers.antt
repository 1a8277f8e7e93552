use Rattle.state.specs.Bank.{parts_in}
use Rattle.system.specs.Bank.{state_in, machine_of}
use Rattle.runner.specs.Script.{continued}
use Rattle.runner.proofs.Runs.{run_fresh}
use Rattle.map.specs.Refusals.{number_of}
use Rattle.runner.proofs.loops.run_script.Goals as goal

pub returns : goal.returns
returns c =
    let a = c.args in
    let v = c.reset.new in
    let s = state_in v.slots v.addresses v.values v.rtc v.page v.onsets
    v.frequencies v.duties v.starts
    v.codes
    (parts_in v.cells v.floats) in
    let w = c.continue_script.new in
    let x = continued (number_of c.continue_script.result) (machine_of w.slots w.addresses w.values w.rtc w.page
    w.onsets w.frequencies w.duties w.starts
    w.codes
    (parts_in w.cells w.floats)
    w.ram w.sram
    w.gpio w.fb)
    w.out in
    run_fresh a.ram.now a.sram.now a.gpio.now a.fb.now a.script.now a.out.now {s = s} {x = x}
    (c.reset.ensures.0) c.continue_script.ensures.0
