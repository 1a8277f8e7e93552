use Rattle.std.proofs.Common.{refl, ◌∙◌, arith}
use Rattle.state.specs.Bank.{parts_in}
use Rattle.system.specs.Bank.{machine_of}
use Rattle.entries.specs.Turn.{run_state}
use Rattle.runner.proofs.Runs.{few_presses, few, long, known, continue_bad, continue_short, continue_done, unchanged}
use Rattle.runner.proofs.loops.continue_script.Goals as goal

pub returns-then-bad_script : goal.returns-then-bad_script
returns-then-bad_script c =
    let a = c.args in
    let m = machine_of a.slots.now a.addresses.now a.values.now a.rtc.now a.page.now
    a.onsets.now a.frequencies.now a.duties.now a.starts.now a.codes.now
    (parts_in a.cells.now a.floats.now) a.ram.now a.sram.now a.gpio.now a.fb.now in
    (continue_bad m a.script.now a.out.now c.bad_script.ensures c.if-bad_script.true, unchanged _ _ _)

pub steps-k-requires : goal.steps-k-requires
steps-k-requires c = few_presses _ c.bad_script.ensures c.if-bad_script.false c.presses-p.ensures

pub overflow_add-p : goal.overflow_add-p
overflow_add-p c =
    let f = few _ c.bad_script.ensures c.if-bad_script.false c.presses-p.ensures c.steps-k.ensures in
    omega arith

pub overflow_mul-p : goal.overflow_mul-p
overflow_mul-p c =
    let f = few _ c.bad_script.ensures c.if-bad_script.false c.presses-p.ensures c.steps-k.ensures in
    omega arith

pub overflow_add-p-2 : goal.overflow_add-p-2
overflow_add-p-2 c =
    let f = few _ c.bad_script.ensures c.if-bad_script.false c.presses-p.ensures c.steps-k.ensures in
    omega arith

pub returns-then-out-p : goal.returns-then-out-p
returns-then-out-p c =
    let a = c.args in
    let m = machine_of a.slots.now a.addresses.now a.values.now a.rtc.now a.page.now
    a.onsets.now a.frequencies.now a.duties.now a.starts.now a.codes.now
    (parts_in a.cells.now a.floats.now) a.ram.now a.sram.now a.gpio.now a.fb.now in (
      continue_short m a.script.now a.out.now c.bad_script.ensures c.if-bad_script.false c.presses-p.ensures
          c.steps-k.ensures
          c.if-out-p.true,
      unchanged _ _ _,
    )

pub overflow_add-p-3 : goal.overflow_add-p-3
overflow_add-p-3 c =
    let f = few _ c.bad_script.ensures c.if-bad_script.false c.presses-p.ensures c.steps-k.ensures in
    omega arith

pub overflow_cast-p : goal.overflow_cast-p
overflow_cast-p c =
    let f = few _ c.bad_script.ensures c.if-bad_script.false c.presses-p.ensures c.steps-k.ensures in
    omega arith

pub run_entries-requires : goal.run_entries-requires
run_entries-requires c =
    let f = few _ c.bad_script.ensures c.if-bad_script.false c.presses-p.ensures c.steps-k.ensures in
    let l = long _ c.bad_script.ensures c.if-bad_script.false c.presses-p.ensures c.steps-k.ensures in
    let y = known _ c.bad_script.ensures c.if-bad_script.false c.presses-p.ensures c.steps-k.ensures in (
      f.0,
      f.1,
      omega (arith, l),
      omega (
        arith,
        c.if-out-p.false,
        c.store.auto.m,
      ),
      y,
    )

pub shape_of-out : goal.shape_of-out
shape_of-out c = c.run_entries.auto.out ∙ c.store.auto.m

pub returns : goal.returns
returns c =
    let a = c.args in
    let m = machine_of a.slots.now a.addresses.now a.values.now a.rtc.now a.page.now
    a.onsets.now a.frequencies.now a.duties.now a.starts.now a.codes.now
    (parts_in a.cells.now a.floats.now) a.ram.now a.sram.now a.gpio.now a.fb.now in
    let w = c.run_entries.new in
    let t = run_state (machine_of w.slots w.addresses w.values w.rtc w.page
    w.onsets w.frequencies w.duties w.starts
    w.codes
    (parts_in w.cells w.floats)
    w.ram w.sram
    w.gpio w.fb)
    w.out in (
      continue_done m a.script.now a.out.now c.bad_script.ensures c.if-bad_script.false c.presses-p.ensures
          c.steps-k.ensures
          c.if-out-p.false {t = t} c.store.ensures c.run_entries.ensures.0,
      record { packed = c.run_entries.ensures.1; still = λ h. absurd (h refl) },
    )
