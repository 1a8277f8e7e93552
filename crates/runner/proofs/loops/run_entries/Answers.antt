use Rattle.std.proofs.Common.{ℕ, ap, refl, length, take, arith, ◌+◌, ◌≤◌, ◌∙◌}
use Rattle.entries.specs.Turn.{run_state}
use Rattle.entries.specs.Answers.{answer_bytes}
use Rattle.state.specs.Bank.{parts_in}
use Rattle.system.specs.Bank.{machine_of}
use Rattle.entries.proofs.Laying.{front_long, entry_front, step_entry}
use Rattle.runner.proofs.Runs.{kind_known, step_next, same_run, none_left, both_run}
use Rattle.runner.specs.Format.{step_from}
use Rattle.runner.proofs.loops.run_entries.Goals as goal

pub loop-i-init : goal.loop-i-init
loop-i-init c = (omega arith, omega arith, same_run _ _ _ refl (omega arith) (omega arith), λ k. k)

pub loop-i-preserved : goal.loop-i-preserved
loop-i-preserved c =
    let a = c.args in
    let l = c.loop-i in
    let i = c.loop-i.invariant in
    let t = c.loop-i-test.true in
    let e = c.step_at-e.ensures ∙ ap (λ (k : ℕ). step_from a.script.now k) i.0 in
    let to = l.to in
    let m = machine_of l.slots l.addresses l.values l.rtc l.page l.onsets l.frequencies l.duties
    l.starts l.codes (parts_in l.cells l.floats) l.ram l.sram l.gpio l.fb in
    let w = c.act.new in
    let m₁ = machine_of w.slots w.addresses w.values w.rtc w.page w.onsets w.frequencies w.duties w.starts
    w.codes (parts_in w.cells w.floats) w.ram w.sram w.gpio w.fb in
    let known = kind_known a.script.now a.p a.k l._i c.requires.4 t e in
    let room : to + answer_bytes ≤ length l.out = omega (arith, c.requires.3, i.1) in (
      omega (arith, i.0),
      omega (arith, i.1),
      step_next a.script.now a.p a.k l._i to (run_state m l.out) t e
          (entry_front m m₁ l.out w.out to c.step_at-e.result room
          (c.act.ensures.0 ∙ step_entry m (take (to + answer_bytes) l.out)
          to c.step_at-e.result known (front_long l.out _ room))) refl ∙ i.2,
      λ k. c.act.ensures.1 (i.3 k),
    )

pub returns : goal.returns
returns c =
    let a = c.args in (
      both_run a.script.now a.p a.k _ (none_left _ _ _ _ _ _ (omega arith) c.loop-i.invariant.2)
          (c.run_presses.ensures.0 a.slots.now a.addresses.now a.values.now
          a.rtc.now a.page.now a.onsets.now a.frequencies.now a.duties.now a.ram.now a.sram.now
          a.gpio.now a.fb.now (a.p + a.k) (omega arith)),
      λ k. c.loop-i.invariant.3 (c.run_presses.ensures.1 k),
    )
