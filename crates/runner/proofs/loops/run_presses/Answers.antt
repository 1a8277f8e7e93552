use Rattle.std.proofs.Common.{ℕ, ap, length, take, arith, ◌+◌, ◌≤◌, ◌≡◌, refl, ◌∙◌}
use lib.Ieee.{binary64, of_bits}
use Rattle.entries.specs.Turn.{run_state}
use Rattle.entries.specs.Answers.{answer_bytes}
use Rattle.state.specs.Bank.{parts_in}
use Rattle.system.specs.Bank.{machine_of}
use Rattle.system.specs.Inner.{parts_of}
use Rattle.system.proofs.Banks.{press_done}
use Rattle.entries.proofs.Turns.{turn_press, entry_laid}
use Rattle.entries.proofs.Laying.{laid_room, front_long, laid_front}
use Rattle.runner.proofs.Runs.{press_kind, press_next, same_run}
use Rattle.runner.specs.Format.{press_from}
use Rattle.runner.proofs.loops.run_presses.Goals as goal

pub loop-i-init : goal.loop-i-init
loop-i-init c = (
  omega arith,
  omega arith,
  λ slots addresses values rtc page onsets frequencies duties ram sram gpio fb n h.
      same_run _ _ _ refl (omega arith) refl,
  λ k. k,
)

pub loop-i-preserved : goal.loop-i-preserved
loop-i-preserved c =
    let a = c.args in
    let l = c.loop-i in
    let i = l.invariant in
    let e = c.press_at-e.result in
    let f = c.press_at-e.ensures in
    let pressed = c.press-pressed.ensures.0 in
    let answer = c.plain.result in
    let refusal = c.plain.ensures in
    let laid = c.lay.ensures in
    let to = l.to in
    let room : to + answer_bytes ≤ length l.out = omega (arith, c.requires.2, i.1) in (
      omega (arith, i.0),
      omega (arith, i.1),
      λ slots addresses values rtc page onsets frequencies duties ram sram gpio fb n h.
          let x = parts_in l.cells a.floats.now in
          let m = machine_of slots addresses values rtc page onsets frequencies duties l.starts l.codes x
          ram sram gpio fb in
          let j : x ≡ parts_of m.system = refl in
          press_next a.script.now a.p n l._i to (run_state m l.out) c.loop-i-test.true h
          (f ∙ ap (λ (k : ℕ). press_from a.script.now k) i.0)
          (entry_laid m e l.out to (turn_press m e (press_kind a.script.now a.p _ f)
          (press_done m.system e.address (of_bits binary64 e.value) j pressed) refusal)
          (laid_front l.out _ to answer room (laid ∙ laid_room (take (to + answer_bytes) l.out) to
          answer (front_long l.out _ room)))) refl
          ∙ i.2 slots addresses values rtc page onsets frequencies duties ram sram gpio fb n h,
      λ k. c.press-pressed.ensures.1.packed (i.3 k),
    )

pub returns : goal.returns
returns c =
    let done : c.loop-i._i ≡ c.args.p = omega arith in (
      λ slots addresses values rtc page onsets frequencies duties ram sram gpio fb n h.
          rw (c.loop-i.invariant.1, done) at (c.loop-i.invariant.2 slots addresses values rtc page onsets frequencies
          duties ram sram gpio fb n h),
      c.loop-i.invariant.3,
    )
