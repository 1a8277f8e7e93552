use Rattle.std.proofs.Common.{refl, ◌∙◌, ◌/◌}
use Rattle.std.proofs.lemmas.Result.{err_from_is_err_and}
use Rattle.whole.proofs.Answered.{code_not_done}
use Rattle.registers.specs.Ports.{slot_word}
use Rattle.state.specs.Bank.{parts_in}
use Rattle.bus.proofs.Slots.{slot_stored}
use Rattle.bus.proofs.BankedWords.{only_put, only_then, devices_put_lem, done_number, rest_put, timer_refused}
use Rattle.bus.proofs.BankedWords.{timer_sounds, timer_plain}
use Rattle.bus.proofs.sounds.timer_write_ctrl.Goals as goal

pub returns-in_err-answer : goal.returns-in_err-answer
returns-in_err-answer c =
    let a = c.args in
    let x = parts_in a.cells.now a.floats.now in
    let p = err_from_is_err_and c.from_residual.result c.from_residual.ensures.1 in
    rw (p.1, p.2) (
      timer_refused a.slots.now x a.clock a.full (a.s / 8) (slot_word a.s) a.old a.new
          c.timer_of-t.ensures c.times_of-times.ensures c.write_ctrl-written.ensures c.if-n-eq-SOUND_TIMER.true
          c.in_err-answer.ensures.0 (code_not_done c.in_err-answer.field-0.0),
      c.in_err-answer.ensures.1,
    )

pub returns-then-n-eq-SOUND_TIMER : goal.returns-then-n-eq-SOUND_TIMER
returns-then-n-eq-SOUND_TIMER c =
    let a = c.args in
    let x = parts_in a.cells.now a.floats.now in
    let y = c.in_ok-answer.ensures in
    let p = c.put_timer.ensures in (
      timer_sounds a.slots.now x a.clock a.full (a.s / 8) (slot_word a.s) a.old a.new
          c.timer_of-t.ensures c.times_of-times.ensures c.write_ctrl-written.ensures c.if-n-eq-SOUND_TIMER.true y.0
          refl (devices_put_lem (parts_in a.cells.now _) p.parts),
      rest_put refl (only_then y.1.only (only_put p.parts)) (λ k. p.packed (y.1.packed k)),
    )

pub returns : goal.returns
returns c =
    let a = c.args in
    let x = parts_in a.cells.now a.floats.now in
    let p = c.put_timer-2.ensures in (
      timer_plain a.slots.now x a.clock a.full (a.s / 8) (slot_word a.s) a.old a.new
          c.timer_of-t.ensures c.times_of-times.ensures c.write_ctrl-written.ensures c.if-n-eq-SOUND_TIMER.false
          (c.slot_set.ensures ∙ slot_stored a.s c.requires a.slots.now _) p.parts c.accepted.ensures,
      rest_put (done_number c.accepted.ensures) (only_put p.parts) p.packed,
    )
