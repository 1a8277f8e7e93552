use Rattle.std.proofs.lemmas.Result.{err_from_is_err_and}
use Rattle.std.proofs.Common.{refl}
use Rattle.state.proofs.Packs.{done_answered, none_put}
use Rattle.state.specs.Bank.{parts_in}
use Rattle.time.proofs.Clockwork.{goes, goes_by, rests}
use Rattle.time.proofs.advancing.advance.Goals as goal

pub returns-in_err-moved : goal.returns-in_err-moved
returns-in_err-moved g c =
    let a = c.args in
    let x = parts_in a.cells.now a.floats.now in
    let p = err_from_is_err_and c.from_residual.result c.from_residual.ensures.1 in
    rw (p.1, p.2) (
      goes_by a.slots.now a.gpio.now a.starts.now a.codes.now x a.sram.now _ _ c.times_of-before.ensures
          c.in_err-moved.ensures
          (rests a.slots.now a.gpio.now a.starts.now a.codes.now x a.sram.now _ c.in_err-moved.field-0.0 refl),
      none_put,
    )

pub returns : goal.returns
returns g c =
    let a = c.args in
    let x = parts_in a.cells.now a.floats.now in (
      goes_by a.slots.now a.gpio.now a.starts.now a.codes.now x a.sram.now _ _ c.times_of-before.ensures
          c.in_ok-moved.ensures
          (goes a.slots.now a.gpio.now a.starts.now a.codes.now x a.sram.now _ _ refl c.sysclk_var-clock.ensures
          c.move_to.ensures.0),
      done_answered refl c.move_to.ensures.1,
    )
