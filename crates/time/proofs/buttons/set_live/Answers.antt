use Rattle.std.proofs.lemmas.Result.{err_from_is_err_and}
use Rattle.std.proofs.Common.{refl}
use Rattle.state.proofs.Packs.{done_answered, none_put}
use Rattle.state.specs.Bank.{parts_in}
use Rattle.whole.proofs.Answered.{code_not_done}
use Rattle.time.proofs.Asks.{live_refused, live_done}
use Rattle.time.proofs.buttons.set_live.Goals as goal

pub returns-in_err-check_key : goal.returns-in_err-check_key
returns-in_err-check_key c =
    let a = c.args in
    let p = err_from_is_err_and c.from_residual.result c.from_residual.ensures.1 in
    rw (p.1, p.2) (
      live_refused (parts_in a.cells.now a.floats.now) a.key a.down c.in_err-check_key.ensures refl
          (code_not_done c.in_err-check_key.field-0.0),
      none_put,
    )

pub returns : goal.returns
returns c =
    let a = c.args in
    let p = c.put_live.ensures a.floats.now in (
      live_done (parts_in a.cells.now a.floats.now) a.key a.down c.in_ok-check_key.ensures refl p.parts,
      done_answered refl p.packed,
    )
