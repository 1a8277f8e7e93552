use Rattle.std.proofs.lemmas.Result.{err_from_is_err_and}
use Rattle.std.proofs.Common.{refl}
use Rattle.state.proofs.Packs.{done_answered, none_put}
use Rattle.whole.proofs.Answered.{code_not_done}
use Rattle.time.proofs.Asks.{press_of_lem, count_still}
use Rattle.time.proofs.buttons.press.Goals as goal

pub returns-in_err-count : goal.returns-in_err-count
returns-in_err-count g c =
    let a = c.args in
    let same = count_still a.starts.now a.codes.now a.cells.now a.floats.now a.key _ _ c.keys_of-before.ensures
    c.in_err-count.ensures (code_not_done c.in_err-count.field-0.0) in
    let p = err_from_is_err_and c.from_residual.result c.from_residual.ensures.1 in
    rw (p.1, p.2) (
      press_of_lem a.starts.now a.codes.now a.cells.now a.floats.now a.key _ c.times_of-moment.ensures
          c.keys_of-before.ensures c.in_err-count.ensures same refl,
      none_put,
    )

pub returns : goal.returns
returns g c =
    let a = c.args in
    let put = c.put_count.ensures a.floats.now in (
      press_of_lem a.starts.now a.codes.now a.cells.now a.floats.now a.key _ c.times_of-moment.ensures
          c.keys_of-before.ensures c.in_ok-count.ensures put.parts refl,
      done_answered refl put.packed,
    )
