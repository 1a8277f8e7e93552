use Rattle.std.proofs.lemmas.Result.{err_from_is_err_and}
use Rattle.std.proofs.Common.{refl}
use Rattle.state.proofs.Packs.{done_answered, none_put}
use Rattle.state.specs.Bank.{parts_in}
use Rattle.time.proofs.Asks.{hold_of_lem}
use Rattle.time.proofs.buttons.hold_until.Goals as goal

pub returns-in_err-until : goal.returns-in_err-until
returns-in_err-until g c =
    let a = c.args in
    let p = err_from_is_err_and c.from_residual.result c.from_residual.ensures.1 in
    rw (p.1, p.2) (hold_of_lem (parts_in a.cells.now a.floats.now) a.key _ c.in_err-until.ensures (refl, none_put))

pub returns : goal.returns
returns g c =
    let a = c.args in
    let put = c.put_hold.ensures a.cells.now in
    hold_of_lem (parts_in a.cells.now a.floats.now) a.key _ c.in_ok-until.ensures
    (rw put.parts, done_answered refl put.packed)
