use Rattle.std.proofs.lemmas.Result.{err_from_is_err_and}
use Rattle.system.proofs.Banks.{hold_done}
use Rattle.system.proofs.Stays.{hold_stays}
use Rattle.system.proofs.buttons.hold_until.Goals as goal

pub returns-in_err-hold_until : goal.returns-in_err-hold_until
returns-in_err-hold_until g c =
    let a = c.args in
    let r = c.in_err-hold_until.field-0.0 in
    let p = err_from_is_err_and c.from_residual.result c.from_residual.ensures.1 in
    rw (p.1, p.2) (hold_stays a.s r a.key _ (hold_done a.s c.of-bank.ensures a.key _ c.in_err-hold_until.ensures.0))

pub returns : goal.returns
returns g c =
    let a = c.args in
    rw c.put_back.ensures (hold_done a.s c.of-bank.ensures a.key _ c.in_ok-hold_until.ensures.0)
