use Rattle.std.proofs.lemmas.Result.{err_from_is_err_and}
use Rattle.system.proofs.Banks.{press_done}
use Rattle.system.proofs.Stays.{press_stays}
use Rattle.system.proofs.buttons.press.Goals as goal

pub returns-in_err-press : goal.returns-in_err-press
returns-in_err-press g c =
    let a = c.args in
    let r = c.in_err-press.field-0.0 in
    let p = err_from_is_err_and c.from_residual.result c.from_residual.ensures.1 in
    rw (p.1, p.2) (press_stays a.s r a.key _ (press_done a.s a.key _ c.of-bank.ensures c.in_err-press.ensures.0))

pub returns : goal.returns
returns g c =
    let a = c.args in
    rw c.put_back-system.ensures (press_done a.s a.key _ c.of-bank.ensures c.in_ok-press.ensures.0)
