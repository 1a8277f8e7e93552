use Rattle.std.proofs.lemmas.Result.{err_from_is_err_and}
use Rattle.system.proofs.Banks.{live_done}
use Rattle.system.proofs.Stays.{live_stays}
use Rattle.system.proofs.buttons.set_live.Goals as goal

pub returns-in_err-set_live : goal.returns-in_err-set_live
returns-in_err-set_live c =
    let a = c.args in
    let r = c.in_err-set_live.field-0.0 in
    let p = err_from_is_err_and c.from_residual.result c.from_residual.ensures.1 in
    rw (p.1, p.2) (live_stays a.s r a.key a.down
    (live_done a.s c.of-bank.ensures a.key a.down c.in_err-set_live.ensures.0))

pub returns : goal.returns
returns c =
    let a = c.args in
    rw c.put_back.ensures (live_done a.s c.of-bank.ensures a.key a.down c.in_ok-set_live.ensures.0)
