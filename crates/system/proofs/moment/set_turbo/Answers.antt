use Rattle.std.proofs.lemmas.Result.{err_from_is_err_and}
use Rattle.system.proofs.Banks.{turbo_done}
use Rattle.system.proofs.Stays.{turbo_stays}
use Rattle.system.proofs.moment.set_turbo.Goals as goal

pub returns-in_err-set_turbo : goal.returns-in_err-set_turbo
returns-in_err-set_turbo g c =
    let a = c.args in
    let r = c.in_err-set_turbo.field-0.0 in
    let p = err_from_is_err_and c.from_residual.result c.from_residual.ensures.1 in
    rw (p.1, p.2) (turbo_stays a.s r _ (turbo_done a.s _ c.of-bank.ensures (c.in_err-set_turbo.ensures _).0))

pub returns : goal.returns
returns g c =
    let a = c.args in
    rw c.put_back.ensures (turbo_done a.s _ c.of-bank.ensures (c.in_ok-set_turbo.ensures _).0)
