use Rattle.std.proofs.lemmas.Result.{err_from_is_err_and}
use Rattle.system.proofs.Banks.{take_done}
use Rattle.system.proofs.Stays.{take_stays}
use Rattle.system.proofs.moment.take_event.Goals as goal

pub returns-in_err-event : goal.returns-in_err-event
returns-in_err-event c =
    let a = c.args in
    let r = c.in_err-event.field-0.0 in
    let p = err_from_is_err_and c.from_residual.result c.from_residual.ensures.1 in
    rw (p.1, p.2) (take_stays a.s r _ (take_done a.s c.of-bank.ensures (c.in_err-event.ensures _).0))

pub returns : goal.returns
returns c =
    let a = c.args in
    rw (c.with_parts-next.ensures, c.parts-parts.ensures) (take_done a.s c.of-bank.ensures
    (c.in_ok-event.ensures _).0)
