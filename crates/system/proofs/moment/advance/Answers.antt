use Rattle.std.proofs.lemmas.Result.{err_from_is_err_and}
use Rattle.system.proofs.Banks.{advance_done}
use Rattle.system.proofs.Stays.{advance_stays}
use Rattle.system.proofs.moment.advance.Goals as goal

pub returns-in_err-advance : goal.returns-in_err-advance
returns-in_err-advance g c =
    let a = c.args in
    let r = c.in_err-advance.field-0.0 in
    let p = err_from_is_err_and c.from_residual.result c.from_residual.ensures.1 in
    rw (p.1, p.2) (advance_stays a.s r a.sram.now a.gpio.now _ _ (advance_done a.s a.sram.now a.gpio.now _
    c.of-bank.ensures c.in_err-advance.ensures.0))

pub returns : goal.returns
returns g c =
    let a = c.args in
    rw (c.put_back.ensures, c.with_slots.ensures)
    (advance_done a.s a.sram.now a.gpio.now _ c.of-bank.ensures c.in_ok-advance.ensures.0)
