use Rattle.std.proofs.Common.{refl}
use Rattle.std.proofs.lemmas.Result.{err_from_is_err_and}
use Rattle.system.proofs.Banks.{read_done}
use Rattle.system.proofs.Stays.{read_stays}
use Rattle.system.proofs.access.read.Goals as goal

pub returns-in_err-value : goal.returns-in_err-value
returns-in_err-value c =
    let a = c.args in
    let r = c.in_err-value.field-0.0 in
    let p = err_from_is_err_and c.from_residual.result c.from_residual.ensures.1 in
    rw (p.1, p.2) (read_stays a.s r a.ram.now a.sram.now a.gpio.now a.addr a.size _ (read_done a.s a.ram.now
    a.sram.now a.gpio.now a.addr a.size c.of-bank.ensures c.in_err-value.ensures refl))

pub returns : goal.returns
returns c =
    let a = c.args in
    read_done a.s a.ram.now a.sram.now a.gpio.now a.addr a.size c.of-bank.ensures c.in_ok-value.ensures
    c.with_slots.ensures
