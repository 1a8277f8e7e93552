use Rattle.std.proofs.lemmas.Result.{err_from_is_err_and}
use Rattle.system.specs.System.{machine}
use Rattle.system.proofs.Banks.{write_done}
use Rattle.system.proofs.Stays.{write_stays}
use Rattle.system.proofs.access.write.Goals as goal

pub returns-in_err-write : goal.returns-in_err-write
returns-in_err-write c =
    let a = c.args in
    let r = c.in_err-write.field-0.0 in
    let p = err_from_is_err_and c.from_residual.result c.from_residual.ensures.1 in
    rw (p.1, p.2) (write_stays (machine a.s a.ram.now a.sram.now a.gpio.now a.fb.now) r a.addr a.size a.value
    (write_done (machine a.s a.ram.now a.sram.now a.gpio.now a.fb.now) a.addr a.size a.value
    c.of-bank.ensures c.in_err-write.ensures.0 c.in_err-write.ensures.1))

pub returns : goal.returns
returns c =
    let a = c.args in
    rw c.parts-parts.ensures (write_done (machine a.s a.ram.now a.sram.now a.gpio.now a.fb.now) a.addr a.size
    a.value c.of-bank.ensures c.in_ok-write.ensures.0 c.in_ok-write.ensures.1)
