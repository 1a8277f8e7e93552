use Rattle.std.proofs.Common.{refl}
use Rattle.std.proofs.lemmas.Result.{err_from_is_err_and}
use Rattle.registers.specs.Words.{registers_of}
use Rattle.state.specs.Bank.{parts_in}
use Rattle.bus.proofs.BankedWrites.{write_noted, noted_none}
use Rattle.bus.proofs.write.write.Goals as goal

-- refused, nothing is noted
pub returns-in_err-answer : goal.returns-in_err-answer
returns-in_err-answer c =
    let a = c.args in
    let r = registers_of a.slots.now a.addresses.now a.values.now in
    let n = noted_none a.onsets.now a.frequencies.now a.duties.now (parts_in _ _) refl in
    let p = err_from_is_err_and c.from_residual.result c.from_residual.ensures.1 in
    rw (p.1, p.2) (write_noted r a.rtc.now a.page.now a.ram.now a.sram.now a.gpio.now a.fb.now
    a.cells.now a.floats.now a.onsets.now a.frequencies.now a.duties.now a.addr a.size a.value
    c.ring_of-ring.ensures c.full-full.ensures c.in_err-answer.ensures (n.0, n.1, λ k. k, λ h. refl))

pub returns : goal.returns
returns c =
    let a = c.args in
    let r = registers_of a.slots.now a.addresses.now a.values.now in
    write_noted r a.rtc.now a.page.now a.ram.now a.sram.now a.gpio.now a.fb.now
    a.cells.now a.floats.now a.onsets.now a.frequencies.now a.duties.now a.addr a.size a.value
    c.ring_of-ring.ensures c.full-full.ensures c.in_ok-answer.ensures c.note.ensures
