use Rattle.std.proofs.lemmas.Result.{err_from_is_err_and}
use Rattle.flash.proofs.Stays.{transfer_stays}
use Rattle.flash.proofs.SpiFlash.transfer.Goals as goal

pub returns-in_err-answer : goal.returns-in_err-answer
returns-in_err-answer c =
    let p = err_from_is_err_and c.from_residual.result c.from_residual.ensures.1 in
    rw (p.1, p.2) (transfer_stays c.args.self c.args.array.now c.in_err-answer.field-0.0 _ _ c.args.byte
    c.in_err-answer.ensures)
