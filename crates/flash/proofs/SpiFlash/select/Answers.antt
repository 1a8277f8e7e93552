use Rattle.std.proofs.lemmas.Result.{err_from_is_err_and}
use Rattle.flash.proofs.Stays.{select_stays}
use Rattle.flash.proofs.SpiFlash.select.Goals as goal

pub returns-in_err-chip : goal.returns-in_err-chip
returns-in_err-chip c =
    let p = err_from_is_err_and c.from_residual.result c.from_residual.ensures.1 in
    rw (p.1, p.2) (select_stays c.args.self c.args.array.now c.in_err-chip.field-0.0 _ _ c.args.on
    c.in_err-chip.ensures)
