use Rattle.std.proofs.lemmas.Result.{err_from_is_err_and}
use Rattle.timer.proofs.Waiting.{put_stays}
use Rattle.timer.proofs.events.put.Goals as goal

pub returns-in_err-ring : goal.returns-in_err-ring
returns-in_err-ring c =
    let p = err_from_is_err_and c.from_residual.result c.from_residual.ensures.1 in
    rw (p.1, p.2) (put_stays c.args.queue c.in_err-ring.field-0.0 _ c.args.event c.in_err-ring.ensures)
