use Rattle.std.proofs.lemmas.Result.{err_from_is_err_and}
use Rattle.timer.specs.Events.{nothing}
use Rattle.timer.proofs.Waiting.{take_stays}
use Rattle.timer.proofs.events.take.Goals as goal

pub returns-in_err-event : goal.returns-in_err-event
returns-in_err-event c =
    let p = err_from_is_err_and c.from_residual.result c.from_residual.ensures.1 in
    rw (p.1, p.2) (take_stays c.args.queue c.in_err-event.field-0.0 _ nothing c.in_err-event.ensures)
