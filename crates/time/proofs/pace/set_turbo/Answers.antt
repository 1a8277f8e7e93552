use Rattle.std.proofs.lemmas.Result.{err_from_is_err_and}
use Rattle.std.proofs.Common.{refl}
use Rattle.state.proofs.Packs.{done_answered, none_put}
use Rattle.state.specs.Bank.{parts_in}
use Rattle.time.proofs.Asks.{paced_turbo, paced_of_lem, paced_by, paced_bad}
use Rattle.time.proofs.pace.set_turbo.Goals as goal

pub returns-in_err-paced : goal.returns-in_err-paced
returns-in_err-paced g c =
    λ l.
    let x = parts_in l c.args.floats.now in
    let p = err_from_is_err_and c.from_residual.result c.from_residual.ensures.1 in
    rw (p.1, p.2) (paced_of_lem x c.args.floats.now _ c.times_of-times.ensures c.in_err-paced.ensures
    (paced_bad x c.in_err-paced.field-0.0 refl, none_put))

pub returns : goal.returns
returns g c =
    λ l.
    let x = parts_in l c.args.floats.now in
    let alone = paced_turbo c.args.floats.now _ _ c.times_of-times.ensures c.in_ok-paced.ensures refl in
    paced_of_lem x c.args.floats.now _ c.times_of-times.ensures c.in_ok-paced.ensures
    (paced_by x _ refl alone (c.put_turbo.ensures l).parts, done_answered refl (c.put_turbo.ensures l).packed)
