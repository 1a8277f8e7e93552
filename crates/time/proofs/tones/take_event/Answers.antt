use Rattle.std.proofs.lemmas.Result.{err_from_is_err_and}
use Rattle.std.proofs.Common.{refl}
use Rattle.state.proofs.Packs.{done_answered, none_put}
use Rattle.whole.proofs.Answered.{code_not_done}
use Rattle.time.proofs.Asks.{take_of_lem, ring_still}
use Rattle.time.proofs.tones.take_event.Goals as goal

pub returns-in_err-event : goal.returns-in_err-event
returns-in_err-event c =
    λ f.
    let a = c.args in
    let same = ring_still a.onsets.now a.frequencies.now a.duties.now a.cells.now f c.ring_of-ring.ensures
    c.in_err-event.ensures (code_not_done c.in_err-event.field-0.0) in
    let p = err_from_is_err_and c.from_residual.result c.from_residual.ensures.1 in
    rw (p.1, p.2) (
      take_of_lem a.onsets.now a.frequencies.now a.duties.now a.cells.now f c.ring_of-ring.ensures
          c.in_err-event.ensures same refl,
      none_put,
    )

pub returns : goal.returns
returns c =
    λ f.
    let a = c.args in
    let put = c.put_ring.ensures f in (
      take_of_lem a.onsets.now a.frequencies.now a.duties.now a.cells.now f c.ring_of-ring.ensures
          c.in_ok-event.ensures put.parts refl,
      done_answered refl put.packed,
    )
