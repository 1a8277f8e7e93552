use Rattle.std.proofs.Common.{refl, sym, ap, ◌∙◌, true≢false}
use Rattle.bus.proofs.BankedWrites.{noted_put, noted_none}
use Rattle.state.specs.Bank.{parts_in}
use Rattle.state.specs.Parts.{ring_put}
use Rattle.bus.proofs.write.note.Goals as goal

pub returns-then-event : goal.returns-then-event
returns-then-event c =
    let a = c.args in
    let x = parts_in a.cells.now a.floats.now in
    let p = c.put_ring.ensures a.floats.now in
    let n = noted_put a.onsets.now a.frequencies.now a.duties.now x c.if-event.true c.ring_of-ring.ensures
    c.times_of-times.ensures c.tone_of-tone.ensures
    c.put_in-later.ensures (p.parts ∙ ap (λ q. ring_put x q) c.unwrap_or.ensures)
    in
    (n.0, n.1, p.packed, λ h. absurd (true≢false (sym c.if-event.true ∙ h)))

pub returns-else-event : goal.returns-else-event
returns-else-event c =
    let a = c.args in
    let x = parts_in a.cells.now a.floats.now in
    let n = noted_none a.onsets.now a.frequencies.now a.duties.now x c.if-event.false in
    (n.0, n.1, λ k. k, λ h. refl)
