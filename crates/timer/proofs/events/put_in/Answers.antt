use Rattle.std.proofs.Common.{sym}
use Rattle.timer.specs.Events.{queue_of}
use Rattle.timer.proofs.Waiting.{put_done, put_full}
use Rattle.timer.proofs.events.put_in.Goals as goal

pub returns-then-count-ge256 : goal.returns-then-count-ge256
returns-then-count-ge256 c =
    let a = c.args in
    sym (put_full (queue_of a.onsets.now a.frequencies.now a.duties.now a.ring) a.event
    c.if-count-ge256.true)

pub returns : goal.returns
returns c =
    let a = c.args in
    rw c.place-at.ensures
    (sym (put_done (queue_of a.onsets.now a.frequencies.now a.duties.now a.ring) a.event
    c.if-count-ge256.false))
