use Rattle.std.proofs.Common.{lt-ltb, le-ltb, arith}
use Rattle.whole.proofs.Choice.{by_less}
use Rattle.timer.specs.Events.{fit_of}
use Rattle.timer.proofs.events.fit_in.Goals as goal

pub returns : goal.returns
unfolding fit_of
returns c =
    let a = c.args in
    by_less a.ring.count a.room
    (λ less. rw (lt-ltb _ _ less) (omega arith))
    (λ past. rw (le-ltb _ _ past) (omega arith))
