use Rattle.std.proofs.Common.{lt-ltb, le-ltb}
use Rattle.state.specs.Packed.{hold_floats}
use Rattle.state.proofs.Puts.{hold_put_lem}
use Rattle.state.proofs.rests.put_hold.Goals as goal

pub returns-then-key-lt3 : goal.returns-then-key-lt3
unfolding hold_floats
returns-then-key-lt3 c =
    λ l. hold_put_lem c.args.floats.now c.told-floats l c.args.until c.args.key (rw (lt-ltb
    _ 3 c.if-key-lt3.true))

pub returns-else-key-lt3 : goal.returns-else-key-lt3
unfolding hold_floats
returns-else-key-lt3 c =
    λ l. hold_put_lem c.args.floats.now c.told-floats l c.args.until c.args.key (rw (le-ltb
    _ 3 c.if-key-lt3.false))
