use Rattle.std.proofs.Common.{◌∙◌, lt-ltb, le-ltb}
use Rattle.whole.proofs.Flags.{from_bool-bit}
use Rattle.state.specs.Packed.{live_cells}
use Rattle.state.proofs.Puts.{live_put_lem}
use Rattle.state.proofs.rests.put_live.Goals as goal

pub returns-then-key-lt3 : goal.returns-then-key-lt3
unfolding live_cells
returns-then-key-lt3 c =
    λ f. live_put_lem c.args.cells.now c.told-cells f c.args.down c.args.key (rw
    ((c.from-on.ensures ∙ from_bool-bit _), lt-ltb _ 3 c.if-key-lt3.true))

pub returns-else-key-lt3 : goal.returns-else-key-lt3
unfolding live_cells
returns-else-key-lt3 c =
    λ f. live_put_lem c.args.cells.now c.told-cells f c.args.down c.args.key (rw
    (le-ltb _ 3 c.if-key-lt3.false))
