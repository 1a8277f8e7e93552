use Rattle.state.specs.Bank.{chip_in}
use Rattle.state.proofs.chips.chip_of.Goals as goal

pub returns : goal.returns
unfolding chip_in
returns c =
    rw (
      c.mode_of-mode.ensures,
      c.byte.ensures,
      c.byte-2.ensures,
      c.byte-3.ensures,
      c.byte-4.ensures,
      c.byte-5.ensures,
    )
