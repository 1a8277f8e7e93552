-- Each example of the table holds.
use Rattle.std.proofs.Common.{refl}
use Rattle.whole.specs.Table.{All}
use Rattle.panel.specs.Colour.{parted}
use Rattle.panel.specs.Table.{table}

pub judged : All table
unfolding parted
judged = (refl, tt)
