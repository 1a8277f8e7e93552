-- Each example of the table holds.
use mathlib.Core.Path.{refl}
use Rattle.whole.specs.Table.{All}
use Rattle.memory.specs.Access.{shifted, span_of, mask_of, written_of, merged_of}
use Rattle.memory.specs.Table.{table}

pub judged : All table
unfolding merged_of written_of mask_of shifted span_of
judged = (refl, (refl, tt))
