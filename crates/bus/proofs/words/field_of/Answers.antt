use Rattle.std.proofs.Common.{arith}
use Rattle.bus.proofs.Slots.{day_least}
use Rattle.bus.proofs.words.field_of.Goals as goal

pub overflow_sub-result : goal.overflow_sub-result
overflow_sub-result c =
    omega (arith, day_least _ c.requires)
