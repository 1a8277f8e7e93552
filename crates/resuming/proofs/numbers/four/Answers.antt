use Rattle.session.specs.Fields.{span}
use Rattle.resuming.proofs.numbers.four.Goals as goal

pub overflow_cast-result : goal.overflow_cast-result
unfolding span
overflow_cast-result c = record { fits = c.number.ensures.1 }
