-- Each example of the table holds.
use mathlib.Core.Path.{refl}
use lib.Ieee.{of_bits, of_int, sub, mul, div, lt, to_unsigned}
use Rattle.whole.specs.Table.{All}
use Rattle.timer.specs.Timers.{sysclk_of, rate_of, elapsed_of, written_of, advanced_of, counter_of}
use Rattle.timer.specs.Table.{table}

pub judged : All table
unfolding written_of advanced_of counter_of elapsed_of rate_of sysclk_of of_bits of_int sub mul div lt to_unsigned
judged = (refl, (refl, (refl, (refl, tt))))
