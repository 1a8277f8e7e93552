-- Each example of the table holds.
use Rattle.std.proofs.Common.{refl}
use lib.Ieee.{of_bits, of_int, add, sub, to_signed}
use Rattle.whole.specs.Table.{All}
use Rattle.clock.specs.Rtc.{fresh_rtc, six_bytes, commanded_of}
use Rattle.clock.specs.Day.{tod_of, field_of, set_of}
use Rattle.clock.specs.Table.{table}

pub judged : All table
unfolding fresh_rtc six_bytes commanded_of tod_of field_of set_of of_bits of_int add sub to_signed
judged = (refl, (refl, (refl, tt)))
