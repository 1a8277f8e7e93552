-- `parse::number_at` meets its contract: after so many turns n is the number of so many digits.
use Rattle.std.proofs.Common.{◌≡◌}
use Rattle.lines.specs.Line.{number_at}
use Rattle.lines.proofs.parse.number_at.Given as goal

abbrev pub invariant-loop-byte : goal.invariant-loop-byte
invariant-loop-byte l = l.n ≡ number_at l.line l.from l.byte-index
