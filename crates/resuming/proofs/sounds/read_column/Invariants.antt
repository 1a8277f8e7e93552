use Rattle.std.proofs.Common.{◌+◌, ◌*◌, ◌≡◌}
use Rattle.resuming.proofs.Tables.{first}
use Rattle.whole.specs.Forms.{nought}
use Rattle.session.specs.Read.{float_at}
use Rattle.resuming.proofs.sounds.read_column.Given as goal

abbrev pub invariant-loop-i : goal.invariant-loop-i
invariant-loop-i l = l.l ≡ first (λ j. float_at l.s (l.from + 24 * j)) nought l.i 256
