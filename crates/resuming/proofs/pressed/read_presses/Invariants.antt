use Rattle.std.proofs.Common.{◌+◌, ◌*◌, ◌≡◌}
use Rattle.resuming.proofs.Tables.{first}
use Rattle.whole.specs.Forms.{nought}
use Rattle.session.specs.Fields.{number}
use Rattle.session.specs.Read.{float_at}
use Rattle.resuming.proofs.pressed.read_presses.Given as goal

abbrev pub invariant-loop-i : goal.invariant-loop-i
invariant-loop-i l =
    (l.starts ≡ first (λ j. float_at l.s (l.from + 9 * j + 1)) nought l.i 64)
    × (l.codes ≡ first (λ j. number l.s (l.from + 9 * j) 1) 0 l.i 64)
