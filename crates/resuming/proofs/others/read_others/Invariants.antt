use Rattle.std.proofs.Common.{◌+◌, ◌-◌, ◌*◌, ◌≡◌}
use Rattle.resuming.proofs.Tables.{first}
use Rattle.session.specs.Fields.{number}
use Rattle.resuming.proofs.others.read_others.Given as goal

abbrev pub invariant-loop-i : goal.invariant-loop-i
invariant-loop-i l =
    (l.addresses ≡ first (λ j. number l.s (366 + 8 * (l.n - 1 - j)) 4) 0 l.i 256)
    × (l.values ≡ first (λ j. number l.s (370 + 8 * (l.n - 1 - j)) 4) 0 l.i 256)
