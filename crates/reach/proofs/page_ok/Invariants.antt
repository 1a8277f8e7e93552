use Rattle.std.proofs.Common.{◌≡◌}
use Rattle.reach.specs.Reach.{page_ok}
use Rattle.reach.proofs.page_ok.Given as goal

abbrev pub invariant-loop-i : goal.invariant-loop-i
invariant-loop-i l = l.good ≡ page_ok l.t l.page l.i
