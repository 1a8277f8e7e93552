use Rattle.std.proofs.Common.{◌≡◌}
use Rattle.panel.specs.Colour.{over}
use Rattle.panel.proofs.Drawn.{first}
use Rattle.panel.proofs.colour.screen.Given as goal

abbrev pub invariant-loop-i : goal.invariant-loop-i
invariant-loop-i l = l.out ≡ over (first l.i l.fb) l.initial.out
