use Rattle.std.proofs.Common.{◌≡◌}
use Rattle.keys.specs.declared.Held.{Held}
use Rattle.keys.specs.Live.{held_from}
use Rattle.keys.proofs.down.also_each.Given as goal

abbrev pub invariant-loop-i : goal.invariant-loop-i
invariant-loop-i l =
    (h : Held) → l.initial.held ≡ held_from l.starts l.codes h l.time l.from
    → l.held ≡ held_from l.starts l.codes h l.time l.i
