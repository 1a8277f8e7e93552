use Rattle.std.proofs.Common.{eq-eqb, ne_eqb}
use Rattle.flash.specs.Finish.{act_of}
use Rattle.flash.proofs.finish.decide.Goals as goal

pub returns-then-t-eq0 : goal.returns-then-t-eq0
unfolding act_of
returns-then-t-eq0 c = simp (eq-eqb _ _ c.if-t-eq0.true)

pub returns-then-ok : goal.returns-then-ok
unfolding act_of
returns-then-ok c =
    rw (
      ne_eqb _ _ c.if-t-eq0.false,
      ← c.order-act.ensures,
      ←
          c.guard-ok.ensures,
      c.if-ok.true,
    )

pub returns : goal.returns
unfolding act_of
returns c =
    rw (
      ne_eqb _ _ c.if-t-eq0.false,
      ← c.order-act.ensures,
      ←
          c.guard-ok.ensures,
      c.if-ok.false,
    )
