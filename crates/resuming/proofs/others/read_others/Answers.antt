use Rattle.std.proofs.Common.{ℕ, ap, ◌∙◌, arith}
use Rattle.resuming.proofs.Tables.{first_none, first_more, first_all}
use Rattle.session.specs.Fields.{number}
use Rattle.session.specs.Read.{place_in, places_in}
use Rattle.resuming.proofs.others.read_others.Goals as goal

pub loop-i-init : goal.loop-i-init
loop-i-init c = (first_none _ 0 256, first_none _ 0 256)

pub loop-i-preserved : goal.loop-i-preserved
loop-i-preserved c = (
  first_more _ 0 256 c.loop-i.invariant.0 (omega arith) c.four.ensures,
  first_more _ 0 256 c.loop-i.invariant.1 (omega arith)
      (c.four-in-loop-i.ensures ∙ ap (λ (k : ℕ). number c.args.s.now k 4) (omega arith)),
)

pub returns : goal.returns
unfolding places_in place_in
returns c = (
  first_all _ 0 256 c.args.n c.loop-i.invariant.0 (omega arith),
  first_all _ 0 256 c.args.n c.loop-i.invariant.1 (omega arith),
)
