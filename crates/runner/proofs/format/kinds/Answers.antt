use Rattle.std.proofs.Common.{arith, ap, ◌∙◌, Bool, ◌&&◌}
use Rattle.runner.proofs.Runs.{more_kinds}
use Rattle.runner.proofs.format.kinds.Goals as goal

pub loop-left-preserved : goal.loop-left-preserved
loop-left-preserved c = (
  omega (arith, c.loop-left-test.true),
  omega (arith, c.loop-left.invariant.1, c.loop-left-test.true),
  more_kinds c.args.script.now c.loop-left.good c.four_kinds-good.result _ c.loop-left.invariant.2
      (c.four_kinds-good.ensures c.known_kinds-table.ensures c.loop-left.left c.loop-left-test.true),
)

pub returns : goal.returns
returns c =
    ap (λ (x : Bool). c.loop-left.good && x) (c.few_kinds.ensures c.known_kinds-table.ensures) ∙
    c.loop-left.invariant.2
