use Rattle.std.proofs.Common.{arith, ◌≡◌, ap, ◌∙◌, suc, ◌-◌, ◌+◌, ◌*◌}
use Rattle.runner.specs.Format.{step_bytes, kinds_from}
use Rattle.runner.proofs.Runs.{one_kind, more_kinds, no_kinds, all_kinds}
use Rattle.runner.proofs.format.few_kinds.Goals as goal

pub loop-i-init : goal.loop-i-init
loop-i-init c = λ known. all_kinds _ _ _ (omega arith) (omega arith)

pub loop-i-preserved : goal.loop-i-preserved
loop-i-preserved c =
    λ known. let i = c.loop-i.i in
    let at = c.args.from + step_bytes * i in
    let s = c.args.script.now in
    let z : c.args.n - i ≡ suc (c.args.n - (i + 1)) = omega arith in
    more_kinds s c.loop-i.good _ _ (c.loop-i.invariant known)
    (ap (kinds_from s at) z ∙ one_kind s at (c.args.from + step_bytes * (i + 1)) (c.args.n - (i + 1)) (omega arith)
    (c.kind_at-good.ensures known))

pub returns : goal.returns
returns c = λ known. no_kinds _ _ _ _ (omega arith) (c.loop-i.invariant known)
