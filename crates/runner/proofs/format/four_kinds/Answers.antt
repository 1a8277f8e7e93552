use Rattle.std.proofs.Common.{arith, ◌≡◌, ap, ◌∙◌, suc, ◌-◌}
use Rattle.runner.specs.Format.{kinds_from}
use Rattle.runner.proofs.Runs.{four_kinds}
use Rattle.runner.proofs.format.four_kinds.Goals as goal

pub returns : goal.returns
returns c =
    λ known n h. let s = c.args.script.now in
    let at = c.args.at in
    let z : n ≡ suc (suc (suc (suc (n - 4)))) = omega arith in ap (kinds_from s at) z ∙ four_kinds s at _ _ _ _ (n
    - 4) (omega arith) (omega arith) (omega arith) (omega arith) (c.kind_at-a.ensures known)
    (c.kind_at-b.ensures known) (c.kind_at-c.ensures known) (c.kind_at-d.ensures known)
