use Rattle.std.proofs.Common.{ℕ, ap, get_or, false, arith, refl}
use Rattle.runner.proofs.Runs.{kind_is}
use Rattle.runner.proofs.format.kind_at.Goals as goal

pub returns : goal.returns
returns c =
    kind_is c.args.table.now c.args.script.now c.args.at c.requires (omega (
      arith,
      c.type_inv.script c.args.at,
    )) (ap (λ (k : ℕ). get_or c.args.table.now k false) c.from.ensures)
