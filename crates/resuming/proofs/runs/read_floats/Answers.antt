use Rattle.std.proofs.Common.{ℕ, ap, ◌∙◌, arith}
use Rattle.resuming.proofs.Cells.{floats_start, floats_on, floats_all}
use lib.Ieee.{binary64, of_bits}
use Rattle.resuming.proofs.runs.read_floats.Goals as goal

pub loop-i-init : goal.loop-i-init
loop-i-init c = floats_start _ _ _ _ _ (omega arith)

pub loop-i-preserved : goal.loop-i-preserved
loop-i-preserved c =
    floats_on c.loop-i.invariant (omega (arith, c.loop-i.auto))
    (c.float_of.ensures ∙ ap (λ (k : ℕ). of_bits binary64 k) c.number.ensures.0) (omega arith)

pub returns : goal.returns
returns c = floats_all c.loop-i.invariant _ (omega arith) (omega arith)
