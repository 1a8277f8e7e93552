use Rattle.std.proofs.Common.{ℕ, ap, ◌∙◌, arith}
use Rattle.resuming.proofs.Tables.{first_none, first_more, first_all}
use Rattle.whole.specs.Forms.{nought}
use Rattle.session.specs.Read.{column_at, column_in}
use lib.Ieee.{binary64, of_bits}
use Rattle.resuming.proofs.sounds.read_column.Goals as goal

pub loop-i-init : goal.loop-i-init
loop-i-init c = first_none _ nought 256

pub loop-i-preserved : goal.loop-i-preserved
loop-i-preserved c =
    first_more _ nought 256 c.loop-i.invariant (omega arith)
    (c.float_of.ensures ∙ ap (λ (k : ℕ). of_bits binary64 k) c.number.ensures.0)

pub returns : goal.returns
unfolding column_in column_at
returns c = first_all _ nought 256 c.args.e c.loop-i.invariant (omega arith)
