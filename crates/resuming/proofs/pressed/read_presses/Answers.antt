use Rattle.std.proofs.Common.{ℕ, ap, ◌∙◌, arith}
use Rattle.resuming.proofs.Tables.{first_none, first_more, first_all}
use Rattle.whole.specs.Forms.{nought}
use Rattle.session.specs.Read.{start_in, code_in, starts_in, codes_in}
use lib.Ieee.{binary64, of_bits}
use Rattle.resuming.proofs.pressed.read_presses.Goals as goal

pub loop-i-init : goal.loop-i-init
loop-i-init c = (first_none _ nought 64, first_none _ 0 64)

pub loop-i-preserved : goal.loop-i-preserved
loop-i-preserved c = (
  first_more _ nought 64 c.loop-i.invariant.0 (omega arith)
      (c.float_of.ensures ∙ ap (λ (k : ℕ). of_bits binary64 k) c.number.ensures.0),
  first_more _ 0 64 c.loop-i.invariant.1 (omega arith) c.byte.ensures,
)

pub returns : goal.returns
unfolding starts_in codes_in start_in code_in
returns c = (
  first_all _ nought 64 c.args.k c.loop-i.invariant.0 (omega arith),
  first_all _ 0 64 c.args.k c.loop-i.invariant.1 (omega arith),
)
