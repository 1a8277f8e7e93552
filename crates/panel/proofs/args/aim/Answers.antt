use Rattle.std.proofs.Common.{sym, arith}
use Rattle.panel.proofs.Cases.{aimed_columns, aimed_rows, aimed_not}
use Rattle.panel.proofs.args.aim.Goals as goal

pub returns-then-c-eq42 : goal.returns-then-c-eq42
returns-then-c-eq42 c = sym (aimed_columns _ _ _ _ (omega arith))

pub returns-then-c-eq43 : goal.returns-then-c-eq43
returns-then-c-eq43 c = sym (aimed_rows _ _ _ _ (omega arith) (omega arith))

pub returns : goal.returns
returns c = sym (aimed_not _ _ _ _ (omega arith) (omega arith))
