use Rattle.std.proofs.Common.{sym, arith}
use Rattle.panel.proofs.Cases.{commanded_start, commanded_stay}
use Rattle.panel.proofs.lcd.command.Goals as goal

pub returns-then-c-eq44 : goal.returns-then-c-eq44
returns-then-c-eq44 c = sym (commanded_start _ _ (omega arith))

pub returns-else-c-eq44 : goal.returns-else-c-eq44
returns-else-c-eq44 c = sym (commanded_stay _ _ (omega arith))
