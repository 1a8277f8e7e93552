use Rattle.std.proofs.Common.{refl}
use Rattle.panel.proofs.Cases.{counts_frame}
use Rattle.panel.proofs.lcd.count_frame.Goals as goal

pub returns : goal.returns
returns c = counts_frame _ _ refl
