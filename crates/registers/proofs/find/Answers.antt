use Rattle.std.proofs.Common.{◌∙◌}
use Rattle.registers.proofs.Cases.{spot_own, spot_other}
use Rattle.registers.proofs.find.Goals as goal

pub returns-then-s-lt76 : goal.returns-then-s-lt76
returns-then-s-lt76 c = spot_own _ _ _ c.slot-s.ensures c.if-s-lt76.true

pub returns : goal.returns
returns c = c.find_other.ensures ∙ spot_other _ _ _ c.slot-s.ensures c.if-s-lt76.false
