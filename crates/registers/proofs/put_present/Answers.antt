use Rattle.std.proofs.Common.{refl}
use Rattle.registers.specs.Words.{end_of}
use Rattle.registers.proofs.Cases.{present_zero, present_some}
use Rattle.registers.proofs.Shifts.{set_past}
use Rattle.registers.proofs.put_present.Goals as goal

pub returns-then-value-eq0 : goal.returns-then-value-eq0
unfolding end_of
returns-then-value-eq0 c =
    present_zero _ _ _ _ _ _ c.if-value-eq0.true c.end_from-end.ensures.value
    c.shift_up.ensures.addresses_after
    c.shift_up.ensures.values_after

pub returns-then-i-lt256 : goal.returns-then-i-lt256
returns-then-i-lt256 c = present_some _ _ _ _ c.if-value-eq0.false refl

pub returns-else-i-lt256 : goal.returns-else-i-lt256
returns-else-i-lt256 c =
    present_some _ _ _ _ c.if-value-eq0.false (set_past _ _ _ c.told-values c.if-i-lt256.false _)
