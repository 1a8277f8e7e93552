use Rattle.std.proofs.Common.{◌∙◌, ap, set}
use Rattle.registers.proofs.Loops.{down_past, down_copied}
use Rattle.registers.proofs.shift_down.Goals as goal

pub returns-then-at-end : goal.returns-then-at-end
returns-then-at-end c = record {
  addresses_after = down_past _ _ c.told-addresses c.requires _ _ c.if-at-end.true;
  values_after = down_past _ _ c.told-values c.requires _ _ c.if-at-end.true;
}

pub returns : goal.returns
returns c =
    let a = c.args in record {
      addresses_after = ap (λ m. set m a.at a.addr) c.copy_within.ensures.after
          ∙ down_copied _ _ c.told-addresses c.requires a.at _ c.if-at-end.false;
      values_after = ap (λ m. set m a.at a.value) c.copy_within-2.ensures.after
          ∙ down_copied _ _ c.told-values c.requires a.at _ c.if-at-end.false;
    }
