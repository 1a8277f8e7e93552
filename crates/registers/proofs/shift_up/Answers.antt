use Rattle.std.proofs.Common.{◌∙◌, ap, set}
use Rattle.registers.proofs.Loops.{up_past, up_copied}
use Rattle.registers.proofs.shift_up.Goals as goal

pub returns-then-at-end : goal.returns-then-at-end
returns-then-at-end c = record {
  addresses_after = up_past _ _ c.told-addresses c.requires _ c.if-at-end.true;
  values_after = up_past _ _ c.told-values c.requires _ c.if-at-end.true;
}

pub returns : goal.returns
returns c =
    let a = c.args in record {
      addresses_after = ap (λ m. set m a.end 0) c.copy_within.ensures.after
          ∙ up_copied _ _ c.told-addresses c.requires a.at c.if-at-end.false;
      values_after = ap (λ m. set m a.end 0) c.copy_within-2.ensures.after
          ∙ up_copied _ _ c.told-values c.requires a.at c.if-at-end.false;
    }
