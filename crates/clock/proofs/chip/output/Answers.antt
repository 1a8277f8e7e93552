use Rattle.std.proofs.Common.{refl, ◌∙◌, arith}
use Rattle.clock.proofs.Cases.{puts_first, puts_low, puts_high, puts_ticks}
use Rattle.clock.proofs.chip.output.Goals as goal
use Rattle.clock.proofs.chip.output.Goals.{in_default-via-then-at-lt48, in_default-via-else-at-lt48+else-at-lt54}

pub returns-in-0 : goal.returns-in-0
returns-in-0 c =
    let a = c.args in
    c.from.ensures ∙ puts_first a.latch a.regs.now a.game a.at _ refl c.in-0.is

pub returns-in-48-to-53 : goal.returns-in-48-to-53
returns-in-48-to-53 c =
    let a = c.args in
    puts_ticks a.latch a.regs.now a.game a.at _ c.ticks.ensures (omega arith) (omega arith)

pub returns-in_default : goal.returns-in_default
returns-in_default c =
    let a = c.args in
    elim c.in_default.branch [
      | in_default-via-then-at-lt48 w ↦
          puts_low a.latch a.regs.now a.game a.at _ c.from-in_default.ensures (λ z. omega arith) (omega arith)
      | in_default-via-else-at-lt48+else-at-lt54 w ↦
          puts_high a.latch a.regs.now a.game a.at _ c.from-in_default.ensures (λ z. omega arith) (omega arith)
    ]
