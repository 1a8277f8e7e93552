use Rattle.time.proofs.Clockwork.{irq_stays, irq_went}
use Rattle.state.specs.Bank.{parts_in}
use Rattle.time.proofs.advancing.rtc_irq_advance.Goals as goal

pub returns-then-t-irq : goal.returns-then-t-irq
returns-then-t-irq c =
    let a = c.args in
    let x = parts_in a.cells.now a.floats.now in
    let stays =
    irq_stays a.slots.now x a.game c.own_reg-status.ensures c.irq_of-irq.ensures c.rtc_irq_advance-t.ensures
    c.if-t-irq.true in
    (stays, λ k. k)

pub returns : goal.returns
returns c =
    let a = c.args in
    let x = parts_in a.cells.now a.floats.now in (
      irq_went a.slots.now x a.game c.own_reg-status.ensures
          c.irq_of-irq.ensures c.rtc_irq_advance-t.ensures c.own_insert.ensures
          c.put_irq.ensures.parts,
      c.put_irq.ensures.packed,
    )
