use Rattle.time.proofs.Clockwork.{timer_stays, timer_stepped}
use Rattle.time.proofs.advancing.timer_advance.Goals as goal

pub returns-then-control-eq0 : goal.returns-then-control-eq0
returns-then-control-eq0 c =
    let a = c.args in
    let stays =
    timer_stays a.slots.now a.cells.now a.floats.now a.n a.time a.clock c.own_reg-control.ensures
    c.if-control-eq0.true in
    (stays, λ k. k)

pub returns : goal.returns
returns c =
    let a = c.args in (
      timer_stepped a.slots.now a.cells.now a.floats.now a.n a.time a.clock
          c.own_reg-control.ensures c.own_reg-reload.ensures c.timer_of-t.ensures c.advance-next.ensures
          c.put_timer.ensures.parts,
      c.put_timer.ensures.packed,
    )
