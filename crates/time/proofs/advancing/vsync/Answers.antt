use Rattle.time.proofs.Clockwork.{vsync_stays, vsync_went}
use Rattle.state.specs.Bank.{parts_in}
use Rattle.time.proofs.advancing.vsync.Goals as goal

pub returns-then-s-last : goal.returns-then-s-last
returns-then-s-last c f =
    let a = c.args in
    let x = parts_in a.cells.now f in
    let stays =
    vsync_stays a.slots.now x a.time c.own_reg-status.ensures c.vsync_of-last.ensures c.vsync-s.ensures
    c.if-s-last.true in
    (stays, λ k. k)

pub returns : goal.returns
returns c f =
    let a = c.args in
    let x = parts_in a.cells.now f in (
      vsync_went a.slots.now x a.time c.own_reg-status.ensures
          c.vsync_of-last.ensures c.vsync-s.ensures c.own_insert.ensures (c.put_vsync.ensures f).parts,
      (c.put_vsync.ensures f).packed,
    )
