use Rattle.std.proofs.Common.{take, drop, ap}
use native.Mathlib.Nat.{add-sub_cancel_left}
use Rattle.block.proofs.Whole.{lies_before, lies_from}
use Rattle.block.proofs.part.Goals as goal

pub returns-in_err-at : goal.returns-in_err-at
returns-in_err-at c = rw c.from_residual.ensures (lies_before _ _ _ _ _ c.in_err-at.ensures)

pub returns-then-fits : goal.returns-then-fits
returns-then-fits c =
    let a = c.args in (
      lies_from _ _ _ _ _ _ c.in_ok-at.ensures c.fits.ensures c.fits-2.ensures c.if-fits.true,
      rw (add-sub_cancel_left c.in_ok-at.field-0 a.n)
          (ap (λ k. take a.n (drop k a.m.now)) c.in_ok-at.ensures.1),
    )

pub returns : goal.returns
returns c = lies_from _ _ _ _ _ _ c.in_ok-at.ensures c.fits.ensures c.fits-2.ensures c.if-fits.false
