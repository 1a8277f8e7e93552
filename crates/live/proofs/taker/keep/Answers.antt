use Rattle.std.proofs.Common.{refl, sym, ne_eqb}
use Rattle.live.proofs.taker.keep.Goals as goal

pub returns-then-count-eq0 : goal.returns-then-count-eq0
returns-then-count-eq0 c =
    (sym c.if-count-eq0.true, (λ f. (rw c.if-count-eq0.true, (λ k. k))))

pub returns : goal.returns
returns c = (
  refl,
  (λ f. (
    rw (ne_eqb _ _ c.if-count-eq0.false) (c.put_ring.ensures f).parts,
    (c.put_ring.ensures f
        ).packed,
  )),
)
