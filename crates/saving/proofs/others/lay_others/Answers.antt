use Rattle.std.proofs.Common.{ℕ, ◌-◌, ◌≡◌, ap, arith, get_or}
use Rattle.saving.proofs.Laid.{rows_start, rows_next, rows_space, rows_all}
use Rattle.session.specs.Sections.{other_row, other_bytes}
use Rattle.saving.proofs.others.lay_others.Goals as goal

pub loop-i-init : goal.loop-i-init
loop-i-init c = rows_start _ _ _ _ (omega arith)

pub lay_other-next-requires : goal.lay_other-next-requires
unfolding other_bytes
lay_other-next-requires c =
    let place : c.loop-i.i - 1 ≡ c.args.n - 1 - (c.args.n - c.loop-i.i)
    = omega (arith, c.loop-i.auto.i, c.loop-i-test.true) in
    rows_space _ c.loop-i.invariant
    (ap (λ (k : ℕ). other_row (get_or c.args.addresses.now k 0) (get_or c.args.values.now k 0)) place) _ (omega arith)
    c.requires.0

pub loop-i-preserved : goal.loop-i-preserved
loop-i-preserved c =
    let place : c.loop-i.i - 1 ≡ c.args.n - 1 - (c.args.n - c.loop-i.i)
    = omega (arith, c.loop-i.auto.i, c.loop-i-test.true) in
    rows_next _ c.loop-i.invariant
    (ap (λ (k : ℕ). other_row (get_or c.args.addresses.now k 0) (get_or c.args.values.now k 0)) place) _ (omega arith)
    c.lay_other-next.ensures

pub returns : goal.returns
unfolding other_bytes
returns c = rows_all _ c.loop-i.invariant _ (omega arith) (omega arith)
