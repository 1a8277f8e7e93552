use Rattle.std.proofs.Common.{ℕ, ◌+◌, ◌-◌, ◌≡◌, ap, ◌∙◌, arith, get_or}
use Rattle.memory.specs.Bytes.{bytes_of}
use Rattle.session.proofs.Digits.{length_bytes}
use Rattle.session.specs.Layout.{width_at}
use Rattle.session.specs.Sections.{cell_bytes}
use Rattle.saving.proofs.Laid.{rows_start, rows_next, rows_space, rows_all, bytes_as}
use Rattle.saving.proofs.runs.lay_cells.Goals as goal

pub loop-i-init : goal.loop-i-init
loop-i-init c = rows_start _ _ _ _ (omega arith)

pub put-next-requires : goal.put-next-requires
unfolding cell_bytes
put-next-requires c =
    let place : c.loop-i.i ≡ c.args.from + (c.loop-i.i - c.args.from) = omega (arith, c.loop-i.auto) in
    let row = bytes_as (get_or c.args.cells.now c.loop-i.i 0) c.width.ensures.0
    ∙ ap (λ (k : ℕ). bytes_of (width_at k) (get_or c.args.cells.now k 0)) place in
    let fits = rows_space _ c.loop-i.invariant row c.args.n (omega arith) c.requires.0 in
    (omega (arith, fits, length_bytes c.width.result (get_or c.args.cells.now c.loop-i.i 0)), c.width.ensures.1)

pub loop-i-preserved : goal.loop-i-preserved
loop-i-preserved c =
    let place : c.loop-i.i ≡ c.args.from + (c.loop-i.i - c.args.from) = omega (arith, c.loop-i.auto) in
    rows_next _ c.loop-i.invariant
    (bytes_as (get_or c.args.cells.now c.loop-i.i 0) c.width.ensures.0
    ∙ ap (λ (k : ℕ). bytes_of (width_at k) (get_or c.args.cells.now k 0)) place) _ (omega arith) c.put-next.ensures

pub returns : goal.returns
unfolding cell_bytes
returns c = rows_all _ c.loop-i.invariant _ (omega arith) (omega arith)
