use Rattle.std.proofs.Common.{◌+◌, ◌-◌, ◌≡◌, ap, ◌∙◌, length, take, drop, length-drop, arith}
use Rattle.std.proofs.lemmas.List.{get_or-take, get_or-drop, length-take-le}
use lib.Ieee.{Float, nan}
use Rattle.memory.specs.Bytes.{bytes_of}
use Rattle.whole.specs.Forms.{bits_of}
use Rattle.session.specs.Fields.{rows_of}
use Rattle.session.proofs.Digits.{length_bytes}
use Rattle.saving.proofs.Laid.{none_laid, rows_then, rows_fit, rows_all, laid_as}
use Rattle.session.specs.Sections.{float_bytes}
use Rattle.saving.proofs.runs.lay_floats.Goals as goal

pub loop-float-init : goal.loop-float-init
unfolding rows_of
loop-float-init c = none_laid _ _

pub put_float-next-requires : goal.put_float-next-requires
unfolding float_bytes
put_float-next-requires c =
    rows_fit _ c.loop-float.invariant 8 (λ j. length_bytes 8 _) c.args.n (omega arith) c.requires.0

pub loop-float-preserved : goal.loop-float-preserved
loop-float-preserved c =
    let from = c.args.from in
    let floats = c.args.floats.now in
    let part = drop from floats in
    let long : length (take (from + c.args.n - from) part) ≡ from + c.args.n - from
    = length-take-le _ part (rw length-drop (omega (arith, c.told-floats, c.requires.1))) in
    rows_then _ c.loop-float.invariant
    (laid_as c.put_float-next.ensures
    (ap (λ (x : Float). bytes_of 8 (bits_of x))
    (get_or-take _ part _ nan (omega (arith, long, c.loop-float-test.true)) ∙ get_or-drop from floats _ nan)))

pub returns : goal.returns
unfolding float_bytes
returns c = rows_all _ c.loop-float.invariant _ (omega arith) (omega arith)
