use Rattle.std.proofs.Common.{not, ap}
use Rattle.time.proofs.Clockwork.{adc_stays, adc_went}
use Rattle.state.specs.Bank.{parts_in}
use Rattle.time.proofs.advancing.adc_advance.Goals as goal

pub returns-then-not-converting : goal.returns-then-not-converting
returns-then-not-converting c f =
    let a = c.args in (
      adc_stays a.slots.now (parts_in a.cells.now f) c.converting_of-converting.ensures
          (ap not c.if-not-converting.true),
      λ k. k,
    )

pub returns : goal.returns
returns c f =
    let a = c.args in
    let x = parts_in a.cells.now f in (
      adc_went a.slots.now x c.own_reg-control.ensures
          c.own_reg-result.ensures c.converting_of-converting.ensures c.adc_advance-adc.ensures c.own_insert.ensures
          c.own_insert-2.ensures (c.put_converting.ensures f).parts,
      (c.put_converting.ensures f).packed,
    )
