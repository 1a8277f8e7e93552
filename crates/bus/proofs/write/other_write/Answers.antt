use Rattle.std.proofs.Common.{refl, sym, ◌∙◌}
use Rattle.std.proofs.lemmas.Result.{err_from_is_err_and}
use Rattle.registers.specs.Words.{registers_of}
use Rattle.state.specs.Bank.{parts_in}
use Rattle.bus.proofs.BankedWords.{only_put, done_number, quiet, rest_put, rest_none}
use Rattle.bus.proofs.BankedWrites.{other_day, other_none, other_put_present, other_put_absent, other_own}
use Rattle.bus.proofs.write.other_write.Goals as goal

pub field_of-requires : goal.field_of-requires
field_of-requires c =
    sym c.day_word.ensures ∙ c.if-day_word.true

pub returns-then-day_word : goal.returns-then-day_word
returns-then-day_word c =
    let a = c.args in
    let r = registers_of a.slots.now a.addresses.now a.values.now in
    let x = parts_in a.cells.now a.floats.now in
    let p = c.tod_write.ensures in (
      other_day r x a.word c.requires
          c.day_word.ensures a.addr a.size
          a.value c.if-day_word.true c.accepted.ensures
          c.merged.ensures c.field_of.ensures p.0,
      rest_put (done_number c.accepted.ensures) (only_put p.0) p.1,
    )

pub returns-in-Own : goal.returns-in-Own
returns-in-Own c =
    let a = c.args in
    let r = registers_of a.slots.now a.addresses.now a.values.now in
    let x = parts_in a.cells.now a.floats.now in
    absurd (other_own r x a.word c.requires
    c.day_word.ensures a.addr a.size a.value
    c.if-day_word.false c.find_other-spot.ensures
    c.in-Own.is)

pub returns-in-Never : goal.returns-in-Never
returns-in-Never c =
    let a = c.args in
    let r = registers_of a.slots.now a.addresses.now a.values.now in
    let x = parts_in a.cells.now a.floats.now in (
      other_none r x a.word c.requires
          c.day_word.ensures a.addr a.size a.value
          c.if-day_word.false c.find_other-spot.ensures
          c.accepted-in-Never.ensures c.in-Never.is,
      rest_none (quiet c.accepted-in-Never.ensures),
    )

pub returns-in-Present : goal.returns-in-Present
returns-in-Present c =
    let a = c.args in
    let r = registers_of a.slots.now a.addresses.now a.values.now in
    let x = parts_in a.cells.now a.floats.now in (
      other_put_present r x a.word
          c.requires c.day_word.ensures a.addr a.size a.value c.if-day_word.false
          c.find_other-spot.ensures _ c.accepted-in-Present.ensures c.in-Present.is c.get-old.ensures
          c.merged-in-Present.ensures c.put_present.ensures,
      rest_none (quiet c.accepted-in-Present.ensures),
    )

pub returns-in_err-put_absent-in-Absent : goal.returns-in_err-put_absent-in-Absent
returns-in_err-put_absent-in-Absent c =
    let a = c.args in
    let r = registers_of a.slots.now a.addresses.now a.values.now in
    let x = parts_in a.cells.now a.floats.now in
    let p = err_from_is_err_and c.from_residual.result c.from_residual.ensures.1 in
    rw (p.1, p.2) (
      other_put_absent r x a.word c.requires c.day_word.ensures a.addr a.size a.value c.if-day_word.false
          c.find_other-spot.ensures _ _ c.in-Absent.is c.merged-new.ensures
          c.in_err-put_absent-in-Absent.ensures refl,
      rest_none refl,
    )

pub returns-in-Absent : goal.returns-in-Absent
returns-in-Absent c =
    let a = c.args in
    let r = registers_of a.slots.now a.addresses.now a.values.now in
    let x = parts_in a.cells.now a.floats.now in (
      other_put_absent r x a.word c.requires c.day_word.ensures a.addr a.size a.value c.if-day_word.false
          c.find_other-spot.ensures _ _ c.in-Absent.is c.merged-new.ensures
          c.in_ok-put_absent-in-Absent.ensures c.accepted-in-Absent.ensures,
      rest_none (quiet c.accepted-in-Absent.ensures),
    )
