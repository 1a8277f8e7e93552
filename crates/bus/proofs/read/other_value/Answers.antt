use Rattle.std.proofs.Common.{sym, ◌∙◌}
use Rattle.registers.specs.Words.{registers_of}
use Rattle.state.specs.Bank.{parts_in}
use Rattle.bus.proofs.Values.{other_field, other_present}
use Rattle.bus.proofs.read.other_value.Goals as goal

pub field_of-requires : goal.field_of-requires
field_of-requires c =
    sym c.day_word.ensures ∙ c.if-day_word.true

pub returns-then-day_word : goal.returns-then-day_word
returns-then-day_word c =
    let a = c.args in
    let r = registers_of a.slots.now a.addresses.now a.values.now in
    let d = (parts_in a.cells.now a.floats.now).devices in
    other_field r d 0 a.word c.requires
    c.day_word.ensures c.if-day_word.true c.field_of.ensures
    c.tod_read.ensures

pub returns : goal.returns
returns c =
    let a = c.args in
    let r = registers_of a.slots.now a.addresses.now a.values.now in
    let d = (parts_in a.cells.now a.floats.now).devices in
    other_present r d 0 a.word c.requires c.day_word.ensures
    c.if-day_word.false c.find_other-spot.ensures c.word_in.ensures
