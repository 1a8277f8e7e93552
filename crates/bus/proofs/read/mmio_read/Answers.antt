use Rattle.std.proofs.Common.{arith, ◌≡◌}
use Rattle.registers.specs.Words.{registers_of}
use Rattle.registers.specs.Ports.{slot_of}
use Rattle.registers.proofs.Own.{slot_most}
use Rattle.state.specs.Bank.{parts_in}
use Rattle.bus.specs.Write.{word_address}
use Rattle.bus.proofs.Cases.{reg_own, reg_other}
use Rattle.bus.proofs.read.mmio_read.Goals as goal

pub returns-then-s-lt76 : goal.returns-then-s-lt76
returns-then-s-lt76 c =
    let a = c.args in
    let r = registers_of a.slots.now a.addresses.now a.values.now in
    let d = (parts_in a.cells.now a.floats.now).devices in
    reg_own r a.sram.now d a.addr a.size c.slot-s.ensures c.if-s-lt76.true c.own_value-value.ensures c.cut.ensures

pub other_value-value-requires : goal.other_value-value-requires
other_value-value-requires c =
    let m = slot_most (word_address c.args.addr) in
    omega (arith, c.slot-s.ensures, c.if-s-lt76.false)

pub returns : goal.returns
returns c =
    let a = c.args in
    let r = registers_of a.slots.now a.addresses.now a.values.now in
    let d = (parts_in a.cells.now a.floats.now).devices in
    let m = slot_most (word_address a.addr) in
    let none : slot_of (word_address a.addr) ≡ 76 = omega (arith, c.slot-s.ensures, c.if-s-lt76.false) in
    reg_other r a.sram.now d a.addr a.size none c.other_value-value.ensures c.cut-2.ensures
