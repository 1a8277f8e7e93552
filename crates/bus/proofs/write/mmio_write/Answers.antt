use Rattle.std.proofs.Common.{arith, ◌≡◌}
use Rattle.registers.specs.Words.{registers_of}
use Rattle.registers.specs.Ports.{slot_of}
use Rattle.registers.proofs.Own.{slot_most}
use Rattle.state.specs.Bank.{parts_in}
use Rattle.bus.specs.World.{world}
use Rattle.bus.specs.Write.{word_address}
use Rattle.bus.proofs.BankedWrites.{reg_merged, reg_else}
use Rattle.bus.proofs.write.mmio_write.Goals as goal

pub returns-then-s-lt76 : goal.returns-then-s-lt76
returns-then-s-lt76 c =
    let a = c.args in
    let r = registers_of a.slots.now a.addresses.now a.values.now in
    let x = parts_in a.cells.now a.floats.now in
    let w = world r a.rtc.now a.page.now a.ram.now a.sram.now a.gpio.now a.fb.now
    x.devices in (
      reg_merged w a.full a.addr a.size a.value c.slot-s.ensures c.if-s-lt76.true
          c.get-old.ensures c.merged-new.ensures c.written-part.ensures c.own_write.ensures.0,
      c.own_write.ensures.1,
    )

pub other_write-requires : goal.other_write-requires
other_write-requires c =
    let m = slot_most (word_address c.args.addr) in
    omega (arith, c.slot-s.ensures, c.if-s-lt76.false)

pub returns : goal.returns
returns c =
    let a = c.args in
    let r = registers_of a.slots.now a.addresses.now a.values.now in
    let x = parts_in a.cells.now a.floats.now in
    let w = world r a.rtc.now a.page.now a.ram.now a.sram.now a.gpio.now a.fb.now
    x.devices in
    let m = slot_most (word_address a.addr) in
    let none : slot_of (word_address a.addr) ≡ 76 = omega (arith, c.slot-s.ensures, c.if-s-lt76.false) in (
      reg_else w a.full a.addr a.size a.value c.slot-s.ensures none c.other_write.ensures.0,
      c.other_write.ensures.1,
    )
