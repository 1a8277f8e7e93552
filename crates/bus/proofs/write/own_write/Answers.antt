use Rattle.std.proofs.Common.{refl, sym, ◌∙◌}
use Rattle.registers.specs.declared.Port.TheVariants.{Shows, Holds, Other}
use Rattle.registers.specs.Ports.{slot_word}
use Rattle.registers.specs.Words.{registers_of}
use Rattle.registers.proofs.Slots.{port_slot}
use Rattle.state.specs.Bank.{parts_in}
use Rattle.bus.specs.World.{world}
use Rattle.bus.proofs.BankedWords.{only_put, done_number, quiet, rest_put, rest_none}
use Rattle.bus.proofs.BankedWrites.{port_select, port_send, port_panel, port_rtc, port_acts, port_holds}
use Rattle.bus.proofs.write.own_write.Goals as goal

pub returns-in-Select : goal.returns-in-Select
returns-in-Select c =
    let a = c.args in
    let r = registers_of a.slots.now a.addresses.now a.values.now in
    let x = parts_in a.cells.now a.floats.now in
    let p = c.put_chip.ensures a.floats.now in (
      port_select r a.rtc.now a.page.now a.ram.now a.sram.now a.gpio.now a.fb.now x a.full
          (slot_word a.s) a.old a.new a.part c.accepted.ensures
          (port_slot a.s c.requires ∙ sym c.port_at-port.ensures ∙ c.in-Select.is)
          c.chip_of-chip.ensures c.select_write-next.ensures p.parts,
      rest_put (done_number c.accepted.ensures) (only_put p.parts) p.packed,
    )

pub returns-in-Send : goal.returns-in-Send
returns-in-Send c =
    let a = c.args in
    let r = registers_of a.slots.now a.addresses.now a.values.now in
    let x = parts_in a.cells.now a.floats.now in
    let p = c.put_sent.ensures a.floats.now in (
      port_send r a.rtc.now a.page.now a.ram.now a.sram.now a.gpio.now a.fb.now x a.full
          (slot_word a.s) a.old a.new a.part c.accepted-in-Send.ensures
          (port_slot a.s c.requires ∙ sym c.port_at-port.ensures ∙ c.in-Send.is)
          c.chip_of-chip-in-Send.ensures c.send_write-next.ensures p.parts,
      rest_put (done_number c.accepted-in-Send.ensures) (only_put p.parts) p.packed,
    )

pub returns-in-LcdControl : goal.returns-in-LcdControl
returns-in-LcdControl c =
    let a = c.args in
    let r = registers_of a.slots.now a.addresses.now a.values.now in
    let x = parts_in a.cells.now a.floats.now in
    let d = c.lcd_write_ctrl.ensures in
    let p = d.1.parts a.floats.now in (
      port_panel r a.rtc.now a.page.now a.ram.now a.sram.now a.gpio.now a.fb.now x a.full
          (slot_word a.s) a.old a.new a.part c.accepted-in-LcdControl.ensures
          (port_slot a.s c.requires ∙ sym c.port_at-port.ensures ∙ c.in-LcdControl.is) refl d.0 p,
      rest_put (done_number c.accepted-in-LcdControl.ensures) (only_put p) (d.1.packed a.floats.now),
    )

pub returns-in-RtcCommand : goal.returns-in-RtcCommand
returns-in-RtcCommand c =
    let a = c.args in
    let r = registers_of a.slots.now a.addresses.now a.values.now in
    let x = parts_in a.cells.now a.floats.now in
    let p = c.put_latch.ensures in (
      port_rtc r a.rtc.now a.page.now a.ram.now a.sram.now a.gpio.now a.fb.now x a.full
          (slot_word a.s) a.old a.new a.part c.accepted-in-RtcCommand.ensures
          (port_slot a.s c.requires ∙ sym c.port_at-port.ensures ∙ c.in-RtcCommand.is)
          c.latch_of-latch.ensures c.times_of-times.ensures c.command_write-next.ensures p.parts,
      rest_put (done_number c.accepted-in-RtcCommand.ensures) (only_put p.parts) p.packed,
    )

pub word_write-requires : goal.word_write-requires
word_write-requires c = (
  c.requires,
  sym
      c.port_at-port.ensures ∙
      c.in-Acts.is,
)

pub returns-in-Acts : goal.returns-in-Acts
returns-in-Acts c =
    let a = c.args in
    let r = registers_of a.slots.now a.addresses.now a.values.now in
    let x = parts_in a.cells.now a.floats.now in (
      port_acts (world r a.rtc.now a.page.now a.ram.now a.sram.now a.gpio.now a.fb.now
          x.devices) a.full (slot_word a.s) a.old a.new a.part _
          (port_slot a.s c.requires ∙ sym c.port_at-port.ensures ∙ c.in-Acts.is)
          c.word_write.ensures.0,
      c.word_write.ensures.1,
    )

pub returns-in-Shows : goal.returns-in-Shows
returns-in-Shows c = (
  port_holds _ _ _ _ _ _ (Shows _) c.requires
      (port_slot _ c.requires ∙ sym c.port_at-port.ensures ∙ c.in-Shows.is) tt
      c.store_word.ensures,
  rest_none (quiet c.store_word.ensures.1),
)

pub returns-in-Holds : goal.returns-in-Holds
returns-in-Holds c = (
  port_holds _ _ _ _ _ _ Holds c.requires
      (port_slot _ c.requires ∙ sym c.port_at-port.ensures ∙ c.in-Holds.is) tt
      c.store_word-in-Holds.ensures,
  rest_none (quiet c.store_word-in-Holds.ensures.1),
)

pub returns-in-Other : goal.returns-in-Other
returns-in-Other c = (
  port_holds _ _ _ _ _ _ Other c.requires
      (port_slot _ c.requires ∙ sym c.port_at-port.ensures ∙ c.in-Other.is) tt
      c.store_word-in-Other.ensures,
  rest_none (quiet c.store_word-in-Other.ensures.1),
)
