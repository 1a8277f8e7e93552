use Rattle.std.proofs.Common.{not, ap, refl}
use Rattle.bus.proofs.Cases.{read_ram, read_sram, read_gpio, read_size, read_register, read_stray}
use Rattle.bus.proofs.read.read.Goals as goal

pub returns-in-Ram : goal.returns-in-Ram
returns-in-Ram c =
    read_ram _ _ _ _ _ _ _ c.locate-place.ensures c.in-Ram.is c.get.ensures

pub returns-in-Sram : goal.returns-in-Sram
returns-in-Sram c =
    read_sram _ _ _ _ _ _ _ c.locate-place.ensures c.in-Sram.is c.get-in-Sram.ensures

pub returns-in-Gpio : goal.returns-in-Gpio
returns-in-Gpio c =
    read_gpio _ _ _ _ _ _ _ c.locate-place.ensures c.in-Gpio.is c.get-in-Gpio.ensures

pub returns-then-not-good_size : goal.returns-then-not-good_size
returns-then-not-good_size c =
    read_size _ _ _ _ _ _ _ c.locate-place.ensures c.good_size.ensures (ap not c.if-not-good_size.true)
    refl

pub returns-else-not-good_size : goal.returns-else-not-good_size
returns-else-not-good_size c =
    read_register _ _ _ _ _ _ _ c.locate-place.ensures c.good_size.ensures (ap not c.if-not-good_size.false)
    c.in-Register.is c.mmio_read-value.ensures

pub returns-then-not-good_size-2 : goal.returns-then-not-good_size-2
returns-then-not-good_size-2 c =
    read_size _ _ _ _ _ _ _ c.locate-place.ensures c.good_size-in-Stray.ensures (ap not c.if-not-good_size-2.true)
    refl

pub returns-else-not-good_size-2 : goal.returns-else-not-good_size-2
returns-else-not-good_size-2 c =
    read_stray _ _ _ _ _ _ _ c.locate-place.ensures c.good_size-in-Stray.ensures (ap not c.if-not-good_size-2.false)
    c.in-Stray.is
