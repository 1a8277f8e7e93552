use Rattle.std.proofs.Common.{not, ap, refl}
use Rattle.bus.proofs.BankedWords.{quiet, rest_none}
use Rattle.bus.proofs.BankedWrites.{write_ram, write_sram, write_gpio, write_size, write_register, write_stray}
use Rattle.bus.proofs.write.slow_write.Goals as goal

pub returns-in-Ram : goal.returns-in-Ram
returns-in-Ram c = (
  write_ram _ _ _ _ _ _ _ _ _ _ _ _ c.locate-place.ensures c.put.ensures.1
      c.in-Ram.is c.put.ensures.0,
  rest_none (quiet c.put.ensures.1),
)

pub returns-in-Sram : goal.returns-in-Sram
returns-in-Sram c = (
  write_sram _ _ _ _ _ _ _ _ _ _ _ _ c.locate-place.ensures c.put-in-Sram.ensures.1
      c.in-Sram.is c.put-in-Sram.ensures.0,
  rest_none (quiet c.put-in-Sram.ensures.1),
)

pub returns-in-Gpio : goal.returns-in-Gpio
returns-in-Gpio c = (
  write_gpio _ _ _ _ _ _ _ _ _ _ _ _ c.locate-place.ensures c.put-in-Gpio.ensures.1
      c.in-Gpio.is c.put-in-Gpio.ensures.0,
  rest_none (quiet c.put-in-Gpio.ensures.1),
)

pub returns-then-not-good_size : goal.returns-then-not-good_size
returns-then-not-good_size c = (
  write_size _ _ _ _ _ _ _ _ _ _ _ _ c.locate-place.ensures c.good_size.ensures
      (ap not c.if-not-good_size.true) refl,
  rest_none refl,
)

pub returns-in-Register : goal.returns-in-Register
returns-in-Register c = (
  write_register _ _ _ _ _ _ _ _ _ _ _ _ c.locate-place.ensures c.good_size.ensures
      (ap not c.if-not-good_size.false) c.in-Register.is c.mmio_write.ensures.0,
  c.mmio_write.ensures.1,
)

pub returns-then-not-good_size-2 : goal.returns-then-not-good_size-2
returns-then-not-good_size-2 c = (
  write_size _ _ _ _ _ _ _ _ _ _ _ _ c.locate-place.ensures c.good_size-in-Stray.ensures
      (ap not c.if-not-good_size-2.true) refl,
  rest_none refl,
)

pub returns-in-Stray : goal.returns-in-Stray
returns-in-Stray c = (
  write_stray _ _ _ _ _ _ _ _ _ _ _ _ c.locate-place.ensures c.good_size-in-Stray.ensures
      (ap not c.if-not-good_size-2.false) c.in-Stray.is refl,
  rest_none refl,
)
