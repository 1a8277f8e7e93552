use Rattle.time.specs.Clocks.{clock_in}
use Rattle.state.specs.Bank.{parts_in}
use Rattle.bus.proofs.BankedWords.{only_put, done_number, quiet, rest_put, rest_none, word_control, word_sounds}
use Rattle.bus.proofs.BankedWords.{word_lcd, word_tick, word_adc, word_power, word_spi}
use Rattle.bus.proofs.Values.{acting_no_day}
use Rattle.bus.proofs.words.word_write.Goals as goal

pub timer_write_ctrl-requires : goal.timer_write_ctrl-requires
timer_write_ctrl-requires c =
    c.requires.0

pub returns-in-TimerControl : goal.returns-in-TimerControl
returns-in-TimerControl c =
    let a = c.args in
    let x = parts_in a.cells.now a.floats.now in (
      word_control a.slots.now x (clock_in a.sram.now) a.full a.s a.old a.new a.part
          c.requires.0
          c.requires.1
          c.in-TimerControl.is
          c.sysclk_var-clock.ensures c.timer_write_ctrl.ensures.0,
      c.timer_write_ctrl.ensures.1,
    )

pub returns-in-DayField : goal.returns-in-DayField
returns-in-DayField c =
    absurd (acting_no_day _ c.requires.0
    c.requires.1 c.in-DayField.is)

pub sound_write-requires : goal.sound_write-requires
sound_write-requires c =
    c.requires.0

pub returns-in-Sound : goal.returns-in-Sound
returns-in-Sound c =
    let a = c.args in
    let x = parts_in a.cells.now a.floats.now in (
      word_sounds a.slots.now x (clock_in a.sram.now) a.full a.s a.old a.new a.part
          c.requires.0
          c.in-Sound.is
          c.sysclk_var-clock-in-Sound.ensures c.sound_write.ensures.0,
      c.sound_write.ensures.1,
    )

pub returns-in-LcdStatus : goal.returns-in-LcdStatus
returns-in-LcdStatus c =
    let a = c.args in
    let x = parts_in a.cells.now a.floats.now in
    let p = c.store_word.ensures in (
      word_lcd a.slots.now x (clock_in a.sram.now) a.full a.s a.old a.new a.part
          c.requires.0 p.1 c.in-LcdStatus.is p.0,
      rest_none (quiet p.1),
    )

pub returns-in-Tick : goal.returns-in-Tick
returns-in-Tick c =
    let a = c.args in
    let x = parts_in a.cells.now a.floats.now in
    let p = c.store_word-in-Tick.ensures in (
      word_tick a.slots.now x (clock_in a.sram.now) a.full a.s a.old a.new a.part
          c.requires.0 p.1 c.in-Tick.is p.0,
      rest_none (quiet p.1),
    )

pub returns-in-AdcControl : goal.returns-in-AdcControl
returns-in-AdcControl c =
    let a = c.args in
    let x = parts_in a.cells.now a.floats.now in
    let p = c.adc_write.ensures in (
      word_adc a.slots.now x (clock_in a.sram.now) a.full a.s a.old a.new a.part
          c.requires.0 c.accepted-in-AdcControl.ensures
          c.in-AdcControl.is p.0,
      rest_put (done_number c.accepted-in-AdcControl.ensures) p.1 p.2,
    )

pub returns-in-Power : goal.returns-in-Power
returns-in-Power c =
    let a = c.args in
    let x = parts_in a.cells.now a.floats.now in
    let p = c.power.ensures in
    let q = c.store_word-in-Power.ensures in (
      word_power a.slots.now x (clock_in a.sram.now) a.full a.s a.old a.new a.part
          c.requires.0 q.1
          c.in-Power.is q.0 p.0,
      rest_put (done_number q.1) (only_put p.0) p.1,
    )

pub returns-in-SpiSend : goal.returns-in-SpiSend
returns-in-SpiSend c =
    let a = c.args in
    let x = parts_in a.cells.now a.floats.now in (
      word_spi a.slots.now x (clock_in a.sram.now) a.full a.s a.old a.new a.part
          c.requires.0 c.accepted-in-SpiSend.ensures
          c.in-SpiSend.is c.spi_sent.ensures,
      rest_none (quiet c.accepted-in-SpiSend.ensures),
    )
