use Rattle.std.proofs.Common.{refl, ap, ◌∙◌}
use Rattle.bus.proofs.Cases.{act_command, act_data, act_dma, act_none}
use Rattle.bus.proofs.Drawn.{panel_put_lem, panel_same}
use Rattle.panel.specs.declared.Panel.{Panel}
use Rattle.panel.specs.Lcd.{commanded}
use Rattle.panel.specs.Entries.{screen}
use Rattle.registers.specs.Words.{registers_of}
use Rattle.state.specs.Bank.{panel_in}
use Rattle.bus.proofs.screen.act.Goals as goal

pub returns-in-128 : goal.returns-in-128
returns-in-128 c =
    let a = c.args in
    let r = registers_of a.slots.now a.addresses.now a.values.now in
    let s = screen (panel_in a.cells.now) a.fb.now in
    let q = panel_put_lem _ c.put_panel.ensures in (
      act_command r a.ram.now a.sram.now a.gpio.now s a.val c.own_reg-word.ensures c.in-128.is
          c.low.ensures
          (ap (λ (z : Panel). screen z a.fb.now)
          (q.0 ∙ c.command-next.ensures ∙ ap (λ (z : Panel). commanded z c.low.result) c.panel_of-p.ensures)),
      q.1,
    )

pub returns-in-160 : goal.returns-in-160
returns-in-160 c =
    let a = c.args in
    let r = registers_of a.slots.now a.addresses.now a.values.now in
    let s = screen (panel_in a.cells.now) a.fb.now in
    let d = c.feed.ensures in (
      act_data r a.ram.now a.sram.now a.gpio.now s a.val c.own_reg-word.ensures c.in-160.is
          refl d.0,
      d.1,
    )

pub returns-in-208 : goal.returns-in-208
returns-in-208 c =
    let a = c.args in
    let r = registers_of a.slots.now a.addresses.now a.values.now in
    let s = screen (panel_in a.cells.now) a.fb.now in
    let d = c.lcd_dma.ensures in
    (act_dma r a.ram.now a.sram.now a.gpio.now s a.val c.in-208.is d.0, d.1)

pub returns-in_default : goal.returns-in_default
returns-in_default c =
    let a = c.args in
    let r = registers_of a.slots.now a.addresses.now a.values.now in
    let s = screen (panel_in a.cells.now) a.fb.now in (
      act_none r a.ram.now a.sram.now a.gpio.now s a.val c.in_default.in_default-own.rest.0.0.1
          c.in_default.in_default-own.rest.0.1 c.in_default.in_default-own.rest.1,
      panel_same a.cells.now,
    )
