use Rattle.bus.proofs.Cases.{control_idle, control_act}
use Rattle.bus.proofs.Drawn.{panel_same}
use Rattle.panel.specs.Entries.{screen}
use Rattle.registers.specs.Words.{registers_of}
use Rattle.state.specs.Bank.{panel_in}
use Rattle.whole.proofs.Words.{has_not, has_some}
use Rattle.bus.proofs.screen.lcd_write_ctrl.Goals as goal

pub returns-then-val-eq0 : goal.returns-then-val-eq0
returns-then-val-eq0 c =
    let a = c.args in
    let r = registers_of a.slots.now a.addresses.now a.values.now in
    let s = screen (panel_in a.cells.now) a.fb.now in (
      control_idle r a.ram.now a.sram.now a.gpio.now s a.val c.own_insert.ensures
          (has_not a.val 1 c.if-val-eq0.true),
      panel_same a.cells.now,
    )

pub returns : goal.returns
returns c =
    let a = c.args in
    let r = registers_of a.slots.now a.addresses.now a.values.now in
    let s = screen (panel_in a.cells.now) a.fb.now in
    let d = c.act.ensures in (
      control_act r a.ram.now a.sram.now a.gpio.now s a.val c.own_insert.ensures
          (has_some a.val 1 c.if-val-eq0.false) d.0 c.own_insert-2.ensures,
      d.1,
    )
