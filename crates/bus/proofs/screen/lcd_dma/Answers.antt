use Rattle.std.proofs.Common.{ap, ◌∙◌}
use Rattle.block.proofs.Cases.{block_bytes}
use Rattle.bus.proofs.Cases.{dma_none, dma_done_lem}
use Rattle.bus.proofs.Drawn.{panel_put_lem, panel_same}
use Rattle.panel.specs.declared.Panel.{Panel}
use Rattle.panel.specs.Lcd.{frame_counted}
use Rattle.panel.specs.Entries.{screen}
use Rattle.registers.specs.Words.{registers_of}
use Rattle.state.specs.Bank.{panel_in}
use Rattle.bus.proofs.screen.lcd_dma.Goals as goal

pub returns-then-addr-eq0 : goal.returns-then-addr-eq0
returns-then-addr-eq0 c =
    let a = c.args in
    let r = registers_of a.slots.now a.addresses.now a.values.now in
    let s = screen (panel_in a.cells.now) a.fb.now in (
      dma_none r a.ram.now a.sram.now a.gpio.now s c.own_reg-addr.ensures c.if-addr-eq0.true,
      panel_same a.cells.now,
    )

pub returns : goal.returns
returns c =
    let a = c.args in
    let r = registers_of a.slots.now a.addresses.now a.values.now in
    let s = screen (panel_in a.cells.now) a.fb.now in
    let q = panel_put_lem _ c.put_panel.ensures in (
      dma_done_lem r a.ram.now a.sram.now a.gpio.now s c.own_reg-addr.ensures c.if-addr-eq0.false
          (block_bytes r a.ram.now a.sram.now a.gpio.now c.own_reg-addr.result _
          c.read_block.ensures) c.own_reg-status.ensures c.own_insert.ensures
          (q.0 ∙ c.count_frame-next.ensures ∙ ap (λ (z : Panel). frame_counted z) c.panel_of-p.ensures),
      q.1,
    )
