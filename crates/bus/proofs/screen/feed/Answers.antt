use Rattle.bus.proofs.Drawn.{panel_again}
use Rattle.bus.proofs.Cases.{feed_one, feed_two}
use Rattle.panel.specs.Entries.{screen}
use Rattle.state.specs.Bank.{panel_in}
use Rattle.bus.proofs.screen.feed.Goals as goal

pub returns-then-one : goal.returns-then-one
returns-then-one c =
    let a = c.args in
    let d = c.lcd_data.ensures in (
      feed_one (screen (panel_in a.cells.now) a.fb.now) a.one a.word c.if-one.true c.low.ensures
          d.0,
      d.1,
    )

pub returns : goal.returns
returns c =
    let a = c.args in
    let d = c.lcd_data-2.ensures in
    let e = c.lcd_data-3.ensures in (
      feed_two (screen (panel_in a.cells.now) a.fb.now) a.one a.word c.if-one.false
          c.low-2.ensures d.0 c.low-3.ensures e.0,
      panel_again d.1 e.1,
    )
