use Rattle.bus.proofs.Drawn.{data_pixel, data_argument}
use Rattle.bus.proofs.screen.lcd_data.Goals as goal

pub returns-then-code-eq44 : goal.returns-then-code-eq44
returns-then-code-eq44 c =
    data_pixel c.args.cells.now c.args.fb.now c.args.b c.order_of-order.ensures
    c.code.ensures c.if-code-eq44.true c.window_of-window.ensures c.pen_of-pen.ensures c.paint-next.ensures
    c.put_pen.ensures

pub returns : goal.returns
returns c =
    data_argument c.args.cells.now c.args.fb.now c.args.b c.order_of-order.ensures
    c.code.ensures c.if-code-eq44.false c.panel_of-p.ensures c.argument-next.ensures c.put_panel.ensures
