use Rattle.std.proofs.Common.{arith}
use Rattle.saving.proofs.Laid.{head_room, then, room}
use Rattle.session.specs.Sections.{cell_bytes, panel_section}
use Rattle.saving.proofs.writers.lay_panel.Goals as goal

-- src/writers.rt:57:9
pub put-order-requires : goal.put-order-requires
unfolding panel_section
put-order-requires c = head_room _ _ _ _ c.requires

-- src/writers.rt:58:5
pub lay_cells-requires : goal.lay_cells-requires
unfolding panel_section
lay_cells-requires c =
    (room c.put-order.ensures (cell_bytes c.args.cells.now 11 14) c.requires, omega arith)

-- src/writers.rt:53:1
pub returns : goal.returns
unfolding panel_section
returns c =
    then c.put-order.ensures c.lay_cells.ensures
