use Rattle.std.proofs.Common.{◌++◌, arith}
use Rattle.saving.proofs.Laid.{first_of, head_room, then, room}
use Rattle.session.specs.Sections.{cell_bytes, flags_section}
use Rattle.saving.proofs.writers.lay_flags.Goals as goal

-- src/writers.rt:48:9
pub put-converting-requires : goal.put-converting-requires
unfolding flags_section
put-converting-requires c = head_room _ _ _ _ c.requires

-- src/writers.rt:49:9
pub lay_cells-off-requires : goal.lay_cells-off-requires
unfolding flags_section
lay_cells-off-requires c = (
  first_of _ _ (cell_bytes c.args.cells.now 40 1) (cell_bytes c.args.cells.now 43 1)
      (room c.put-converting.ensures (cell_bytes c.args.cells.now 40 1 ++ cell_bytes c.args.cells.now 43 1)
      c.requires),
  omega arith,
)

-- src/writers.rt:50:5
pub lay_cells-requires : goal.lay_cells-requires
unfolding flags_section
lay_cells-requires c = (
  room c.lay_cells-off.ensures (cell_bytes c.args.cells.now 43 1) (room c.put-converting.ensures
      (cell_bytes c.args.cells.now 40 1 ++ cell_bytes c.args.cells.now 43 1) c.requires),
  omega
      arith,
)

-- src/writers.rt:44:1
pub returns : goal.returns
unfolding flags_section
returns c =
    then c.put-converting.ensures (then c.lay_cells-off.ensures c.lay_cells.ensures)
