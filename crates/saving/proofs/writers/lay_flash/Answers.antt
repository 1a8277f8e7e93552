use Rattle.std.proofs.Common.{◌++◌, arith}
use Rattle.saving.proofs.Laid.{first_of, head_room, then, room}
use Rattle.session.specs.Sections.{cell_bytes, flash_section}
use Rattle.saving.proofs.writers.lay_flash.Goals as goal

-- src/writers.rt:87:9
pub put-chip-requires : goal.put-chip-requires
unfolding flash_section
put-chip-requires c = head_room _ _ _ _ c.requires

-- src/writers.rt:88:9
pub lay_cells-gathered-requires : goal.lay_cells-gathered-requires
unfolding flash_section
lay_cells-gathered-requires c = (
  first_of _ _ (cell_bytes c.args.cells.now 1 10) (c.args.page.now) (room c.put-chip.ensures
      (cell_bytes c.args.cells.now 1 10 ++ c.args.page.now) c.requires),
  omega arith,
)

-- src/writers.rt:89:5
pub copy_out-requires : goal.copy_out-requires
unfolding flash_section
copy_out-requires c =
    room c.lay_cells-gathered.ensures (c.args.page.now) (room c.put-chip.ensures
    (cell_bytes c.args.cells.now 1 10 ++ c.args.page.now) c.requires)

-- src/writers.rt:82:1
pub returns : goal.returns
unfolding flash_section
returns c =
    then c.put-chip.ensures (then c.lay_cells-gathered.ensures c.copy_out.ensures)
