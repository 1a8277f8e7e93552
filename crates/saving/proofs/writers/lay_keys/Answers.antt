use Rattle.std.proofs.Common.{◌++◌, arith}
use Rattle.saving.proofs.Laid.{first_of, head_room, then, room}
use Rattle.session.specs.Sections.{cell_bytes, float_bytes, keys_section}
use Rattle.saving.proofs.writers.lay_keys.Goals as goal

-- src/writers.rt:97:9
pub put-down-requires : goal.put-down-requires
unfolding keys_section
put-down-requires c = head_room _ _ _ _ c.requires

-- src/writers.rt:98:9
pub lay_cells-holds-requires : goal.lay_cells-holds-requires
unfolding keys_section
lay_cells-holds-requires c = (
  first_of _ _ (cell_bytes c.args.cells.now 47 4) (float_bytes c.args.floats.now 13 3) (room
      c.put-down.ensures (cell_bytes c.args.cells.now 47 4 ++ float_bytes c.args.floats.now 13 3)
      c.requires),
  omega arith,
)

-- src/writers.rt:99:5
pub lay_floats-requires : goal.lay_floats-requires
unfolding keys_section
lay_floats-requires c = (
  room c.lay_cells-holds.ensures (float_bytes c.args.floats.now 13 3) (room c.put-down.ensures
      (cell_bytes c.args.cells.now 47 4 ++ float_bytes c.args.floats.now 13 3) c.requires),
  omega
      arith,
)

-- src/writers.rt:92:1
pub returns : goal.returns
unfolding keys_section
returns c =
    then c.put-down.ensures (then c.lay_cells-holds.ensures c.lay_floats.ensures)
