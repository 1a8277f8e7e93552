use Rattle.std.proofs.Common.{◌++◌, arith}
use Rattle.saving.proofs.Laid.{first_of, head_room, then, room}
use Rattle.session.specs.Sections.{cell_bytes, float_bytes, timers_section}
use Rattle.saving.proofs.writers.lay_timers.Goals as goal

-- src/writers.rt:21:9
pub put-starts-requires : goal.put-starts-requires
unfolding timers_section
put-starts-requires c = head_room _ _ _ _ c.requires

-- src/writers.rt:22:9
pub lay_floats-pending-requires : goal.lay_floats-pending-requires
unfolding timers_section
lay_floats-pending-requires c = (
  first_of _ _ (float_bytes c.args.floats.now 3 6) (cell_bytes c.args.cells.now 31 6) (room
      c.put-starts.ensures (float_bytes c.args.floats.now 3 6 ++ cell_bytes c.args.cells.now 31 6)
      c.requires),
  omega arith,
)

-- src/writers.rt:23:5
pub lay_cells-requires : goal.lay_cells-requires
unfolding timers_section
lay_cells-requires c = (
  room c.lay_floats-pending.ensures (cell_bytes c.args.cells.now 31 6) (room c.put-starts.ensures
      (float_bytes c.args.floats.now 3 6 ++ cell_bytes c.args.cells.now 31 6) c.requires),
  omega
      arith,
)

-- src/writers.rt:16:1
pub returns : goal.returns
unfolding timers_section
returns c =
    then c.put-starts.ensures (then c.lay_floats-pending.ensures c.lay_cells.ensures)
