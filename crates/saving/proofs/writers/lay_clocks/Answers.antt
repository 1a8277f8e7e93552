use Rattle.std.proofs.Common.{◌++◌, arith}
use Rattle.saving.proofs.Laid.{first_of, head_room, then, room}
use Rattle.session.specs.Sections.{cell_bytes, float_bytes, clocks_section}
use Rattle.saving.proofs.writers.lay_clocks.Goals as goal

-- src/writers.rt:66:9
pub put-times-requires : goal.put-times-requires
unfolding clocks_section
put-times-requires c = head_room _ _ _ _ c.requires

-- src/writers.rt:67:9
pub lay_floats-set-requires : goal.lay_floats-set-requires
unfolding clocks_section
lay_floats-set-requires c = (
  first_of _ _ (float_bytes c.args.floats.now 0 3) (float_bytes c.args.floats.now 9 2 ++
      (cell_bytes c.args.cells.now 37 3 ++ (cell_bytes c.args.cells.now 41 2 ++ c.args.rtc.now)))
      (room c.put-times.ensures (float_bytes c.args.floats.now 0 3 ++
      (float_bytes c.args.floats.now 9 2 ++ (cell_bytes c.args.cells.now 37 3 ++
      (cell_bytes c.args.cells.now 41 2
      ++ c.args.rtc.now)))) c.requires),
  omega arith,
)

-- src/writers.rt:68:9
pub lay_floats-ticks-requires : goal.lay_floats-ticks-requires
unfolding clocks_section
lay_floats-ticks-requires c = (
  first_of _ _ (float_bytes c.args.floats.now 9 2) (cell_bytes c.args.cells.now 37 3 ++
      (cell_bytes c.args.cells.now 41 2 ++ c.args.rtc.now)) (room c.lay_floats-set.ensures
      (float_bytes c.args.floats.now 9 2 ++ (cell_bytes c.args.cells.now 37 3 ++
      (cell_bytes c.args.cells.now 41 2 ++ c.args.rtc.now)))
      (room c.put-times.ensures (float_bytes c.args.floats.now 0 3 ++
      (float_bytes c.args.floats.now 9 2 ++ (cell_bytes c.args.cells.now 37
      3 ++ (cell_bytes c.args.cells.now 41 2 ++ c.args.rtc.now)))) c.requires)),
  omega arith,
)

-- src/writers.rt:69:9
pub lay_cells-latch-requires : goal.lay_cells-latch-requires
unfolding clocks_section
lay_cells-latch-requires c = (
  first_of _ _ (cell_bytes c.args.cells.now 37 3) (cell_bytes c.args.cells.now 41 2 ++ c.args.rtc.now)
      (room c.lay_floats-ticks.ensures (cell_bytes c.args.cells.now 37 3 ++ (cell_bytes
      c.args.cells.now 41 2 ++ c.args.rtc.now)) (room c.lay_floats-set.ensures (float_bytes
      c.args.floats.now 9 2 ++ (cell_bytes c.args.cells.now 37 3 ++
      (cell_bytes c.args.cells.now 41 2 ++ c.args.rtc.now)))
      (room c.put-times.ensures (float_bytes c.args.floats.now 0 3 ++
      (float_bytes c.args.floats.now 9 2 ++ (cell_bytes c.args.cells.now 37 3 ++
      (cell_bytes c.args.cells.now 41 2 ++ c.args.rtc.now)))) c.requires))),
  omega arith,
)

-- src/writers.rt:70:9
pub lay_cells-regs-requires : goal.lay_cells-regs-requires
unfolding clocks_section
lay_cells-regs-requires c = (
  first_of _ _ (cell_bytes c.args.cells.now 41 2) (c.args.rtc.now)
      (room c.lay_cells-latch.ensures (cell_bytes c.args.cells.now 41 2 ++ c.args.rtc.now)
      (room c.lay_floats-ticks.ensures (cell_bytes c.args.cells.now 37 3 ++
      (cell_bytes c.args.cells.now 41 2 ++ c.args.rtc.now)) (room c.lay_floats-set.ensures
      (float_bytes c.args.floats.now 9 2 ++
      (cell_bytes c.args.cells.now 37 3 ++ (cell_bytes c.args.cells.now 41 2 ++ c.args.rtc.now)))
      (room c.put-times.ensures (float_bytes c.args.floats.now 0 3 ++
      (float_bytes c.args.floats.now 9 2 ++ (cell_bytes c.args.cells.now 37 3 ++ (cell_bytes c.args.cells.now 41
      2 ++ c.args.rtc.now)))) c.requires)))),
  omega arith,
)

-- src/writers.rt:71:5
pub copy_out-requires : goal.copy_out-requires
unfolding clocks_section
copy_out-requires c =
    room c.lay_cells-regs.ensures (c.args.rtc.now) (room c.lay_cells-latch.ensures
    (cell_bytes c.args.cells.now 41 2 ++ c.args.rtc.now) (room c.lay_floats-ticks.ensures
    (cell_bytes c.args.cells.now 37 3 ++ (cell_bytes c.args.cells.now 41 2 ++ c.args.rtc.now)) (room
    c.lay_floats-set.ensures (float_bytes c.args.floats.now 9 2 ++
    (cell_bytes c.args.cells.now 37 3 ++ (cell_bytes c.args.cells.now 41 2 ++ c.args.rtc.now)))
    (room c.put-times.ensures (float_bytes c.args.floats.now 0 3 ++ (float_bytes c.args.floats.now 9 2 ++
    (cell_bytes c.args.cells.now 37 3 ++ (cell_bytes c.args.cells.now 41 2 ++ c.args.rtc.now)))) c.requires))))

-- src/writers.rt:61:1
pub returns : goal.returns
unfolding clocks_section
returns c =
    then c.put-times.ensures (then c.lay_floats-set.ensures (then c.lay_floats-ticks.ensures
    (then c.lay_cells-latch.ensures (then c.lay_cells-regs.ensures c.copy_out.ensures))))
