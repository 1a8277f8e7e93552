use Rattle.std.proofs.Common.{arith}
use Rattle.session.specs.Read.{cells_in}
use Rattle.session.proofs.Long.{pending_bytes, converting_bytes, off_bytes, drawing_bytes, ticks_bytes}
use Rattle.session.proofs.Long.{latched_bytes, chip_bytes, down_bytes}
use Rattle.resuming.proofs.readers.read_all_cells.Goals as goal

-- src/readers.rt:25:9
-- src/readers.rt:27:5
-- src/readers.rt:28:5
-- src/readers.rt:29:5
-- src/readers.rt:30:5
-- src/readers.rt:31:5
-- src/readers.rt:32:5
-- src/readers.rt:33:5
-- src/readers.rt:34:5
-- src/readers.rt:21:1
pub returns : goal.returns
unfolding cells_in
returns c =
    rw (
      c.read_cells-8.ensures,
      c.read_cells-7.ensures,
      c.read_cells-6.ensures,
      c.read_cells-5.ensures,
      c.read_cells-4.ensures,
      c.read_cells-3.ensures,
      c.read_cells-2.ensures,
      c.read_cells.ensures,
      c.flags_at-p.ensures,
    )

pub read_cells-requires : goal.read_cells-requires
read_cells-requires c =
    (omega (arith, pending_bytes, c.requires.0, c.requires.1), omega arith)

pub read_cells-requires-2 : goal.read_cells-requires-2
read_cells-requires-2 c =
    (omega (arith, converting_bytes, c.requires.0, c.requires.1, c.flags_at-p.ensures), omega arith)

pub read_cells-requires-3 : goal.read_cells-requires-3
read_cells-requires-3 c =
    (omega (arith, off_bytes, c.requires.0, c.requires.1, c.flags_at-p.ensures), omega arith)

pub read_cells-requires-4 : goal.read_cells-requires-4
read_cells-requires-4 c =
    (omega (arith, drawing_bytes, c.requires.0, c.requires.1, c.flags_at-p.ensures), omega arith)

pub read_cells-requires-5 : goal.read_cells-requires-5
read_cells-requires-5 c =
    (omega (arith, ticks_bytes, c.requires.0, c.requires.1, c.flags_at-p.ensures), omega arith)

pub read_cells-requires-6 : goal.read_cells-requires-6
read_cells-requires-6 c =
    (omega (arith, latched_bytes, c.requires.0, c.requires.1, c.flags_at-p.ensures), omega arith)

pub read_cells-requires-7 : goal.read_cells-requires-7
read_cells-requires-7 c =
    (omega (arith, chip_bytes, c.requires.0, c.requires.1, c.flags_at-p.ensures), omega arith)

pub read_cells-requires-8 : goal.read_cells-requires-8
read_cells-requires-8 c =
    (omega (arith, down_bytes, c.requires.0, c.requires.1, c.flags_at-p.ensures), omega arith)
