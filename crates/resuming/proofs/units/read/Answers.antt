use Rattle.std.proofs.Common.{arith}
use Rattle.resuming.proofs.Entire.{read_is, bank_is}
use Rattle.resuming.proofs.units.read.Goals as goal

-- src/units.rt:51:9
-- src/units.rt:55:5
-- src/units.rt:56:5
-- src/units.rt:57:5
-- src/units.rt:58:5
-- src/units.rt:59:5
-- src/units.rt:61:38
-- src/units.rt:61:5
pub read_memories-requires : goal.read_memories-requires
read_memories-requires c =
    (c.requires.1, omega (arith, c.ram_at.ensures, c.counts_of-has.ensures.sized.0))

-- src/units.rt:24:1
pub returns : goal.returns
returns c = (
  read_is _ c.counts_of-has.ensures c.read_slots.ensures c.read_others.ensures c.read_pages.ensures
      c.read_tables.ensures c.read_bank.ensures c.put_counts.ensures c.ram_at.ensures c.read_memories.ensures
      c.resync.ensures.0,
  bank_is _ c.counts_of-has.ensures c.requires.0 c.read_bank.ensures c.put_counts.ensures c.resync.ensures.1,
)
