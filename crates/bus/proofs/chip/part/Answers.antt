use Rattle.std.proofs.Common.{lt-ltb, le-ltb}
use Rattle.bus.specs.Chip.{part_of}
use Rattle.bus.proofs.chip.part.Goals as goal

pub returns-then-n-lt-FLASH_SIZE : goal.returns-then-n-lt-FLASH_SIZE
unfolding part_of
returns-then-n-lt-FLASH_SIZE c = rw (lt-ltb _ _ c.if-n-lt-FLASH_SIZE.true)

pub returns-else-n-lt-FLASH_SIZE : goal.returns-else-n-lt-FLASH_SIZE
unfolding part_of
returns-else-n-lt-FLASH_SIZE c = rw (le-ltb _ _ c.if-n-lt-FLASH_SIZE.false)
