use Rattle.time.specs.Clocks.{fresh_clocks}
use Rattle.system.proofs.wipe.fresh_clocks.Goals as goal

pub returns : goal.returns
unfolding fresh_clocks
returns c = rw (c.fresh.ensures, c.fresh-2.ensures, c.fresh-3.ensures)
