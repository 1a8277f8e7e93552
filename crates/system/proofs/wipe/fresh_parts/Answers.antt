use Rattle.system.proofs.Banks.{parts_fresh}
use Rattle.system.proofs.wipe.fresh_parts.Goals as goal

pub returns : goal.returns
returns c =
    parts_fresh c.new.ensures c.fresh.ensures c.fresh_clocks.ensures c.fresh-2.ensures
    c.silent.ensures c.fresh-3.ensures
