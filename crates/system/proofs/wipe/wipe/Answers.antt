use Rattle.std.proofs.Common.{rules}
use Rattle.system.proofs.Banks.{wiped_by}
use Rattle.system.proofs.wipe.wipe.Goals as goal

pub returns : goal.returns
returns c =
    let a = c.args in wiped_by a.ram.now a.sram.now a.gpio.now a.fb.now (c.fill.ensures.after (search rules))
    (c.fill-2.ensures.after (search rules)) (c.fill-3.ensures.after (search rules))
    (c.fill-4.ensures.after (search rules)) c.fresh.ensures
