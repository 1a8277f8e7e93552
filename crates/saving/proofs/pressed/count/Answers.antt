use Rattle.std.proofs.Common.{take, rules, tests}
use Rattle.std.proofs.lemmas.Iterator.{YieldsList-from_slice}
use Rattle.std.proofs.lemmas.Iterator.Consumers.{count_from_yields_List, YieldsList-from_filter}
use Rattle.keys.specs.Script.{waits}
use Rattle.saving.proofs.Tables.{waiting_counted}
use Rattle.saving.proofs.pressed.count.Goals as goal

pub returns : goal.returns
returns c =
    let starts = c.args.starts.now in
    let time = c.args.time in
    waiting_counted starts time c.args.n c.told-starts c.requires
    (count_from_yields_List c.filter.result _ c.count.ensures.ran
    (YieldsList-from_filter _ (λ s. waits s time) (YieldsList-from_slice (take c.args.n starts) cc)
    c.filter.ensures.closure (λ x r q k. search (rules, tests))))
