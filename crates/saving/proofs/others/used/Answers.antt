use Rattle.std.proofs.Common.{eqb, rules, tests}
use Rattle.std.proofs.lemmas.Iterator.{YieldsList-from_slice}
use Rattle.std.proofs.lemmas.Iterator.Search.{position_from_yields_List}
use Rattle.saving.proofs.Tables.{used_first}
use Rattle.saving.proofs.others.used.Goals as goal

pub returns : goal.returns
returns c =
    let values = c.args.values.now in
    used_first values _ _ (c.told-values)
    (position_from_yields_List (λ x. eqb x 0) _ _ c.position.result c.position.ensures.ran
    (YieldsList-from_slice values cc) (λ x b q k. search (rules, tests)))
    c.unwrap_or.ensures
