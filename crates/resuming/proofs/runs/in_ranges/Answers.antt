use Rattle.std.proofs.Common.{◌∙◌, leb, rules, tests, refl}
use Rattle.std.proofs.lemmas.Iterator.{YieldsList-from_slice, YieldsList-from_zip}
use Rattle.std.proofs.lemmas.Iterator.Consumers.{YieldsList-at}
use Rattle.std.proofs.lemmas.Iterator.Search.{all_from_yields_List}
use Rattle.session.specs.Layout.{mosts}
use Rattle.session.specs.Good.{in_ranges}
use Rattle.resuming.proofs.Alls.{all_beside}
use Rattle.resuming.proofs.runs.in_ranges.Goals as goal

pub returns : goal.returns
unfolding in_ranges mosts
returns c =
    all_from_yields_List (λ p. leb p.0 p.1) c.all.new.self _ c.all.result c.all.ensures.ran
    (YieldsList-from_zip {s = c.zip.result}
    (YieldsList-at c.zip.ensures.first (YieldsList-from_slice c.args.cells.now c.iter.ensures.rest))
    (YieldsList-at c.zip.ensures.second (YieldsList-from_slice mosts c.iter-2.ensures.rest)))
    (λ x b q k. search (rules, tests))
    ∙ all_beside c.args.cells.now mosts 51 c.told-cells refl
