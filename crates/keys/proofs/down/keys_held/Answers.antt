use Rattle.std.proofs.Common.{arith, rules}
use Rattle.keys.proofs.Cases.{places_most, held_none, held_all}
use Rattle.keys.proofs.down.keys_held.Goals as goal

pub loop-i-init : goal.loop-i-init
loop-i-init c = (
  search rules,
  omega (arith, c.places-n.ensures, places_most c.args.keys.count),
  held_none _ _ _ _,
)

pub loop-i-preserved : goal.loop-i-preserved
loop-i-preserved c = (search rules, search rules, c.also_block-held.ensures _ c.loop-i.invariant.2)

pub returns : goal.returns
returns c =
    held_all _ _ _ _ _ _ _ c.places-n.ensures c.tapped-held.ensures
    (c.also_each.ensures _ c.loop-i.invariant.2)
