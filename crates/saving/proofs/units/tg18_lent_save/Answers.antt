use Rattle.std.proofs.Common.{sym, ◌∙◌, arith}
use Rattle.saving.proofs.Entire.{places_few, save_bad, save_short, save_done}
use Rattle.saving.proofs.units.tg18_lent_save.Goals as goal

-- src/units.rt:170:9
pub returns-then-bad_memory : goal.returns-then-bad_memory
returns-then-bad_memory c =
    save_bad _ _ _ _ _ _ _ _ _ _ _ _ _ _ _ _ c.args.out.now (sym c.bad_memory.ensures ∙ c.if-bad_memory.true)

-- src/units.rt:175:9
pub count-k-requires : goal.count-k-requires
count-k-requires c = places_few c.parts_of-parts.result.keys.count c.places-places.ensures

-- src/units.rt:177:31
pub overflow_cast-k : goal.overflow_cast-k
overflow_cast-k c =
    let f = places_few c.parts_of-parts.result.keys.count c.places-places.ensures in omega (
      arith,
      c.count-k.ensures.1,
    )

-- src/units.rt:179:9
pub returns-then-out-size : goal.returns-then-out-size
returns-then-out-size c =
    save_short _ _ _ _ _ _ _ _ _ _ _ _ _ _ _ _ c.args.out.now (sym c.bad_memory.ensures ∙ c.if-bad_memory.false)
    c.parts_of-parts.ensures c.places-places.ensures c.used-n.ensures.0 c.count-k.ensures.0 c.held-e.ensures.0
    c.size-size.ensures c.if-out-size.true

-- src/units.rt:181:5
pub lay_parts-requires : goal.lay_parts-requires
lay_parts-requires c = (
  sym c.bad_memory.ensures ∙ c.if-bad_memory.false,
  (
    omega (arith, c.if-out-size.false, c.size-size.ensures),
    (
      c.count-k.ensures.0,
      (
        c.used-n.ensures.1,
        (
          places_few c.parts_of-parts.result.keys.count c.places-places.ensures,
          c.held-e.ensures.1,
        ),
      ),
    ),
  ),
)

-- src/units.rt:141:1
pub returns : goal.returns
returns c =
    save_done _ _ _ _ _ _ _ _ _ _ _ _ _ _ _ _ c.args.out.now (sym c.bad_memory.ensures ∙ c.if-bad_memory.false)
    c.parts_of-parts.ensures c.places-places.ensures c.used-n.ensures.0 c.count-k.ensures.0
    c.held-e.ensures.0 c.size-size.ensures c.if-out-size.false c.lay_parts.ensures
