use Rattle.saving.proofs.Entire.{lay_room, lay_packed}
use Rattle.saving.proofs.units.lay_parts.Goals as goal

-- src/units.rt:113:5
pub lay-requires : goal.lay-requires
lay-requires c = (
  lay_room _ _ _ _ _ _ _ _ _ _ _ _ _ _ _ _ c.args.out.now c.args.n c.args.k c.args.e c.requires.0 c.requires.1.1.0
      c.told-rtc c.told-page c.requires.1.0,
  c.requires.1.1.1,
)

-- src/units.rt:75:1
pub returns : goal.returns
returns c =
    lay_packed _ _ _ _ _ _ _ _ _ _ _ _ _ _ _ _ c.args.out.now c.args.n c.args.k c.args.e c.args.parts
    c.put_parts.ensures.0 c.put_parts.ensures.1 c.lay.ensures
