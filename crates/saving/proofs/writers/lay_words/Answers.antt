use Rattle.std.proofs.Common.{◌++◌}
use Rattle.saving.proofs.Laid.{first_of, head_room, then, room}
use Rattle.session.specs.Sections.{slot_bytes, other_bytes, words_section}
use Rattle.saving.proofs.writers.lay_words.Goals as goal

-- src/writers.rt:39:9
pub put-own-requires : goal.put-own-requires
unfolding words_section
put-own-requires c = head_room _ _ _ _ c.requires.0

-- src/writers.rt:40:9
pub lay_slots-others-requires : goal.lay_slots-others-requires
unfolding words_section
lay_slots-others-requires c =
    first_of _ _ (slot_bytes c.args.slots.now) (other_bytes c.args.addresses.now c.args.values.now c.args.n)
    (room c.put-own.ensures (slot_bytes c.args.slots.now ++ other_bytes
    c.args.addresses.now c.args.values.now c.args.n) c.requires.0)

-- src/writers.rt:41:5
pub lay_others-requires : goal.lay_others-requires
unfolding words_section
lay_others-requires c = (
  room c.lay_slots-others.ensures (other_bytes c.args.addresses.now c.args.values.now c.args.n)
      (room c.put-own.ensures (slot_bytes c.args.slots.now ++ other_bytes c.args.addresses.now c.args.values.now
      c.args.n) c.requires.0),
  c.requires.1,
)

-- src/writers.rt:26:1
pub returns : goal.returns
unfolding words_section
returns c =
    then c.put-own.ensures (then c.lay_slots-others.ensures c.lay_others.ensures)
