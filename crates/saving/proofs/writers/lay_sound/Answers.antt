use Rattle.std.proofs.Common.{arith}
use Rattle.saving.proofs.Laid.{head_room, then, room}
use Rattle.session.specs.Sections.{float_bytes, sound_section}
use Rattle.saving.proofs.writers.lay_sound.Goals as goal

-- src/writers.rt:78:9
pub put-tone-requires : goal.put-tone-requires
unfolding sound_section
put-tone-requires c = head_room _ _ _ _ c.requires

-- src/writers.rt:79:5
pub lay_floats-requires : goal.lay_floats-requires
unfolding sound_section
lay_floats-requires c =
    (room c.put-tone.ensures (float_bytes c.args.floats.now 11 2) c.requires, omega arith)

-- src/writers.rt:74:1
pub returns : goal.returns
unfolding sound_section
returns c =
    then c.put-tone.ensures c.lay_floats.ensures
