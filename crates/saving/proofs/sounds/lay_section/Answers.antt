use Rattle.saving.proofs.Laid.{head_room, then, room}
use Rattle.session.specs.Sections.{events_section}
use Rattle.saving.proofs.sounds.lay_section.Goals as goal

-- src/sounds.rt:91:9
pub put-oldest-requires : goal.put-oldest-requires
unfolding events_section
put-oldest-requires c = head_room _ _ _ _ c.requires.0

-- src/sounds.rt:92:5
pub lay_events-requires : goal.lay_events-requires
unfolding events_section
lay_events-requires c =
    (room c.put-oldest.ensures _ c.requires.0, c.requires.1)

-- src/sounds.rt:76:1
pub returns : goal.returns
unfolding events_section
returns c =
    then c.put-oldest.ensures c.lay_events.ensures
