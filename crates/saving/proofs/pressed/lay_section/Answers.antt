use Rattle.saving.proofs.Laid.{head_room, then, room}
use Rattle.session.specs.Sections.{presses_section}
use Rattle.saving.proofs.pressed.lay_section.Goals as goal

-- src/pressed.rt:89:9
pub put-first-requires : goal.put-first-requires
unfolding presses_section
put-first-requires c = head_room _ _ _ _ c.requires.0

-- src/pressed.rt:90:5
pub lay_presses-requires : goal.lay_presses-requires
unfolding presses_section
lay_presses-requires c =
    (room c.put-first.ensures _ c.requires.0, c.requires.1)

-- src/pressed.rt:76:1
pub returns : goal.returns
unfolding presses_section
returns c =
    then c.put-first.ensures c.lay_presses.ensures
