use Rattle.std.proofs.Common.{◌++◌}
use Rattle.saving.proofs.Laid.{first_of, then, room}
use Rattle.session.specs.Sections.{flags_section, panel_section, clocks_section, sound_section, flash_section}
use Rattle.session.specs.Sections.{keys_section, devices_sections}
use Rattle.saving.proofs.writers.lay_devices.Goals as goal

-- src/writers.rt:114:9
pub lay_flags-drawing-requires : goal.lay_flags-drawing-requires
unfolding devices_sections
lay_flags-drawing-requires c =
    first_of _ _ (flags_section c.args.cells.now) (panel_section c.args.cells.now ++
    (clocks_section c.args.cells.now c.args.floats.now c.args.rtc.now ++ (sound_section
    c.args.floats.now ++ (flash_section c.args.cells.now c.args.page.now ++ keys_section
    c.args.cells.now c.args.floats.now)))) c.requires

-- src/writers.rt:115:9
pub lay_panel-times-requires : goal.lay_panel-times-requires
unfolding devices_sections
lay_panel-times-requires c =
    first_of _ _ (panel_section c.args.cells.now) (clocks_section c.args.cells.now c.args.floats.now c.args.rtc.now
    ++ (sound_section c.args.floats.now ++ (flash_section c.args.cells.now c.args.page.now ++ keys_section
    c.args.cells.now c.args.floats.now))) (room c.lay_flags-drawing.ensures
    (panel_section c.args.cells.now ++ (clocks_section c.args.cells.now c.args.floats.now c.args.rtc.now ++
    (sound_section c.args.floats.now
    ++ (flash_section c.args.cells.now c.args.page.now ++ keys_section c.args.cells.now
    c.args.floats.now)))) c.requires)

-- src/writers.rt:116:9
pub lay_clocks-sound-requires : goal.lay_clocks-sound-requires
unfolding devices_sections
lay_clocks-sound-requires c =
    first_of _ _ (clocks_section c.args.cells.now c.args.floats.now c.args.rtc.now)
    (sound_section c.args.floats.now ++ (flash_section c.args.cells.now c.args.page.now ++ keys_section
    c.args.cells.now c.args.floats.now)) (room c.lay_panel-times.ensures
    (clocks_section c.args.cells.now c.args.floats.now c.args.rtc.now ++
    (sound_section c.args.floats.now ++ (flash_section c.args.cells.now c.args.page.now ++ keys_section
    c.args.cells.now c.args.floats.now))) (room c.lay_flags-drawing.ensures
    (panel_section c.args.cells.now ++ (clocks_section c.args.cells.now c.args.floats.now c.args.rtc.now ++
    (sound_section c.args.floats.now ++ (flash_section c.args.cells.now c.args.page.now ++ keys_section
    c.args.cells.now c.args.floats.now)))) c.requires))

-- src/writers.rt:117:9
pub lay_sound-chip-requires : goal.lay_sound-chip-requires
unfolding devices_sections
lay_sound-chip-requires c =
    first_of _ _ (sound_section c.args.floats.now) (flash_section c.args.cells.now c.args.page.now ++ keys_section
    c.args.cells.now c.args.floats.now) (room c.lay_clocks-sound.ensures
    (sound_section c.args.floats.now ++ (flash_section c.args.cells.now c.args.page.now ++ keys_section
    c.args.cells.now c.args.floats.now)) (room c.lay_panel-times.ensures
    (clocks_section c.args.cells.now c.args.floats.now c.args.rtc.now ++
    (sound_section c.args.floats.now ++ (flash_section c.args.cells.now c.args.page.now ++ keys_section
    c.args.cells.now c.args.floats.now))) (room c.lay_flags-drawing.ensures
    (panel_section c.args.cells.now ++ (clocks_section c.args.cells.now c.args.floats.now c.args.rtc.now ++
    (sound_section c.args.floats.now ++ (flash_section c.args.cells.now c.args.page.now ++ keys_section
    c.args.cells.now c.args.floats.now)))) c.requires)))

-- src/writers.rt:118:9
pub lay_flash-down-requires : goal.lay_flash-down-requires
unfolding devices_sections
lay_flash-down-requires c =
    first_of _ _ (flash_section c.args.cells.now c.args.page.now) (keys_section c.args.cells.now c.args.floats.now)
    (room c.lay_sound-chip.ensures (flash_section c.args.cells.now c.args.page.now ++ keys_section
    c.args.cells.now c.args.floats.now) (room
    c.lay_clocks-sound.ensures (sound_section c.args.floats.now ++
    (flash_section c.args.cells.now c.args.page.now ++ keys_section c.args.cells.now c.args.floats.now)) (room
    c.lay_panel-times.ensures (clocks_section c.args.cells.now c.args.floats.now c.args.rtc.now ++
    (sound_section c.args.floats.now ++ (flash_section c.args.cells.now c.args.page.now ++ keys_section
    c.args.cells.now c.args.floats.now))) (room c.lay_flags-drawing.ensures
    (panel_section c.args.cells.now ++ (clocks_section c.args.cells.now
    c.args.floats.now c.args.rtc.now ++ (sound_section c.args.floats.now ++
    (flash_section c.args.cells.now c.args.page.now ++ keys_section c.args.cells.now
    c.args.floats.now)))) c.requires))))

-- src/writers.rt:119:5
pub lay_keys-requires : goal.lay_keys-requires
unfolding devices_sections
lay_keys-requires c =
    room c.lay_flash-down.ensures (keys_section c.args.cells.now c.args.floats.now)
    (room c.lay_sound-chip.ensures (flash_section c.args.cells.now c.args.page.now ++ keys_section
    c.args.cells.now c.args.floats.now) (room c.lay_clocks-sound.ensures
    (sound_section c.args.floats.now ++ (flash_section c.args.cells.now c.args.page.now ++ keys_section
    c.args.cells.now c.args.floats.now)) (room c.lay_panel-times.ensures
    (clocks_section c.args.cells.now c.args.floats.now c.args.rtc.now ++
    (sound_section c.args.floats.now ++ (flash_section c.args.cells.now c.args.page.now ++ keys_section
    c.args.cells.now c.args.floats.now))) (room c.lay_flags-drawing.ensures
    (panel_section c.args.cells.now ++ (clocks_section c.args.cells.now c.args.floats.now c.args.rtc.now ++
    (sound_section c.args.floats.now ++ (flash_section c.args.cells.now c.args.page.now ++ keys_section
    c.args.cells.now c.args.floats.now)))) c.requires))))

-- src/writers.rt:102:1
pub returns : goal.returns
unfolding devices_sections
returns c =
    then c.lay_flags-drawing.ensures (then c.lay_panel-times.ensures
    (then c.lay_clocks-sound.ensures (then c.lay_sound-chip.ensures
    (then c.lay_flash-down.ensures c.lay_keys.ensures))))
