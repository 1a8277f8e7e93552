use Rattle.std.proofs.Common.{◌++◌}
use Rattle.saving.proofs.Laid.{first_of, zero_room, then, room}
use Rattle.session.specs.Sections.{timers_section, words_section, devices_sections, presses_section, events_section}
use Rattle.session.specs.Sections.{memory_sections}
use Rattle.saving.specs.Inner.{layout}
use Rattle.timer.specs.Events.{queue_of}
use Rattle.saving.proofs.units.lay.Goals as goal

-- src/units.rt:66:9
pub lay_timers-words-requires : goal.lay_timers-words-requires
unfolding layout
lay_timers-words-requires c =
    first_of _ _ (timers_section c.args.cells.now c.args.floats.now)
    (words_section c.args.slots.now c.args.addresses.now c.args.values.now c.args.n ++
    (devices_sections c.args.cells.now c.args.floats.now c.args.rtc.now c.args.page.now ++
    (presses_section c.args.starts.now c.args.codes.now c.args.time c.args.places c.args.k ++
    (events_section (queue_of c.args.onsets.now c.args.frequencies.now c.args.duties.now c.args.ring) c.args.e
    ++ memory_sections c.args.ram.now c.args.sram.now c.args.gpio.now c.args.fb.now))))
    (zero_room _ _ c.requires.0)

-- src/units.rt:67:9
pub lay_words-devices-requires : goal.lay_words-devices-requires
unfolding layout
lay_words-devices-requires c = (
  first_of _ _ (words_section c.args.slots.now c.args.addresses.now c.args.values.now c.args.n)
      (devices_sections c.args.cells.now c.args.floats.now c.args.rtc.now c.args.page.now ++
      (presses_section c.args.starts.now c.args.codes.now c.args.time c.args.places c.args.k ++
      (events_section (queue_of c.args.onsets.now c.args.frequencies.now c.args.duties.now c.args.ring) c.args.e ++
      memory_sections c.args.ram.now c.args.sram.now c.args.gpio.now c.args.fb.now)))
      (room c.lay_timers-words.ensures (words_section c.args.slots.now c.args.addresses.now c.args.values.now
      c.args.n ++ (devices_sections c.args.cells.now c.args.floats.now c.args.rtc.now c.args.page.now ++
      (presses_section c.args.starts.now c.args.codes.now c.args.time c.args.places c.args.k ++ (events_section
      (queue_of c.args.onsets.now c.args.frequencies.now c.args.duties.now c.args.ring) c.args.e ++ memory_sections
      c.args.ram.now c.args.sram.now c.args.gpio.now c.args.fb.now)))) (zero_room _ _ c.requires.0)),
  c.requires.1.0,
)

-- src/units.rt:68:9
pub lay_devices-tables-requires : goal.lay_devices-tables-requires
unfolding layout
lay_devices-tables-requires c =
    first_of _ _ (devices_sections c.args.cells.now c.args.floats.now c.args.rtc.now
    c.args.page.now) (presses_section c.args.starts.now c.args.codes.now c.args.time c.args.places c.args.k ++
    (events_section (queue_of c.args.onsets.now c.args.frequencies.now c.args.duties.now c.args.ring) c.args.e
    ++ memory_sections c.args.ram.now c.args.sram.now c.args.gpio.now c.args.fb.now))
    (room c.lay_words-devices.ensures (devices_sections c.args.cells.now c.args.floats.now c.args.rtc.now
    c.args.page.now ++ (presses_section c.args.starts.now c.args.codes.now c.args.time c.args.places c.args.k ++
    (events_section (queue_of c.args.onsets.now c.args.frequencies.now c.args.duties.now c.args.ring) c.args.e
    ++
    memory_sections c.args.ram.now c.args.sram.now c.args.gpio.now c.args.fb.now)))
    (room c.lay_timers-words.ensures (words_section c.args.slots.now c.args.addresses.now c.args.values.now
    c.args.n ++ (devices_sections c.args.cells.now c.args.floats.now c.args.rtc.now c.args.page.now ++
    (presses_section c.args.starts.now c.args.codes.now c.args.time c.args.places c.args.k ++ (events_section
    (queue_of c.args.onsets.now c.args.frequencies.now c.args.duties.now c.args.ring) c.args.e ++ memory_sections
    c.args.ram.now c.args.sram.now c.args.gpio.now c.args.fb.now)))) (zero_room _ _ c.requires.0)))

-- src/units.rt:69:9
pub lay_section-sounds-requires : goal.lay_section-sounds-requires
unfolding layout
lay_section-sounds-requires c = (
  first_of _ _ (presses_section c.args.starts.now c.args.codes.now c.args.time c.args.places c.args.k)
      (events_section (queue_of c.args.onsets.now c.args.frequencies.now c.args.duties.now c.args.ring) c.args.e ++
      memory_sections c.args.ram.now c.args.sram.now c.args.gpio.now c.args.fb.now)
      (room c.lay_devices-tables.ensures (presses_section c.args.starts.now c.args.codes.now c.args.time
      c.args.places c.args.k ++ (events_section (queue_of c.args.onsets.now c.args.frequencies.now c.args.duties.now
      c.args.ring) c.args.e ++ memory_sections c.args.ram.now c.args.sram.now c.args.gpio.now c.args.fb.now))
      (room c.lay_words-devices.ensures (devices_sections c.args.cells.now c.args.floats.now c.args.rtc.now
      c.args.page.now ++ (presses_section c.args.starts.now c.args.codes.now c.args.time c.args.places c.args.k ++
      (events_section (queue_of c.args.onsets.now c.args.frequencies.now c.args.duties.now c.args.ring) c.args.e
      ++ memory_sections c.args.ram.now c.args.sram.now c.args.gpio.now c.args.fb.now)))
      (room c.lay_timers-words.ensures (words_section c.args.slots.now c.args.addresses.now c.args.values.now
      c.args.n ++ (devices_sections c.args.cells.now c.args.floats.now
      c.args.rtc.now c.args.page.now ++ (presses_section c.args.starts.now c.args.codes.now c.args.time
      c.args.places c.args.k ++ (events_section (queue_of c.args.onsets.now c.args.frequencies.now
      c.args.duties.now c.args.ring) c.args.e
      ++ memory_sections c.args.ram.now c.args.sram.now c.args.gpio.now c.args.fb.now))))
      (zero_room _ _ c.requires.0)))),
  c.requires.1.1.0,
)

-- src/units.rt:70:9
pub lay_section-memories-requires : goal.lay_section-memories-requires
unfolding layout
lay_section-memories-requires c = (
  first_of _ _ (events_section (queue_of c.args.onsets.now c.args.frequencies.now c.args.duties.now c.args.ring)
      c.args.e) (memory_sections c.args.ram.now c.args.sram.now c.args.gpio.now c.args.fb.now)
      (room c.lay_section-sounds.ensures
      (events_section (queue_of c.args.onsets.now c.args.frequencies.now c.args.duties.now c.args.ring) c.args.e ++
      memory_sections c.args.ram.now c.args.sram.now
      c.args.gpio.now c.args.fb.now) (room c.lay_devices-tables.ensures
      (presses_section c.args.starts.now c.args.codes.now c.args.time c.args.places c.args.k ++
      (events_section (queue_of c.args.onsets.now c.args.frequencies.now c.args.duties.now c.args.ring) c.args.e ++
      memory_sections c.args.ram.now c.args.sram.now
      c.args.gpio.now c.args.fb.now)) (room c.lay_words-devices.ensures
      (devices_sections c.args.cells.now c.args.floats.now c.args.rtc.now c.args.page.now ++
      (presses_section c.args.starts.now c.args.codes.now c.args.time c.args.places
      c.args.k ++ (events_section (queue_of c.args.onsets.now c.args.frequencies.now c.args.duties.now c.args.ring)
      c.args.e ++ memory_sections c.args.ram.now c.args.sram.now c.args.gpio.now c.args.fb.now)))
      (room c.lay_timers-words.ensures
      (words_section c.args.slots.now c.args.addresses.now c.args.values.now c.args.n ++
      (devices_sections c.args.cells.now c.args.floats.now c.args.rtc.now c.args.page.now ++
      (presses_section c.args.starts.now c.args.codes.now c.args.time c.args.places c.args.k ++
      (events_section (queue_of c.args.onsets.now c.args.frequencies.now c.args.duties.now c.args.ring) c.args.e
      ++ memory_sections c.args.ram.now c.args.sram.now c.args.gpio.now c.args.fb.now)))) (zero_room _
      _ c.requires.0))))),
  c.requires.1.1.1,
)

-- src/units.rt:71:5
pub lay_memories-requires : goal.lay_memories-requires
unfolding layout
lay_memories-requires c =
    (room c.lay_section-memories.ensures (memory_sections c.args.ram.now c.args.sram.now c.args.gpio.now
    c.args.fb.now) (room c.lay_section-sounds.ensures (events_section
    (queue_of c.args.onsets.now c.args.frequencies.now c.args.duties.now c.args.ring) c.args.e ++
    memory_sections c.args.ram.now c.args.sram.now c.args.gpio.now c.args.fb.now)
    (room c.lay_devices-tables.ensures (presses_section c.args.starts.now c.args.codes.now c.args.time
    c.args.places c.args.k ++ (events_section (queue_of c.args.onsets.now c.args.frequencies.now
    c.args.duties.now c.args.ring) c.args.e
    ++ memory_sections c.args.ram.now c.args.sram.now c.args.gpio.now c.args.fb.now))
    (room c.lay_words-devices.ensures (devices_sections c.args.cells.now c.args.floats.now c.args.rtc.now
    c.args.page.now ++ (presses_section c.args.starts.now c.args.codes.now c.args.time c.args.places c.args.k ++
    (events_section
    (queue_of c.args.onsets.now c.args.frequencies.now c.args.duties.now c.args.ring) c.args.e ++ memory_sections
    c.args.ram.now c.args.sram.now c.args.gpio.now c.args.fb.now)))
    (room c.lay_timers-words.ensures (words_section c.args.slots.now c.args.addresses.now c.args.values.now
    c.args.n ++ (devices_sections c.args.cells.now c.args.floats.now c.args.rtc.now c.args.page.now ++
    (presses_section c.args.starts.now c.args.codes.now c.args.time c.args.places
    c.args.k ++ (events_section (queue_of c.args.onsets.now c.args.frequencies.now c.args.duties.now c.args.ring)
    c.args.e ++ memory_sections c.args.ram.now c.args.sram.now c.args.gpio.now c.args.fb.now))))
    (zero_room _ _ c.requires.0))))))

-- src/units.rt:32:1
pub returns : goal.returns
unfolding layout
returns c =
    (then c.lay_timers-words.ensures (then c.lay_words-devices.ensures (then c.lay_devices-tables.ensures (then
    c.lay_section-sounds.ensures (then c.lay_section-memories.ensures (c.lay_memories.ensures)))))).laid
