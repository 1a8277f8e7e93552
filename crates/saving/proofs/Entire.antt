-- Saving as a whole, from what the functions that it calls answer.
use Prim.Native.Nat.{ℕ, ◌≤◌, ◌<◌}
use mathlib.Core.Path.{◌≡◌, sym, ap}
use mathlib.Core.Bool.{true, false}
use mathlib.Core.List.{List, ◌++◌, append_assoc}
use native.Mathlib.Omega.{arith}
use lib.Ieee.{Float}
use lib.ListN.{length, length-append}
use lib.Seq.{sets}
use borrow.Author.Tests.{lt-ltb, le-ltb}
use Rattle.map.specs.Numbers.{DONE, BAD_MEMORY, SAVE_TOO_SHORT}
use Rattle.keys.specs.Script.{places_of, waiting_in}
use Rattle.keys.proofs.Cases.{places_most}
use Rattle.timer.specs.declared.Queue.{Queue}
use Rattle.timer.specs.Events.{queue_of}
use Rattle.timer.specs.Straight.{held_of}
use Rattle.state.specs.declared.Parts.{Parts}
use Rattle.state.specs.Bank.{parts_in}
use Rattle.state.specs.Packed.{cells_of, floats_of}
use Rattle.runner.specs.Script.{bad_memory}
use Rattle.script.proofs.Wiped.{good_memory}
use Rattle.system.specs.Bank.{machine_of}
use Rattle.session.specs.Layout.{size_of}
use Rattle.session.specs.Sections.{used_of, timers_section, words_section, devices_sections, presses_section}
use Rattle.session.specs.Sections.{events_section, memory_sections}
use Rattle.session.specs.Session.{table_sections, bytes_in, saved_size, saved, save_of}
use Rattle.saving.specs.Inner.{layout}
use Rattle.session.proofs.Long.{timers_long, words_long, devices_long, pressed_long, sounds_long, memories_long}

pub places_few : {r : ℕ} (n : ℕ) → r ≡ places_of n → r ≤ 64
places_few n e = let most = places_most n in omega (arith, e)

module _ (slots addresses values rtc page : List ℕ) (onsets frequencies duties starts : List Float) (codes cells :
    List ℕ)
    (floats : List Float) (ram sram gpio fb out : List ℕ) where
  pub save_bad : bad_memory ram sram gpio fb ≡ true → saved BAD_MEMORY 0 out
      ≡ save_of (machine_of slots addresses values rtc page onsets frequencies duties starts codes (parts_in cells
      floats) ram sram gpio fb) out
  unfolding save_of
  save_bad h = rw h

  -- y are the parts; the others are counts of what is saved
  module _ (unit : bad_memory ram sram gpio fb ≡ false) {y : Parts} {n k e places size : ℕ}
      (parts : y ≡ parts_in cells floats) (first : places ≡ places_of y.keys.count) (others : n ≡ used_of values)
      (presses : k ≡ waiting_in starts y.devices.clocks.times.now places) (events : e ≡ held_of y.ring)
      (counted : size ≡ size_of n k e) where
    sized : saved_size (machine_of slots addresses values rtc page onsets frequencies duties starts codes (parts_in
        cells floats) ram sram gpio fb) ≡ size
    sized = rw (counted, others, presses, events, first, parts)

    pub save_short : length out < size → saved SAVE_TOO_SHORT 0 out
        ≡ save_of (machine_of slots addresses values rtc page onsets frequencies duties starts codes (parts_in cells
        floats) ram sram gpio fb) out
    unfolding save_of
    save_short h = rw (unit, sized, lt-ltb (length out) size h)

    laid_out : bytes_in (machine_of slots addresses values rtc page onsets frequencies duties starts codes (parts_in
        cells floats) ram sram gpio fb)
        ≡ layout (cells_of y) (floats_of y) slots addresses values n rtc page starts codes
        y.devices.clocks.times.now places k (queue_of onsets frequencies duties y.ring) e ram sram gpio fb
    unfolding bytes_in table_sections layout
    laid_out =
        rw (others, presses, events, first, parts) (ap
        (λ (t : List ℕ). timers_section (cells_of (parts_in cells floats)) (floats_of (parts_in cells floats))
        ++ (words_section slots addresses values (used_of values)
        ++ (devices_sections (cells_of (parts_in cells floats)) (floats_of (parts_in cells floats)) rtc page ++ t)))
        (append_assoc
        (presses_section starts codes (parts_in cells floats).devices.clocks.times.now
        (places_of (parts_in cells floats).keys.count)
        (waiting_in starts (parts_in cells floats).devices.clocks.times.now
        (places_of (parts_in cells floats).keys.count)))
        (events_section (queue_of onsets frequencies duties (parts_in cells floats).ring)
        (held_of (parts_in cells floats).ring))
        (memory_sections ram sram gpio fb)))

    pub save_done : size ≤ length out → {out' : List ℕ}
        → out'
        ≡ sets out 0 (layout (cells_of y) (floats_of y) slots addresses values n rtc page starts codes
        y.devices.clocks.times.now places k (queue_of onsets frequencies duties y.ring) e ram sram gpio fb)
        → saved DONE size out' ≡ save_of (machine_of slots addresses values rtc page onsets frequencies duties
        starts codes (parts_in cells floats) ram sram gpio fb) out
    unfolding save_of
    save_done fits {out'} e = rw (unit, sized, le-ltb (length out) size fits, e, laid_out)

-- ---- laying all sections, of words l and f

module _ (l : List ℕ) (f : List Float) (slots addresses values rtc page : List ℕ) (starts : List Float)
    (codes : List ℕ) (now : Float) (places : ℕ) (q : Queue) (ram sram gpio fb out : List ℕ) (n k e : ℕ) where
  -- there is room for it
  pub lay_room : bad_memory ram sram gpio fb ≡ false → k ≡ waiting_in starts now places → length rtc ≡ 256
      → length page ≡ 256
      → size_of n k e ≤ length out
      → length (layout l f slots addresses values n rtc page starts codes now places k q e ram sram gpio fb)
      ≤ length out
  unfolding layout
  lay_room unit presses r p fits =
      let t = timers_long l f in
      let w = words_long slots addresses values n in
      let d = devices_long l f rtc page r p in
      let x = pressed_long starts codes now places k (sym presses) in
      let v = sounds_long q e in
      let m = memories_long ram sram gpio fb in
      let u = good_memory ram sram gpio fb unit in
      let ur = u.ram_size in
      let us = u.sram_size in
      let ug = u.gpio_size in
      let uf = u.fb_size in
      let five = length-append (events_section q e) (memory_sections ram sram gpio fb) in
      let four = length-append (presses_section starts codes now places k)
      (events_section q e ++ memory_sections ram sram gpio fb) in
      let three = length-append (devices_sections l f rtc page)
      (presses_section starts codes now places k ++ (events_section q e ++ memory_sections ram sram gpio fb)) in
      let two = length-append (words_section slots addresses values n)
      (devices_sections l f rtc page
      ++ (presses_section starts codes now places k ++ (events_section q e ++ memory_sections ram sram gpio fb))) in
      let one = length-append (timers_section l f)
      (words_section slots addresses values n
      ++ (devices_sections l f rtc page
      ++ (presses_section starts codes now places k ++ (events_section q e ++ memory_sections ram sram gpio fb)))) in
      omega arith

  -- words that are those of parts
  pub lay_packed : (y : Parts) → l ≡ cells_of y → f ≡ floats_of y → {out' : List ℕ}
      → out' ≡ sets out 0 (layout l f slots addresses values n rtc page starts codes now places k q e ram sram gpio fb)
      → out'
      ≡ sets out 0 (layout (cells_of y) (floats_of y) slots addresses values n rtc page starts codes now places k q e
      ram sram gpio fb)
  lay_packed y cells_are floats_are laid = rw (← cells_are, ← floats_are) laid
