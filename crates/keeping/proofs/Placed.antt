-- The sections of a session in their places: the bytes of a machine stand there if and only if each run, table and
-- memory of it stands in its place.
use Prim.Native.Nat.{ℕ, ◌+◌, ◌*◌}
use mathlib.Core.Path.{◌≡◌, refl, ap, ◌∙◌}
use mathlib.Core.List.{List, ◌++◌}
use native.Mathlib.Omega.{arith}
use lib.Ieee.{Float}
use lib.ListN.{length, length-append}
use Rattle.map.specs.Numbers.{RAM_SIZE, SRAM_SIZE, GPIO_SIZE, FRAMEBUFFER_SIZE}
use Rattle.memory.specs.Bytes.{bytes_of}
use Rattle.keys.specs.Script.{places_of}
use Rattle.state.specs.Packed.{cells_of, floats_of}
use Rattle.system.specs.System.{Machine}
use Rattle.session.specs.Fields.{counted}
use Rattle.session.specs.Layout.{widths, cells_long, flags_at, panel_at, clocks_at, sound_at, flash_at, keys_at}
use Rattle.session.specs.Layout.{presses_at}
use Rattle.session.specs.Layout.{events_at, ram_at, sram_at, gpio_at, fb_at, size_of}
use Rattle.session.specs.Sections.{cell_bytes, float_bytes, slot_bytes, other_bytes, press_bytes, event_bytes}
use Rattle.session.specs.Sections.{timers_section}
use Rattle.session.specs.Sections.{words_section, flags_section, panel_section, clocks_section, sound_section}
use Rattle.session.specs.Sections.{flash_section}
use Rattle.session.specs.Sections.{keys_section, devices_sections, presses_section, events_section, memory_sections}
use Rattle.session.specs.Session.{others_of, presses_of, events_of, parts_of, table_sections, bytes_in}
use Rattle.session.proofs.Digits.{length_bytes}
use Rattle.session.proofs.Stands.{Stands, stands_first}
use Rattle.session.proofs.Long.{cells_long_lem, floats_long, slots_long, timers_long, words_long, flags_long}
use Rattle.session.proofs.Long.{panel_long}
use Rattle.session.proofs.Long.{clocks_long, sound_long, flash_long, devices_long, pressed_long, sounds_long}
use Rattle.session.proofs.Long.{memories_long, counted_long}
use Rattle.keeping.proofs.Runs.{stands_next, stands_then}

-- the lists of a machine that have one length each
pub record Sized (m : Machine) : Type 0 where
  pub rtc : length m.system.rtc ≡ 256
  pub page : length m.system.page ≡ 256
  pub ram : length m.ram ≡ RAM_SIZE
  pub sram : length m.sram ≡ SRAM_SIZE
  pub gpio : length m.gpio ≡ GPIO_SIZE
  pub fb : length m.fb ≡ FRAMEBUFFER_SIZE

abbrev pub cells : Machine → List ℕ
cells m = cells_of (parts_of m)

abbrev pub floats : Machine → List Float
floats m = floats_of (parts_of m)

-- the presses that wait, as rows
abbrev pub pressed : Machine → List ℕ
pressed m =
    press_bytes m.system.presses.starts m.system.presses.codes m.system.devices.clocks.times.now
    (places_of m.system.keys.count)

-- the section of the register words, and that of the presses, each with its count
abbrev pub words_part : Machine → ℕ → List ℕ
words_part m n =
    words_section m.system.registers.slots m.system.registers.addresses m.system.registers.values n

abbrev pub presses_part : Machine → ℕ → List ℕ
presses_part m k =
    presses_section m.system.presses.starts m.system.presses.codes m.system.devices.clocks.times.now
    (places_of m.system.keys.count) k

-- every part of a machine's session, with n other words, k presses and e sound events
pub record Placed (s : List ℕ) (m : Machine) (n k e : ℕ) : Type 0 where
  pub timer_count : Stands s 0 (bytes_of 4 6)
  pub starts : Stands s 4 (float_bytes (floats m) 3 6)
  pub pending : Stands s 52 (cell_bytes (cells m) 31 6)
  pub word_count : Stands s 58 (bytes_of 4 n)
  pub slots : Stands s 62 (slot_bytes m.system.registers.slots)
  pub others : Stands s 366 (other_bytes m.system.registers.addresses m.system.registers.values n)
  pub flag_count : Stands s (flags_at n) (bytes_of 4 2)
  pub converting : Stands s (flags_at n + 4) (cell_bytes (cells m) 40 1)
  pub off : Stands s (flags_at n + 5) (cell_bytes (cells m) 43 1)
  pub panel_count : Stands s (panel_at n) (bytes_of 4 45)
  pub panel : Stands s (panel_at n + 4) (cell_bytes (cells m) 11 14)
  pub clock_count : Stands s (clocks_at n) (bytes_of 4 328)
  pub times : Stands s (clocks_at n + 4) (float_bytes (floats m) 0 3)
  pub moments : Stands s (clocks_at n + 28) (float_bytes (floats m) 9 2)
  pub ticks : Stands s (clocks_at n + 44) (cell_bytes (cells m) 37 3)
  pub latch : Stands s (clocks_at n + 64) (cell_bytes (cells m) 41 2)
  pub rtc : Stands s (clocks_at n + 76) m.system.rtc
  pub sound_count : Stands s (sound_at n) (bytes_of 4 2)
  pub tone : Stands s (sound_at n + 4) (float_bytes (floats m) 11 2)
  pub flash_count : Stands s (flash_at n) (bytes_of 4 276)
  pub chip : Stands s (flash_at n + 4) (cell_bytes (cells m) 1 10)
  pub page : Stands s (flash_at n + 24) m.system.page
  pub key_count : Stands s (keys_at n) (bytes_of 4 28)
  pub keys : Stands s (keys_at n + 4) (cell_bytes (cells m) 47 4)
  pub taps : Stands s (keys_at n + 8) (float_bytes (floats m) 13 3)
  pub press_count : Stands s (presses_at n) (bytes_of 4 k)
  pub presses : Stands s (presses_at n + 4) (pressed m)
  pub event_count : Stands s (events_at n k) (bytes_of 4 e)
  pub events : Stands s (events_at n k + 4) (event_bytes m.system.queue e)
  pub ram_count : Stands s (ram_at n k e) (bytes_of 4 (length m.ram))
  pub ram : Stands s (ram_at n k e + 4) m.ram
  pub sram_count : Stands s (sram_at n k e) (bytes_of 4 (length m.sram))
  pub sram : Stands s (sram_at n k e + 4) m.sram
  pub gpio_count : Stands s (gpio_at n k e) (bytes_of 4 (length m.gpio))
  pub gpio : Stands s (gpio_at n k e + 4) m.gpio
  pub fb_count : Stands s (fb_at n k e) (bytes_of 4 (length m.fb))
  pub fb : Stands s (fb_at n k e + 4) m.fb

-- ---- lengths of runs

run : (l : List ℕ) (i n w : ℕ) → cells_long i n ≡ w → length (cell_bytes l i n) ≡ w
run l i n w e = cells_long_lem l i n ∙ e

pub pending_long : cells_long 31 6 ≡ 6
unfolding cells_long widths
pending_long = refl

pub converting_long : cells_long 40 1 ≡ 1
unfolding cells_long widths
converting_long = refl

pub off_long : cells_long 43 1 ≡ 1
unfolding cells_long widths
off_long = refl

pub drawing_long : cells_long 11 14 ≡ 45
unfolding cells_long widths
drawing_long = refl

pub ticks_long : cells_long 37 3 ≡ 20
unfolding cells_long widths
ticks_long = refl

pub latch_long : cells_long 41 2 ≡ 12
unfolding cells_long widths
latch_long = refl

pub chip_long : cells_long 1 10 ≡ 20
unfolding cells_long widths
chip_long = refl

pub down_long : cells_long 47 4 ≡ 4
unfolding cells_long widths
down_long = refl

-- ---- a section: its count, and what is behind it

module _ (s : List ℕ) (at c : ℕ) (bytes : List ℕ) where
  behind : at + length (bytes_of 4 c) ≡ at + 4
  behind = ap (λ (k : ℕ). at + k) (length_bytes 4 c)

  counted_apart : Stands s at (counted c bytes) → Stands s at (bytes_of 4 c) × Stands s (at + 4) bytes
  counted_apart h = (stands_first s at (bytes_of 4 c) bytes h, stands_then s at (bytes_of 4 c) bytes (at + 4) behind h)

  counted_joined : Stands s at (bytes_of 4 c) → Stands s (at + 4) bytes → Stands s at (counted c bytes)
  counted_joined f g = stands_next s at (bytes_of 4 c) bytes (at + 4) behind f g

-- ---- the sections of a machine, taken apart and joined

module _ (s : List ℕ) (m : Machine) (n k e : ℕ) where
  timers_apart : Stands s 0 (timers_section (cells m) (floats m))
      → Stands s 0 (bytes_of 4 6)
      × Stands s 4 (float_bytes (floats m) 3 6)
      × Stands s 52 (cell_bytes (cells m) 31 6)
  unfolding timers_section
  timers_apart h =
      let c0 = counted_apart s 0 6 _ h in
      let size0 = floats_long (floats m) 3 6 in
      let c1 = stands_then s 4 (float_bytes (floats m) 3 6) _ 52 (omega arith) c0.1 in
      (c0.0, stands_first s 4 _ _ c0.1, c1)

  timers_joined : Stands s 0 (bytes_of 4 6)
      → Stands s 4 (float_bytes (floats m) 3 6)
      → Stands s 52 (cell_bytes (cells m) 31 6)
      → Stands s 0 (timers_section (cells m) (floats m))
  unfolding timers_section
  timers_joined a p0 p1 =
      let size0 = floats_long (floats m) 3 6 in
      let q0 = stands_next s 4 (float_bytes (floats m) 3 6) _ 52 (omega arith) p0 p1 in
      counted_joined s 0 6 _ a q0

  words_apart : Stands s 58 (words_part m n)
      → Stands s 58 (bytes_of 4 n)
      × Stands s 62 (slot_bytes m.system.registers.slots)
      × Stands s 366 (other_bytes m.system.registers.addresses m.system.registers.values n)
  unfolding words_section
  words_apart h =
      let c0 = counted_apart s 58 n _ h in
      let size0 = slots_long m.system.registers.slots in
      let c1 = stands_then s 62 (slot_bytes m.system.registers.slots) _ 366 (omega arith) c0.1 in
      (c0.0, stands_first s 62 _ _ c0.1, c1)

  words_joined : Stands s 58 (bytes_of 4 n)
      → Stands s 62 (slot_bytes m.system.registers.slots)
      → Stands s 366 (other_bytes m.system.registers.addresses m.system.registers.values n)
      → Stands s 58 (words_part m n)
  unfolding words_section
  words_joined a p0 p1 =
      let size0 = slots_long m.system.registers.slots in
      let q0 = stands_next s 62 (slot_bytes m.system.registers.slots) _ 366 (omega arith) p0 p1 in
      counted_joined s 58 n _ a q0

  flags_apart : Stands s (flags_at n) (flags_section (cells m))
      → Stands s (flags_at n) (bytes_of 4 2)
      × Stands s (flags_at n + 4) (cell_bytes (cells m) 40 1)
      × Stands s (flags_at n + 5) (cell_bytes (cells m) 43 1)
  unfolding flags_section
  flags_apart h =
      let c0 = counted_apart s (flags_at n) 2 _ h in
      let size0 = run (cells m) 40 1 1 converting_long in
      let c1 = stands_then s (flags_at n + 4) (cell_bytes (cells m) 40 1) _ (flags_at n + 5) (omega arith) c0.1 in
      (c0.0, stands_first s (flags_at n + 4) _ _ c0.1, c1)

  flags_joined : Stands s (flags_at n) (bytes_of 4 2)
      → Stands s (flags_at n + 4) (cell_bytes (cells m) 40 1)
      → Stands s (flags_at n + 5) (cell_bytes (cells m) 43 1)
      → Stands s (flags_at n) (flags_section (cells m))
  unfolding flags_section
  flags_joined a p0 p1 =
      let size0 = run (cells m) 40 1 1 converting_long in
      let q0 = stands_next s (flags_at n + 4) (cell_bytes (cells m) 40 1) _ (flags_at n + 5) (omega arith) p0 p1 in
      counted_joined s (flags_at n) 2 _ a q0

  panels_apart : Stands s (panel_at n) (panel_section (cells m))
      → Stands s (panel_at n) (bytes_of 4 45)
      × Stands s (panel_at n + 4) (cell_bytes (cells m) 11 14)
  unfolding panel_section
  panels_apart h =
      let c0 = counted_apart s (panel_at n) 45 _ h in
      (c0.0, c0.1)

  panels_joined : Stands s (panel_at n) (bytes_of 4 45)
      → Stands s (panel_at n + 4) (cell_bytes (cells m) 11 14)
      → Stands s (panel_at n) (panel_section (cells m))
  unfolding panel_section
  panels_joined a p0 =
      counted_joined s (panel_at n) 45 _ a p0

  clocks_apart : Stands s (clocks_at n) (clocks_section (cells m) (floats m) m.system.rtc)
      → Stands s (clocks_at n) (bytes_of 4 328)
      × Stands s (clocks_at n + 4) (float_bytes (floats m) 0 3)
      × Stands s (clocks_at n + 28) (float_bytes (floats m) 9 2)
      × Stands s (clocks_at n + 44) (cell_bytes (cells m) 37 3)
      × Stands s (clocks_at n + 64) (cell_bytes (cells m) 41 2)
      × Stands s (clocks_at n + 76) m.system.rtc
  unfolding clocks_section
  clocks_apart h =
      let c0 = counted_apart s (clocks_at n) 328 _ h in
      let size0 = floats_long (floats m) 0 3 in
      let c1 = stands_then s (clocks_at n + 4) (float_bytes (floats m) 0 3) _ (clocks_at n + 28) (omega arith) c0.1 in
      let size1 = floats_long (floats m) 9 2 in
      let c2 = stands_then s (clocks_at n + 28) (float_bytes (floats m) 9 2) _ (clocks_at n + 44) (omega arith) (c1) in
      let size2 = run (cells m) 37 3 20 ticks_long in
      let c3 = stands_then s (clocks_at n + 44) (cell_bytes (cells m) 37 3) _ (clocks_at n + 64) (omega arith) (c2) in
      let size3 = run (cells m) 41 2 12 latch_long in
      let c4 = stands_then s (clocks_at n + 64) (cell_bytes (cells m) 41 2) _ (clocks_at n + 76) (omega arith) (c3) in (
        c0.0,
        stands_first s (clocks_at n + 4) _ _ c0.1,
        stands_first s (clocks_at n + 28) _ _ c1,
        stands_first s (clocks_at n + 44) _ _ c2,
        stands_first s (clocks_at n + 64) _ _ c3,
        c4,
      )

  clocks_joined : Stands s (clocks_at n) (bytes_of 4 328)
      → Stands s (clocks_at n + 4) (float_bytes (floats m) 0 3)
      → Stands s (clocks_at n + 28) (float_bytes (floats m) 9 2)
      → Stands s (clocks_at n + 44) (cell_bytes (cells m) 37 3)
      → Stands s (clocks_at n + 64) (cell_bytes (cells m) 41 2)
      → Stands s (clocks_at n + 76) m.system.rtc
      → Stands s (clocks_at n) (clocks_section (cells m) (floats m) m.system.rtc)
  unfolding clocks_section
  clocks_joined a p0 p1 p2 p3 p4 =
      let size3 = run (cells m) 41 2 12 latch_long in
      let q3 = stands_next s (clocks_at n + 64) (cell_bytes (cells m) 41 2) _ (clocks_at n + 76) (omega arith) p3 p4 in
      let size2 = run (cells m) 37 3 20 ticks_long in
      let q2 = stands_next s (clocks_at n + 44) (cell_bytes (cells m) 37 3) _ (clocks_at n + 64) (omega arith) p2 q3 in
      let size1 = floats_long (floats m) 9 2 in
      let q1 = stands_next s (clocks_at n + 28) (float_bytes (floats m) 9 2) _ (clocks_at n + 44) (omega arith) p1 q2 in
      let size0 = floats_long (floats m) 0 3 in
      let q0 = stands_next s (clocks_at n + 4) (float_bytes (floats m) 0 3) _ (clocks_at n + 28) (omega arith) p0 q1 in
      counted_joined s (clocks_at n) 328 _ a q0

  sounds_apart : Stands s (sound_at n) (sound_section (floats m))
      → Stands s (sound_at n) (bytes_of 4 2)
      × Stands s (sound_at n + 4) (float_bytes (floats m) 11 2)
  unfolding sound_section
  sounds_apart h =
      let c0 = counted_apart s (sound_at n) 2 _ h in
      (c0.0, c0.1)

  sounds_joined : Stands s (sound_at n) (bytes_of 4 2)
      → Stands s (sound_at n + 4) (float_bytes (floats m) 11 2)
      → Stands s (sound_at n) (sound_section (floats m))
  unfolding sound_section
  sounds_joined a p0 =
      counted_joined s (sound_at n) 2 _ a p0

  flashes_apart : Stands s (flash_at n) (flash_section (cells m) m.system.page)
      → Stands s (flash_at n) (bytes_of 4 276)
      × Stands s (flash_at n + 4) (cell_bytes (cells m) 1 10)
      × Stands s (flash_at n + 24) m.system.page
  unfolding flash_section
  flashes_apart h =
      let c0 = counted_apart s (flash_at n) 276 _ h in
      let size0 = run (cells m) 1 10 20 chip_long in
      let c1 = stands_then s (flash_at n + 4) (cell_bytes (cells m) 1 10) _ (flash_at n + 24) (omega arith) c0.1 in
      (c0.0, stands_first s (flash_at n + 4) _ _ c0.1, c1)

  flashes_joined : Stands s (flash_at n) (bytes_of 4 276)
      → Stands s (flash_at n + 4) (cell_bytes (cells m) 1 10)
      → Stands s (flash_at n + 24) m.system.page
      → Stands s (flash_at n) (flash_section (cells m) m.system.page)
  unfolding flash_section
  flashes_joined a p0 p1 =
      let size0 = run (cells m) 1 10 20 chip_long in
      let q0 = stands_next s (flash_at n + 4) (cell_bytes (cells m) 1 10) _ (flash_at n + 24) (omega arith) p0 p1 in
      counted_joined s (flash_at n) 276 _ a q0

  keyed_apart : Stands s (keys_at n) (keys_section (cells m) (floats m))
      → Stands s (keys_at n) (bytes_of 4 28)
      × Stands s (keys_at n + 4) (cell_bytes (cells m) 47 4)
      × Stands s (keys_at n + 8) (float_bytes (floats m) 13 3)
  unfolding keys_section
  keyed_apart h =
      let c0 = counted_apart s (keys_at n) 28 _ h in
      let size0 = run (cells m) 47 4 4 down_long in
      let c1 = stands_then s (keys_at n + 4) (cell_bytes (cells m) 47 4) _ (keys_at n + 8) (omega arith) c0.1 in
      (c0.0, stands_first s (keys_at n + 4) _ _ c0.1, c1)

  keyed_joined : Stands s (keys_at n) (bytes_of 4 28)
      → Stands s (keys_at n + 4) (cell_bytes (cells m) 47 4)
      → Stands s (keys_at n + 8) (float_bytes (floats m) 13 3)
      → Stands s (keys_at n) (keys_section (cells m) (floats m))
  unfolding keys_section
  keyed_joined a p0 p1 =
      let size0 = run (cells m) 47 4 4 down_long in
      let q0 = stands_next s (keys_at n + 4) (cell_bytes (cells m) 47 4) _ (keys_at n + 8) (omega arith) p0 p1 in
      counted_joined s (keys_at n) 28 _ a q0

  presses_at_apart : Stands s (presses_at n) (presses_part m k)
      → Stands s (presses_at n) (bytes_of 4 k)
      × Stands s (presses_at n + 4) (pressed m)
  unfolding presses_section
  presses_at_apart h =
      let c0 = counted_apart s (presses_at n) k _ h in
      (c0.0, c0.1)

  presses_at_joined : Stands s (presses_at n) (bytes_of 4 k)
      → Stands s (presses_at n + 4) (pressed m)
      → Stands s (presses_at n) (presses_part m k)
  unfolding presses_section
  presses_at_joined a p0 =
      counted_joined s (presses_at n) k _ a p0

  events_at_apart : Stands s (events_at n k) (events_section m.system.queue e)
      → Stands s (events_at n k) (bytes_of 4 e)
      × Stands s (events_at n k + 4) (event_bytes m.system.queue e)
  unfolding events_section
  events_at_apart h =
      let c0 = counted_apart s (events_at n k) e _ h in
      (c0.0, c0.1)

  events_at_joined : Stands s (events_at n k) (bytes_of 4 e)
      → Stands s (events_at n k + 4) (event_bytes m.system.queue e)
      → Stands s (events_at n k) (events_section m.system.queue e)
  unfolding events_section
  events_at_joined a p0 =
      counted_joined s (events_at n k) e _ a p0

module _ (s : List ℕ) (m : Machine) (z : Sized m) where
  abbrev n : ℕ
  n = others_of m

  abbrev k : ℕ
  k = presses_of m

  abbrev e : ℕ
  e = events_of m

  abbrev l : List ℕ
  l = cells m

  abbrev f : List Float
  f = floats m

  abbrev timers_here : List ℕ
  timers_here = timers_section l f

  abbrev devices_here : List ℕ
  devices_here = devices_sections l f m.system.rtc m.system.page

  abbrev events_here : List ℕ
  events_here = events_section m.system.queue e

  abbrev memories_here : List ℕ
  memories_here = memory_sections m.ram m.sram m.gpio m.fb

  words_here_long : length (words_part m n) ≡ 308 + 8 * n
  words_here_long =
      words_long m.system.registers.slots m.system.registers.addresses m.system.registers.values n

  tables_long : length (table_sections m) ≡ 8 + (9 * k + 24 * e)
  unfolding table_sections
  tables_long =
      let a = pressed_long m.system.presses.starts m.system.presses.codes
      m.system.devices.clocks.times.now (places_of m.system.keys.count) k refl in
      let b = sounds_long m.system.queue e in
      let c = length-append (presses_part m k) events_here in
      omega arith

  -- how long the session is
  pub session_long : length (bytes_in m) ≡ size_of n k e
  unfolding bytes_in
  session_long =
      let a = timers_long l f in
      let b = words_here_long in
      let c = devices_long l f m.system.rtc m.system.page z.rtc z.page in
      let d = tables_long in
      let g = memories_long m.ram m.sram m.gpio m.fb in
      let ram = z.ram in
      let sram = z.sram in
      let gpio = z.gpio in
      let fb = z.fb in
      let q0 = length-append timers_here ((words_part m n) ++ (devices_here ++ (table_sections m ++ memories_here))) in
      let q1 = length-append (words_part m n) (devices_here ++ (table_sections m ++ memories_here)) in
      let q2 = length-append devices_here (table_sections m ++ memories_here) in
      let q3 = length-append (table_sections m) memories_here in
      omega arith

  -- ---- the places of the sections

  module _ (h : Stands s 0 (bytes_in m)) where
    timers_here_lem : Stands s 0 timers_here
    unfolding bytes_in
    timers_here_lem = stands_first s 0 _ _ h

    past_timers : Stands s 58 ((words_part m n) ++ (devices_here ++ (table_sections m ++ memories_here)))
    unfolding bytes_in
    past_timers = stands_then s 0 timers_here _ 58 (let a = timers_long l f in omega arith) h

    words_here : Stands s 58 (words_part m n)
    words_here = stands_first s 58 _ _ past_timers

    past_words : Stands s (flags_at n) (devices_here ++ (table_sections m ++ memories_here))
    past_words =
        let a = words_here_long in
        stands_then s 58 (words_part m n) _ (flags_at n) (omega arith) past_timers

    devices_here_lem : Stands s (flags_at n) devices_here
    devices_here_lem = stands_first s (flags_at n) _ _ past_words

    past_devices : Stands s (presses_at n) (table_sections m ++ memories_here)
    past_devices =
        let a = devices_long l f m.system.rtc m.system.page z.rtc z.page in
        stands_then s (flags_at n) devices_here _ (presses_at n) (omega arith) past_words

    tables_here : Stands s (presses_at n) ((presses_part m k) ++ events_here)
    unfolding table_sections
    tables_here = stands_first s (presses_at n) _ memories_here past_devices

    presses_here : Stands s (presses_at n) (presses_part m k)
    presses_here = stands_first s (presses_at n) _ _ tables_here

    events_here_lem : Stands s (events_at n k) events_here
    events_here_lem =
        let a = pressed_long m.system.presses.starts m.system.presses.codes
        m.system.devices.clocks.times.now (places_of m.system.keys.count) k refl in
        stands_then s (presses_at n) (presses_part m k) _ (events_at n k) (omega arith) tables_here

    memories_here_lem : Stands s (ram_at n k e) memories_here
    memories_here_lem =
        let a = tables_long in
        stands_then s (presses_at n) (table_sections m) _ (ram_at n k e) (omega arith) past_devices

    -- the devices
    flags_here : Stands s (flags_at n) (flags_section l)
    unfolding devices_sections
    flags_here = stands_first s (flags_at n) _ _ devices_here_lem

    past_flags : Stands s (panel_at n)
        (panel_section l
        ++ (clocks_section l f m.system.rtc
        ++ (sound_section f ++ (flash_section l m.system.page ++ keys_section l f))))
    unfolding devices_sections
    past_flags =
        let a = flags_long l in stands_then s (flags_at n) (flags_section l) _ (panel_at n) (omega arith)
        devices_here_lem

    past_panel : Stands s (clocks_at n)
        (clocks_section l f m.system.rtc
        ++ (sound_section f ++ (flash_section l m.system.page ++ keys_section l f)))
    past_panel =
        let a = panel_long l in stands_then s (panel_at n) (panel_section l) _ (clocks_at n) (omega arith) past_flags

    past_clocks : Stands s (sound_at n) (sound_section f ++ (flash_section l m.system.page ++ keys_section l f))
    past_clocks =
        let a = clocks_long l f m.system.rtc z.rtc in
        stands_then s (clocks_at n) (clocks_section l f m.system.rtc) _ (sound_at n) (omega arith) past_panel

    past_sound : Stands s (flash_at n) (flash_section l m.system.page ++ keys_section l f)
    past_sound =
        let a = sound_long f in stands_then s (sound_at n) (sound_section f) _ (flash_at n) (omega arith) past_clocks

    past_flash : Stands s (keys_at n) (keys_section l f)
    past_flash =
        let a = flash_long l m.system.page z.page in
        stands_then s (flash_at n) (flash_section l m.system.page) _ (keys_at n) (omega arith) past_sound

    -- the memories
    ram_here : Stands s (ram_at n k e) (counted (length m.ram) m.ram)
    unfolding memory_sections
    ram_here = stands_first s (ram_at n k e) _ _ memories_here_lem

    past_ram : Stands s (sram_at n k e)
        (counted (length m.sram) m.sram
        ++ (counted (length m.gpio) m.gpio ++ counted (length m.fb) m.fb))
    unfolding memory_sections
    past_ram =
        let a = counted_long (length m.ram) m.ram in
        let size = z.ram in
        stands_then s (ram_at n k e) (counted (length m.ram) m.ram) _ (sram_at n k e) (omega arith) memories_here_lem

    past_sram : Stands s (gpio_at n k e) (counted (length m.gpio) m.gpio ++ counted (length m.fb) m.fb)
    past_sram =
        let a = counted_long (length m.sram) m.sram in
        let size = z.sram in
        stands_then s (sram_at n k e) (counted (length m.sram) m.sram) _ (gpio_at n k e) (omega arith) past_ram

    past_gpio : Stands s (fb_at n k e) (counted (length m.fb) m.fb)
    past_gpio =
        let a = counted_long (length m.gpio) m.gpio in
        let size = z.gpio in
        stands_then s (gpio_at n k e) (counted (length m.gpio) m.gpio) _ (fb_at n k e) (omega arith) past_sram

    -- EVERY PART STANDS IN ITS PLACE
    pub placed : Placed s m n k e
    placed =
        let a = timers_apart s m n k e timers_here_lem in
        let b = words_apart s m n k e words_here in
        let c = flags_apart s m n k e flags_here in
        let d = panels_apart s m n k e (stands_first s (panel_at n) _ _ past_flags) in
        let g = clocks_apart s m n k e (stands_first s (clocks_at n) _ _ past_panel) in
        let i = sounds_apart s m n k e (stands_first s (sound_at n) _ _ past_clocks) in
        let j = flashes_apart s m n k e (stands_first s (flash_at n) _ _ past_sound) in
        let o = keyed_apart s m n k e past_flash in
        let p = presses_at_apart s m n k e presses_here in
        let q = events_at_apart s m n k e events_here_lem in
        let t = counted_apart s (ram_at n k e) (length m.ram) m.ram ram_here in
        let u = counted_apart s (sram_at n k e) (length m.sram) m.sram
        (stands_first s (sram_at n k e) _ _ past_ram) in
        let v = counted_apart s (gpio_at n k e) (length m.gpio) m.gpio
        (stands_first s (gpio_at n k e) _ _ past_sram) in
        let w = counted_apart s (fb_at n k e) (length m.fb) m.fb past_gpio in
        record {
          timer_count = a.0;
          starts = a.1;
          pending = a.2;
          word_count = b.0;
          slots = b.1;
          others = b.2;
          flag_count = c.0;
          converting = c.1;
          off = c.2;
          panel_count = d.0;
          panel = d.1;
          clock_count = g.0;
          times = g.1;
          moments = g.2;
          ticks = g.3;
          latch = g.4;
          rtc = g.5;
          sound_count = i.0;
          tone = i.1;
          flash_count = j.0;
          chip = j.1;
          page = j.2;
          key_count = o.0;
          keys = o.1;
          taps = o.2;
          press_count = p.0;
          presses = p.1;
          event_count = q.0;
          events = q.1;
          ram_count = t.0;
          ram = t.1;
          sram_count = u.0;
          sram = u.1;
          gpio_count = v.0;
          gpio = v.1;
          fb_count = w.0;
          fb = w.1;
        }

  -- ---- and back

  module _ (p : Placed s m n k e) where
    devices_joined : Stands s (flags_at n) devices_here
    unfolding devices_sections
    devices_joined =
        let l1 = flags_long l in
        let l2 = panel_long l in
        let l3 = clocks_long l f m.system.rtc z.rtc in
        let l4 = sound_long f in
        let l5 = flash_long l m.system.page z.page in
        let a = flags_joined s m n k e p.flag_count p.converting p.off in
        let b = panels_joined s m n k e p.panel_count p.panel in
        let c = clocks_joined s m n k e p.clock_count p.times p.moments p.ticks p.latch p.rtc in
        let d = sounds_joined s m n k e p.sound_count p.tone in
        let g = flashes_joined s m n k e p.flash_count p.chip p.page in
        let i = keyed_joined s m n k e p.key_count p.keys p.taps in
        stands_next s (flags_at n) (flags_section l) _ (panel_at n) (omega arith) a
        (stands_next s (panel_at n) (panel_section l) _ (clocks_at n) (omega arith) b
        (stands_next s (clocks_at n) (clocks_section l f m.system.rtc) _ (sound_at n) (omega arith) c
        (stands_next s (sound_at n) (sound_section f) _ (flash_at n) (omega arith) d
        (stands_next s (flash_at n) (flash_section l m.system.page) (keys_section l f) (keys_at n) (omega arith) g i))))

    tables_joined : Stands s (presses_at n) (table_sections m)
    unfolding table_sections
    tables_joined =
        let a = pressed_long m.system.presses.starts m.system.presses.codes
        m.system.devices.clocks.times.now (places_of m.system.keys.count) k refl in
        stands_next s (presses_at n) (presses_part m k) events_here (events_at n k) (omega arith)
        (presses_at_joined s m n k e p.press_count p.presses)
        (events_at_joined s m n k e p.event_count p.events)

    memories_joined : Stands s (ram_at n k e) memories_here
    unfolding memory_sections
    memories_joined =
        let l1 = counted_long (length m.ram) m.ram in
        let l2 = counted_long (length m.sram) m.sram in
        let l3 = counted_long (length m.gpio) m.gpio in
        let z1 = z.ram in
        let z2 = z.sram in
        let z3 = z.gpio in
        let a = counted_joined s (ram_at n k e) (length m.ram) m.ram p.ram_count p.ram in
        let b = counted_joined s (sram_at n k e) (length m.sram) m.sram p.sram_count p.sram in
        let c = counted_joined s (gpio_at n k e) (length m.gpio) m.gpio p.gpio_count p.gpio in
        let d = counted_joined s (fb_at n k e) (length m.fb) m.fb p.fb_count p.fb in
        stands_next s (ram_at n k e) (counted (length m.ram) m.ram) _ (sram_at n k e) (omega arith) a
        (stands_next s (sram_at n k e) (counted (length m.sram) m.sram) _ (gpio_at n k e) (omega arith) b
        (stands_next s (gpio_at n k e) (counted (length m.gpio) m.gpio) (counted (length m.fb) m.fb)
        (fb_at n k e) (omega arith) c d))

    pub joined : Stands s 0 (bytes_in m)
    unfolding bytes_in
    joined =
        let l1 = timers_long l f in
        let l2 = words_here_long in
        let l3 = devices_long l f m.system.rtc m.system.page z.rtc z.page in
        let l4 = tables_long in
        let a = timers_joined s m n k e p.timer_count p.starts p.pending in
        let b = words_joined s m n k e p.word_count p.slots p.others in
        stands_next s 0 timers_here _ 58 (omega arith) a
        (stands_next s 58 (words_part m n) _ (flags_at n) (omega arith) b
        (stands_next s (flags_at n) devices_here _ (presses_at n) (omega arith) devices_joined
        (stands_next s (presses_at n) (table_sections m) memories_here (ram_at n k e) (omega arith) tables_joined
        memories_joined)))
