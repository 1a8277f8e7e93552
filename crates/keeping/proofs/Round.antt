-- Reading what was written gives the same machine but for the counts of periods and the places.
use Prim.Native.Nat.{ℕ, ◌+◌, ◌*◌, ◌≤◌}
use mathlib.Core.Path.{◌≡◌, refl, sym, ap, ◌∙◌}
use mathlib.Core.List.{List}
use native.Mathlib.Omega.{arith}
use lib.Ieee.{Float, nan}
use lib.ListN.{get_or, set, get_or-eq_default}
use Rattle.map.specs.Numbers.{RAM_SIZE, SRAM_SIZE, GPIO_SIZE, FRAMEBUFFER_SIZE}
use Rattle.whole.specs.Forms.{nought}
use Rattle.whole.proofs.Choice.{by_less}
use Rattle.registers.specs.Words as registers
use Rattle.registers.proofs.Order.{free_behind}
use Rattle.flash.specs.declared.Mode.{Mode}
use Rattle.flash.specs.declared.Mode.TheVariants.{Rust}
use Rattle.flash.specs.declared.Chip.{Chip}
use Rattle.timer.specs.Events.{ring_of}
use Rattle.timer.specs.Straight.{straight, straightened}
use Rattle.timer.specs.Timers.{resynced_of}
use Rattle.keys.specs.Script.{places_of}
use Rattle.keys.specs.Closed.{waiting_of, padded, closed_up}
use Rattle.keys.specs.Within.{with_count}
use Rattle.state.specs.declared.Parts.{Parts}
use Rattle.state.specs.Bank.{mode_in, chip_in, panel_in, times_in, timer_in, irq_in, latch_in, tone_in, ring_in}
use Rattle.state.specs.Bank.{keys_in, parts_in}
use Rattle.state.specs.Packed.{chip_cells, panel_cells, clock_cells, key_cells, times_floats, cells_of, floats_of}
use Rattle.state.specs.Parts.{parts, clocks_put, with_clocks, with_flash}
use Rattle.time.specs.Clocks.{clock_in}
use Rattle.time.specs.Resync.{timers_resynced, clocks_resynced}
use Rattle.system.specs.System.{Machine}
use Rattle.system.specs.Bank.{machine_of}
use Rattle.system.specs.Normal.{system_normal, normal}
use Rattle.system.specs.Limits.{WithinLimits}
use Rattle.session.specs.Fields.{part}
use Rattle.session.specs.Layout.{clocks_at, flash_at, presses_at, events_at, ram_at, sram_at, gpio_at, fb_at}
use Rattle.session.specs.Read.{float_at, cells_in, floats_in, slots_in, places_in, starts_in, codes_in, column_in}
use Rattle.session.specs.Good.{others_in, presses_in, events_in}
use Rattle.session.specs.Session as session
use Rattle.session.specs.Session.{presses_of, events_of, parts_of, bytes_in, bank_in, parts_read, parts_back}
use Rattle.session.specs.Session.{machine_in}
use Rattle.keeping.specs.Typed.{Typed, UnitLengths}
use Rattle.keeping.proofs.Placed.{cells, floats}
use Rattle.keeping.proofs.Runs.{copied}
use Rattle.keeping.proofs.Ranges.{saved_of}
use Rattle.keeping.proofs.Written.{part_read, slots_read, places_read, column_read, time_read, frequency_read}
use Rattle.keeping.proofs.Written.{duty_read}
use Rattle.keeping.proofs.Presses.{starts_read, codes_read}
use Rattle.keeping.proofs.Saved as saved

-- ---- the machine of bytes, with n other words, k presses and e sound events

-- the parts that words make, with the counts of events, presses and periods
unfoldable parts_with : List ℕ → List Float → ℕ → ℕ → List ℕ → ℕ → Parts
parts_with l f e k slots clock =
    let x = parts_in (set (set l 45 e) 46 k) f in
    clocks_put x (clocks_resynced slots x.devices.clocks clock)

unfoldable machine_at : List ℕ → ℕ → ℕ → ℕ → Machine
machine_at s n k e =
    machine_of (slots_in s) (places_in s 366 n) (places_in s 370 n) (part s (clocks_at n + 76) 256)
    (part s (flash_at n + 24) 256) (column_in s (events_at n k + 4) e) (column_in s (events_at n k + 4 + 8) e)
    (column_in s (events_at n k + 4 + 16) e) (starts_in s (presses_at n + 4) k) (codes_in s (presses_at n + 4) k)
    (parts_with (cells_in s n) (floats_in s n) e k (slots_in s) (clock_in (part s (sram_at n k e + 4) SRAM_SIZE)))
    (part s (ram_at n k e + 4) RAM_SIZE) (part s (sram_at n k e + 4) SRAM_SIZE) (part s (gpio_at n k e + 4) GPIO_SIZE)
    (part s (fb_at n k e + 4) FRAMEBUFFER_SIZE)

machine_at_lem : (s : List ℕ) → machine_in s ≡ machine_at s (others_in s) (presses_in s) (events_in s)
unfolding machine_in machine_at parts_back parts_read bank_in parts_with
machine_at_lem s = refl

-- alike in every part
machine_same : {a a' b b' c c' d d' e e' : List ℕ} {f f' g g' h h' i i' : List Float} {j j' : List ℕ} {x x' : Parts}
    {k k' l l' m m' n n' : List ℕ} → a ≡ a' → b ≡ b' → c ≡ c' → d ≡ d' → e ≡ e' → f ≡ f' → g ≡ g' → h ≡ h' → i ≡ i'
    → j ≡ j' → x ≡ x' → k ≡ k' → l ≡ l' → m ≡ m' → n ≡ n'
    → machine_of a b c d e f g h i j x k l m n ≡ machine_of a' b' c' d' e' f' g' h' i' j' x' k' l' m' n'
machine_same p1 p2 p3 p4 p5 p6 p7 p8 p9 p10 p11 p12 p13 p14 p15 =
    rw (p1, p2, p3, p4, p5, p6, p7, p8, p9, p10, p11, p12, p13, p14, p15)

-- ---- the parts

chip_with : Mode → Chip → Chip
chip_with mode c = record { mode = mode; cs = c.cs; wel = c.wel; writes = c.writes; rx = c.rx; tx = c.tx }

-- what is left of parts, in a mode of the flash
kept : ℕ → ℕ → List ℕ → ℕ → Mode → Parts → Parts
kept e k slots clock mode x =
    parts
    (with_clocks (with_flash x.devices (chip_with mode x.devices.flash))
    (clocks_resynced slots x.devices.clocks clock))
    (ring_of 0 e) (with_count x.keys k)

kept_words : (x : Parts) (e k : ℕ) (slots : List ℕ) (clock : ℕ)
    → parts_with (saved_of (cells_of x)) (floats_of x) e k slots clock
    ≡ kept e k slots clock Rust (parts_in (cells_of x) (floats_of x))
unfolding parts_with kept chip_with saved_of copied cells_of chip_cells panel_cells clock_cells key_cells floats_of
    times_floats
    mode_in chip_in panel_in times_in timer_in irq_in latch_in tone_in ring_in keys_in clocks_resynced
    timers_resynced resynced_of
kept_words x e k slots clock = refl

kept_same : (x : Parts) (e k : ℕ) (slots : List ℕ) (clock : ℕ)
    → kept e k slots clock x.devices.flash.mode x
    ≡ parts (with_clocks x.devices (clocks_resynced slots x.devices.clocks clock)) (ring_of 0 e)
    (with_count x.keys k)
unfolding kept chip_with
kept_same x e k slots clock = refl

module _ (m : Machine) (w : WithinLimits m) (t : Typed m) (u : UnitLengths m) where
  abbrev s : List ℕ
  s = bytes_in m

  abbrev n : ℕ
  n = session.others_of m

  abbrev k : ℕ
  k = presses_of m

  abbrev e : ℕ
  e = events_of m

  abbrev slots : List ℕ
  slots = m.system.registers.slots

  -- ---- part by part

  pub slots_back : slots_in s ≡ slots
  slots_back = slots_read s slots t.slots (saved.here m w t u).slots w.registers.slots

  -- past the used places there are zeros
  free_values : (i : ℕ) → n ≤ i → get_or m.system.registers.values i 0 ≡ 0
  free_values i least =
      by_less n 256
      (λ less. free_behind (registers.others_of m.system.registers) w.registers.others n i least
      ((saved.others_used m w t u).free (omega arith)))
      (λ past. get_or-eq_default m.system.registers.values 0
      (let z = w.registers.others.values in let most = (saved.others_used m w t u).most in omega arith))

  pub addresses_back : places_in s 366 n ≡ m.system.registers.addresses
  addresses_back =
      places_read s 366 n m.system.registers.addresses w.registers.others.addresses
      (saved.others_used m w t u).most (saved.address_in m w t u)
      (λ i least. w.registers.others.free i (free_values i least))

  pub values_back : places_in s 370 n ≡ m.system.registers.values
  values_back =
      places_read s 370 n m.system.registers.values w.registers.others.values
      (saved.others_used m w t u).most (saved.value_in m w t u) free_values

  pub rtc_back : part s (clocks_at n + 76) 256 ≡ m.system.rtc
  rtc_back = part_read s (clocks_at n + 76) 256 m.system.rtc w.rtc.size (saved.here m w t u).rtc

  pub page_back : part s (flash_at n + 24) 256 ≡ m.system.page
  page_back =
      part_read s (flash_at n + 24) 256 m.system.page w.flash.reached.shaped.size (saved.here m w t u).page

  pub ram_back : part s (ram_at n k e + 4) RAM_SIZE ≡ m.ram
  ram_back = part_read s (ram_at n k e + 4) RAM_SIZE m.ram (saved.sized m w u).ram (saved.here m w t u).ram

  pub sram_back : part s (sram_at n k e + 4) SRAM_SIZE ≡ m.sram
  sram_back = part_read s (sram_at n k e + 4) SRAM_SIZE m.sram (saved.sized m w u).sram (saved.here m w t u).sram

  pub gpio_back : part s (gpio_at n k e + 4) GPIO_SIZE ≡ m.gpio
  gpio_back = part_read s (gpio_at n k e + 4) GPIO_SIZE m.gpio (saved.sized m w u).gpio (saved.here m w t u).gpio

  pub fb_back : part s (fb_at n k e + 4) FRAMEBUFFER_SIZE ≡ m.fb
  fb_back = part_read s (fb_at n k e + 4) FRAMEBUFFER_SIZE m.fb (saved.sized m w u).fb (saved.here m w t u).fb

  pub onsets_back : column_in s (events_at n k + 4) e ≡ straight m.system.queue.ring m.system.queue.onsets
  onsets_back =
      column_read s (events_at n k + 4) m.system.queue m.system.queue.onsets
      (time_read s (events_at n k + 4) m.system.queue e (saved.here m w t u).events t.onsets t.frequencies
      t.duties)

  pub frequencies_back : column_in s (events_at n k + 4 + 8) e
      ≡ straight m.system.queue.ring m.system.queue.frequencies
  frequencies_back =
      column_read s (events_at n k + 4 + 8) m.system.queue m.system.queue.frequencies (λ j below.
      let p : events_at n k + 4 + 8 + 24 * j ≡ events_at n k + 4 + 24 * j + 8 = omega arith in
      ap (λ (a : ℕ). float_at s a) p
      ∙ frequency_read s (events_at n k + 4) m.system.queue e (saved.here m w t u).events t.onsets
      t.frequencies t.duties j below)

  pub duties_back : column_in s (events_at n k + 4 + 16) e ≡ straight m.system.queue.ring m.system.queue.duties
  duties_back =
      column_read s (events_at n k + 4 + 16) m.system.queue m.system.queue.duties (λ j below.
      let p : events_at n k + 4 + 16 + 24 * j ≡ events_at n k + 4 + 24 * j + 16 = omega arith in
      ap (λ (a : ℕ). float_at s a) p
      ∙ duty_read s (events_at n k + 4) m.system.queue e (saved.here m w t u).events t.onsets
      t.frequencies t.duties j below)

  abbrev starts : List Float
  starts = m.system.presses.starts

  abbrev now : Float
  now = m.system.devices.clocks.times.now

  abbrev places : ℕ
  places = places_of m.system.keys.count

  pub starts_back : starts_in s (presses_at n + 4) k ≡ padded (waiting_of starts nan starts now 0 places) nought
  starts_back =
      starts_read s (presses_at n + 4) starts m.system.presses.codes now places (saved.here m w t u).presses
      t.starts

  pub codes_back : codes_in s (presses_at n + 4) k
      ≡ padded (waiting_of m.system.presses.codes 0 starts now 0 places) 0
  codes_back =
      codes_read s (presses_at n + 4) starts m.system.presses.codes now places (saved.here m w t u).presses
      (λ i less. (w.keys.presses i less).key)

  abbrev x : Parts
  x = parts_of m

  parts_with_lem : (l : List ℕ) (f : List Float) (c v : List ℕ) → l ≡ saved_of (cells m) → f ≡ floats m → c ≡ slots
      → v ≡ m.sram
      → parts_with l f e k c (clock_in v) ≡ parts_with (saved_of (cells m)) (floats m) e k slots (clock_in m.sram)
  parts_with_lem l f c v p q r o = rw (p, q, r, o)

  parts_back_lem : parts_with (cells_in s n) (floats_in s n) e k (slots_in s)
      (clock_in (part s (sram_at n k e + 4) SRAM_SIZE))
      ≡ parts (with_clocks m.system.devices (clocks_resynced slots m.system.devices.clocks (clock_in m.sram)))
      (ring_of 0 e) (with_count m.system.keys k)
  parts_back_lem =
      parts_with_lem (cells_in s n) (floats_in s n) (slots_in s) (part s (sram_at n k e + 4) SRAM_SIZE)
      (saved.words_in_lem m w t u) (saved.floats_in_lem m w t u) slots_back sram_back
      ∙ kept_words x e k slots (clock_in m.sram)
      ∙ ap (λ (y : Parts). kept e k slots (clock_in m.sram) Rust y) t.scalars
      ∙ ap (λ (mode : Mode). kept e k slots (clock_in m.sram) mode x) (sym w.flash.mode)
      ∙ kept_same x e k slots (clock_in m.sram)

  -- ---- all of it

  counts_back : machine_at s (others_in s) (presses_in s) (events_in s) ≡ machine_at s n k e
  counts_back =
      ap (λ (i : ℕ). machine_at s i (presses_in s) (events_in s)) (saved.others_in_lem m w t u)
      ∙ ap (λ (i : ℕ). machine_at s n i (events_in s)) (saved.presses_in_lem m w t u)
      ∙ ap (λ (i : ℕ). machine_at s n k i) (saved.events_in_lem m w t u)

  machine_back : machine_at s n k e ≡ normal m
  unfolding machine_at normal system_normal straightened closed_up
  machine_back =
      machine_same slots_back addresses_back values_back rtc_back page_back onsets_back frequencies_back duties_back
      starts_back codes_back parts_back_lem ram_back sram_back gpio_back fb_back

-- READING WHAT WAS WRITTEN gives the same state but for the counts of periods and the places, and the same memories
pub saved_back : (m : Machine) → WithinLimits m → Typed m → UnitLengths m → machine_in (bytes_in m) ≡ normal m
saved_back m w t u = machine_at_lem (bytes_in m) ∙ counts_back m w t u ∙ machine_back m w t u
