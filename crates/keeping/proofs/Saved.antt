-- The bytes of a machine within the limits are a good session.
use Prim.Native.Nat.{ℕ, zero, suc, ◌+◌, ◌-◌, ◌*◌, ◌%◌, ◌^◌, ◌≤◌, ◌<◌}
use mathlib.Core.Path.{◌≡◌, refl, sym, ap, ap₂, subst, ◌∙◌}
use mathlib.Core.Logic.{◌≢◌}
use mathlib.Core.Bool.{Bool, true, false, not, ◌||◌}
use mathlib.Core.List.{List}
use native.Mathlib.Omega.{arith}
use lib.Bits.{bit_and, and_mod, and_zero_r}
use lib.Dec.{T, eqb, ltb}
use lib.Ieee.{Float, nan, inf, fin}
use lib.ListN.{length, get_or}
use lib.Seq.{take-length}
use borrow.Author.Tests.{eq-eqb, lt-ltb, le-leb}
use Rattle.map.specs.Numbers.{FLASH_SIZE, RAM_SIZE, SRAM_SIZE, GPIO_SIZE, FRAMEBUFFER_SIZE}
use Rattle.memory.specs.declared.Place.{Place}
use Rattle.memory.specs.Bytes.{bytes_of}
use Rattle.whole.specs.Bounds.{AtMost}
use Rattle.whole.specs.Limits.{up_to}
use Rattle.whole.proofs.Choice.{by_less, neither}
use Rattle.registers.specs.Ports.{slot_of, day_word}
use Rattle.registers.specs.Words.{unstored, others_of}
use Rattle.registers.proofs.Order.{not_zero}
use Rattle.flash.specs.declared.Trans.{Trans}
use Rattle.reach.specs.Reach.{reachable}
use Rattle.keys.specs.Script.{places_of}
use Rattle.keys.proofs.Cases.{places_most}
use Rattle.keys.proofs.Full.{many_most}
use Rattle.state.specs.declared.Parts.{Parts}
use Rattle.state.specs.Bank.{chip_in}
use Rattle.state.specs.Packed.{chip_cells, panel_cells, clock_cells, key_cells, times_floats, cells_of, floats_of}
use Rattle.system.specs.System.{Machine}
use Rattle.system.specs.Refusals.{is_register}
use Rattle.system.specs.Limits.{RegisterWord, WithinLimits}
use Rattle.script.proofs.Wiped.{good_memory}
use Rattle.session.specs.Fields.{number, part}
use Rattle.session.specs.Layout.{flags_at, panel_at, clocks_at, sound_at, flash_at, keys_at, presses_at, events_at}
use Rattle.session.specs.Layout.{others_at}
use Rattle.session.specs.Layout.{ram_at, sram_at, gpio_at, fb_at, size_of}
use Rattle.session.specs.Read.{float_at, cells_in, floats_in}
use Rattle.session.specs.Good.{other_word, last_at, good_other, good_press, good_event, good_flash, others_in}
use Rattle.session.specs.Good.{presses_in}
use Rattle.session.specs.Good.{events_in, good_session}
use Rattle.session.specs.Session as session
use Rattle.session.specs.Session.{presses_of, events_of, bytes_in}
use Rattle.session.proofs.Stands.{Stands}
use Rattle.keeping.specs.Typed.{Typed, UnitLengths}
use Rattle.session.proofs.Facts.{both, other_joined, press_joined, event_joined, Cells, Floats, Order, Step}
use Rattle.session.proofs.Facts.{Counts, Lengths, Body, Facts, good}
use Rattle.keeping.proofs.Placed.{Sized, Placed, placed, session_long, cells, floats}
use Rattle.keeping.proofs.Runs.{copied}
use Rattle.keeping.proofs.Ranges.{tops, saved_of, saved_ranges, word_most, flash_trans}
use Rattle.keeping.proofs.Tables.{held}
use Rattle.keeping.proofs.Written.{read_words, read_floats, part_read, count_read, Used, used, address_read}
use Rattle.keeping.proofs.Written.{value_read, time_read, frequency_read, duty_read}
use Rattle.keeping.proofs.Presses.{waiting_each, start_read, key_read}

-- ---- tests that hold

pub told : (b : Bool) → T b → b ≡ true
told true h = refl
told false h = absurd h

pub limit_up : (n : ℕ) (x : Float) → AtMost x n → up_to n x ≡ true
limit_up n nan h = absurd h
limit_up n (inf b) h = absurd h
limit_up n (fin true m e) h = absurd h
limit_up n (fin false m e) h = le-leb _ _ h

come_holds : (i count v : ℕ) → (count ≤ i → v ≡ 0) → ltb i count || eqb v 0 ≡ true
come_holds i count v unset =
    by_less i count (λ less. rw (lt-ltb i count less)) (λ least. or (ltb i count) (eq-eqb v 0 (unset least)))
  where
    or : (b : Bool) {c : Bool} → c ≡ true → b || c ≡ true
    or true h = refl
    or false h = h

low_lines : (v : ℕ) → bit_and v 0xE0 ≡ v → v % 32 ≡ 0
low_lines v h = sym (ap (λ (i : ℕ). i % 32) h) ∙ and_mod v 0xE0 5 ∙ and_zero_r (v % 32)

other_holds : (a : ℕ) → slot_of a ≡ 76 → unstored a ≡ false → RegisterWord a → other_word a ≡ true
unfolding other_word unstored
other_holds a slot stored word =
    both (both (eq-eqb (slot_of a) 76 slot) (ap not (neither (eqb a 0) (day_word a) stored).1))
    (both (eq-eqb (a % 4) 0 word.aligned) (ap (λ (p : Place). is_register p) word.register))

pub sized : (m : Machine) → WithinLimits m → UnitLengths m → Sized m
sized m w u =
    let z = good_memory m.ram m.sram m.gpio m.fb u in
    record {
      rtc = w.rtc.size;
      page = w.flash.reached.shaped.size;
      ram = z.ram_size;
      sram = z.sram_size;
      gpio = z.gpio_size;
      fb = z.fb_size;
    }

module _ (m : Machine) (w : WithinLimits m) (t : Typed m) (u : UnitLengths m) where
  abbrev s : List ℕ
  s = bytes_in m

  abbrev n : ℕ
  n = session.others_of m

  abbrev k : ℕ
  k = presses_of m

  abbrev e : ℕ
  e = events_of m

  pub here : Placed s m n k e
  here = placed s m (sized m w u) (take-length s)

  -- ---- how many

  pub others_used : Used m.system.registers.values n 0 256
  others_used = used m.system.registers.values

  pub presses_most : k ≤ 64
  presses_most =
      let a = many_most m.system.presses.starts m.system.devices.clocks.times.now
      (places_of m.system.keys.count) in
      let b = places_most m.system.keys.count in
      omega arith

  pub events_all : e ≡ m.system.queue.ring.count
  events_all = held m.system.queue.ring w.queue.most

  pub events_most : e ≤ 256
  events_most = let a = events_all in let b = w.queue.most in omega arith

  pub others_in_lem : others_in s ≡ n
  others_in_lem = count_read s 58 n (let a = others_used.most in omega arith) here.word_count

  pub presses_in_lem : presses_in s ≡ k
  presses_in_lem =
      ap (λ (i : ℕ). number s (presses_at i) 4) others_in_lem
      ∙ count_read s (presses_at n) k (let a = presses_most in omega arith) here.press_count

  pub events_in_lem : events_in s ≡ e
  events_in_lem =
      ap₂ (λ (i j : ℕ). number s (events_at i j) 4) others_in_lem presses_in_lem
      ∙ count_read s (events_at n k) e (let a = events_most in omega arith) here.event_count

  -- ---- counts

  saved_counts : Counts s n
  saved_counts = record {
    timers = eq-eqb _ _ (count_read s 0 6 (omega arith) here.timer_count);
    flags = eq-eqb _ _ (count_read s (flags_at n) 2 (omega arith) here.flag_count);
    panel = eq-eqb _ _ (count_read s (panel_at n) 45 (omega arith) here.panel_count);
    clocks = eq-eqb _ _ (count_read s (clocks_at n) 328 (omega arith) here.clock_count);
    sound = eq-eqb _ _ (count_read s (sound_at n) 2 (omega arith) here.sound_count);
    flash = eq-eqb _ _ (count_read s (flash_at n) 276 (omega arith) here.flash_count);
    keys = eq-eqb _ _ (count_read s (keys_at n) 28 (omega arith) here.key_count);
  }

  length_read : (at size : ℕ) (l : List ℕ) → size < 2 ^ 32 → length l ≡ size
      → Stands s at (bytes_of 4 (length l))
      → eqb (number s at 4) size ≡ true
  length_read at size l small long stands =
      eq-eqb _ _ (count_read s at (length l) (omega arith) stands ∙ long)

  saved_lengths : Lengths s n k e
  saved_lengths =
      let z = sized m w u in
      record {
        ram = length_read (ram_at n k e) RAM_SIZE m.ram (omega arith) z.ram here.ram_count;
        sram = length_read (sram_at n k e) SRAM_SIZE m.sram (omega arith) z.sram here.sram_count;
        gpio = length_read (gpio_at n k e) GPIO_SIZE m.gpio (omega arith) z.gpio here.gpio_count;
        fb = length_read (fb_at n k e) FRAMEBUFFER_SIZE m.fb (omega arith) z.fb here.fb_count;
      }

  -- ---- the bank's words

  most : (i : ℕ) → get_or (cells m) i 0 ≤ get_or tops i 0
  most = word_most m w t (sized m w u)

  pub words_in_lem : cells_in s n ≡ saved_of (cells m)
  words_in_lem = read_words s m n k e here most

  pub floats_in_lem : floats_in s n ≡ floats m
  floats_in_lem = read_floats s m n k e here t.floats

  words_good : Cells (saved_of (cells m))
  unfolding saved_of copied cells_of chip_cells panel_cells clock_cells key_cells
  words_good = record {
    ranges = saved_ranges (cells m) most;
    come0 = come_holds 0 _ _ (w.panel.unset 0);
    come1 = come_holds 1 _ _ (w.panel.unset 1);
    come2 = come_holds 2 _ _ (w.panel.unset 2);
    come3 = come_holds 3 _ _ (w.panel.unset 3);
    lines = eq-eqb _ 0 (low_lines m.system.keys.applied w.keys.applied);
  }

  floats_good : Floats (floats m)
  unfolding floats_of times_floats
  floats_good = record {
    now = told _ w.clocks.times.now_good;
    game = limit_up 2147483648 m.system.devices.clocks.times.game w.clocks.times.game_limit;
    turbo = told _ w.clocks.times.turbo_good;
    start0 = told _ (w.clocks.timers 0 (omega arith)).good;
    start1 = told _ (w.clocks.timers 1 (omega arith)).good;
    start2 = told _ (w.clocks.timers 2 (omega arith)).good;
    start3 = told _ (w.clocks.timers 3 (omega arith)).good;
    start4 = told _ (w.clocks.timers 4 (omega arith)).good;
    start5 = told _ (w.clocks.timers 5 (omega arith)).good;
    day = limit_up 2147483648 m.system.devices.clocks.irq.set w.clocks.day.set.limit;
    since = limit_up 2147483648 m.system.devices.latch.since w.rtc.since.limit;
    frequency = told _ w.tone.frequency;
    duty = told _ w.tone.duty;
    tap0 = told _ w.keys.hold_a;
    tap1 = told _ w.keys.hold_b;
    tap2 = told _ w.keys.hold_c;
  }

  floats_ordered : Order (floats m)
  unfolding floats_of times_floats
  floats_ordered = record {
    order0 = told _ (w.clocks.timers 0 (omega arith)).before;
    order1 = told _ (w.clocks.timers 1 (omega arith)).before;
    order2 = told _ (w.clocks.timers 2 (omega arith)).before;
    order3 = told _ (w.clocks.timers 3 (omega arith)).before;
    order4 = told _ (w.clocks.timers 4 (omega arith)).before;
    order5 = told _ (w.clocks.timers 5 (omega arith)).before;
    day_before = told _ w.clocks.day.set.before;
    since_before = told _ w.rtc.since.before;
  }

  words_step : Step (saved_of (cells m)) (floats m)
  unfolding saved_of copied cells_of chip_cells panel_cells clock_cells key_cells floats_of times_floats
  words_step = record { ticks = eq-eqb _ _ w.clocks.seconds; syncs = eq-eqb _ _ w.clocks.syncs }

  trans_in : (chip_in (saved_of (cells m))).tx ≡ m.system.devices.flash.tx
  unfolding saved_of copied cells_of chip_cells panel_cells clock_cells key_cells chip_in
  trans_in = ap (λ (x : Parts). x.devices.flash.tx) t.scalars

  page_in : part s (flash_at n + 24) 256 ≡ m.system.page
  page_in = part_read s (flash_at n + 24) 256 m.system.page w.flash.reached.shaped.size here.page

  flash_good : good_flash s n (cells_in s n) ≡ true
  unfolding good_flash
  flash_good =
      ap (λ (l : List ℕ). reachable FLASH_SIZE (chip_in l).tx (part s (flash_at n + 24) 256)) words_in_lem
      ∙ ap (λ (x : Trans). reachable FLASH_SIZE x (part s (flash_at n + 24) 256)) trans_in
      ∙ ap (λ (l : List ℕ). reachable FLASH_SIZE m.system.devices.flash.tx l) page_in
      ∙ flash_trans m w t (sized m w u)

  -- ---- tables

  pub address_in : (j : ℕ) → j < n → number s (366 + 8 * j) 4 ≡ get_or m.system.registers.addresses (n - 1 - j) 0
  address_in =
      address_read s m.system.registers.addresses m.system.registers.values n t.addresses t.values
      here.others

  pub value_in : (j : ℕ) → j < n → number s (370 + 8 * j) 4 ≡ get_or m.system.registers.values (n - 1 - j) 0
  value_in =
      value_read s m.system.registers.addresses m.system.registers.values n t.addresses t.values
      here.others

  some_value : (j : ℕ) → j < n → get_or m.system.registers.values (n - 1 - j) 0 ≢ 0
  some_value j below = others_used.some (n - 1 - j) (omega arith) (omega arith)

  last_less : (j : ℕ) → j < n → last_at s j < get_or m.system.registers.addresses (n - 1 - j) 0
  unfolding last_at
  last_less zero below =
      let some = not_zero _ (w.registers.others.belongs (n - 1 - 0) (some_value 0 below)) in
      omega arith
  last_less (suc j) below =
      let a = address_in j (omega arith) in
      let f = w.registers.others.falls (n - 1 - suc j) (n - 1 - j) (omega arith) (some_value j (omega arith)) in
      omega arith

  others_good : (j : ℕ) → j < n
      → good_other (last_at s j) (number s (others_at + 8 * j) 4) (number s (others_at + 8 * j + 4) 4) ≡ true
  others_good j below =
      let p : others_at + 8 * j + 4 ≡ 370 + 8 * j = omega arith in
      let other = w.registers.others.belongs (n - 1 - j) (some_value j below) in
      rw (p, address_in j below, value_in j below)
      (other_joined (last_at s j) (get_or m.system.registers.addresses (n - 1 - j) 0)
      (get_or m.system.registers.values (n - 1 - j) 0) (some_value j below) (last_less j below)
      (other_holds (get_or m.system.registers.addresses (n - 1 - j) 0) other.slot other.stored
      (w.others (n - 1 - j) (some_value j below))))

  -- the presses
  abbrev starts : List Float
  starts = m.system.presses.starts

  abbrev codes : List ℕ
  codes = m.system.presses.codes

  abbrev now : Float
  now = m.system.devices.clocks.times.now

  abbrev places : ℕ
  places = places_of m.system.keys.count

  press_good : (j : ℕ) → j < k
      → good_press (number s (presses_at n + 4 + 9 * j) 1) (float_at s (presses_at n + 4 + 9 * j + 1)) now ≡ true
  press_good j below =
      rw (
        key_read s (presses_at n + 4) starts codes now places here.presses
            (λ i less. (w.keys.presses i less).key) j below,
        start_read s (presses_at n + 4) starts codes now places here.presses t.starts j below,
      )
      (waiting_each starts now codes (λ (j : ℕ) (x : Float) (c : ℕ). good_press c x now ≡ true) places
      (λ i less wait.
      press_joined (get_or codes i 0) (get_or starts i nan) now (w.keys.presses i less).key
      (told _ (w.keys.presses i less).time) wait) j below)

  now_in : get_or (floats_in s n) 0 nan ≡ now
  unfolding floats_of times_floats
  now_in = ap (λ (f : List Float). get_or f 0 nan) floats_in_lem

  presses_good : (j : ℕ) → j < k
      → good_press (number s (presses_at n + 4 + 9 * j) 1) (float_at s (presses_at n + 4 + 9 * j + 1))
      (get_or (floats_in s n) 0 nan) ≡ true
  presses_good j below =
      ap
      (λ (x : Float). good_press (number s (presses_at n + 4 + 9 * j) 1) (float_at s (presses_at n + 4 + 9 * j + 1)) x)
      now_in
      ∙ press_good j below

  -- the sound events
  events_good : (j : ℕ) → j < e
      → good_event (float_at s (events_at n k + 4 + 24 * j)) (float_at s (events_at n k + 4 + 24 * j + 8))
      (float_at s (events_at n k + 4 + 24 * j + 16)) ≡ true
  events_good j below =
      let q = m.system.queue in
      let at = events_at n k + 4 in
      let all = events_all in
      let g = w.events j (omega arith) in
      rw (
        time_read s (events_at n k + 4) q e here.events t.onsets t.frequencies t.duties j below,
        frequency_read s (events_at n k + 4) q e here.events t.onsets t.frequencies t.duties j below,
        duty_read s (events_at n k + 4) q e here.events t.onsets t.frequencies t.duties j below,
      )
      (event_joined _ _ _ (told _ g.time) (told _ g.frequency) (told _ g.duty))

  -- ---- all of it

  saved_body : Body s n k e
  saved_body = record {
    counts = saved_counts;
    lengths = saved_lengths;
    cells = subst Cells (sym words_in_lem) words_good;
    floats = subst Floats (sym floats_in_lem) floats_good;
    order = subst Order (sym floats_in_lem) floats_ordered;
    step =
        subst (λ (l : List ℕ). Step l (floats_in s n)) (sym words_in_lem)
        (subst (λ (f : List Float). Step (saved_of (cells m)) f) (sym floats_in_lem) words_step);
    flash = flash_good;
    others = others_good;
    presses = presses_good;
    events = events_good;
  }

  saved_size_lem : length s ≡ size_of (others_in s) (presses_in s) (events_in s)
  saved_size_lem =
      let a = others_in_lem in
      let b = presses_in_lem in
      let c = events_in_lem in
      let d = session_long s m (sized m w u) in
      omega arith

  saved_facts : Facts s
  saved_facts = record {
    others = let a = others_in_lem in let b = others_used.most in omega arith;
    presses = let a = presses_in_lem in let b = presses_most in omega arith;
    events = let a = events_in_lem in let b = events_most in omega arith;
    size = saved_size_lem;
    body =
        subst (λ (i : ℕ). Body s i (presses_in s) (events_in s)) (sym others_in_lem)
        (subst (λ (i : ℕ). Body s n i (events_in s)) (sym presses_in_lem)
        (subst (λ (i : ℕ). Body s n k i) (sym events_in_lem) saved_body));
  }

-- A SAVE IS NEVER BAD
pub saved_good : (m : Machine) → WithinLimits m → Typed m → UnitLengths m → good_session (bytes_in m) ≡ true
saved_good m w t u = good (bytes_in m) (saved_facts m w t u)
