-- THE MACHINE OF A GOOD SESSION is within the limits.
use Prim.Native.Nat.{ℕ, zero, suc, ◌+◌, ◌*◌, ◌/◌, ◌%◌, ◌^◌, ◌≤◌, ◌<◌}
use mathlib.Core.Path.{◌≡◌, refl, sym, ap, subst, ◌∙◌}
use mathlib.Core.Bool.{Bool, true, false, ◌||◌}
use mathlib.Core.List.{List, [], ◌∷◌}
use native.Mathlib.Omega.{arith}
use lib.Bits.{bit_and}
use lib.Dec.{T, eqb, ltb}
use lib.Ieee.{Float, nan, binary64, fits}
use lib.Ieee.Bits.{of_bits-fits}
use lib.ListN.{length, get_or, take, drop}
use lib.Seq.{length-take-le}
use borrow.Author.Tests.{eqb-true, ltb-true, le-ltb}
use Rattle.map.specs.Numbers.{FLASH_SIZE, RAM_SIZE, SRAM_SIZE, TIMER_COUNT}
use Rattle.memory.proofs.Stored.{load_fits}
use Rattle.whole.specs.Limits.{good_time}
use Rattle.whole.proofs.Rows.{length_tabled, get_or_tabled}
use Rattle.registers.specs.Within.{Tidy}
use Rattle.clock.specs.Within.{Within, Latched, DaySet}
use Rattle.panel.specs.Within.{PanelWithin}
use Rattle.timer.specs.Events.{ring_of, place_of}
use Rattle.timer.specs.Canonical as ring
use Rattle.timer.specs.Canonical.{Canonical}
use Rattle.timer.specs.Within.{Started, ToneFinite, EventsWithin}
use Rattle.keys.specs.Within as pressing
use Rattle.keys.proofs.Kept.{places_is}
use Rattle.reach.specs.Reach.{reachable}
use Rattle.state.specs.Bank.{mode_in, chip_in, panel_in, times_in, timer_in, irq_in, latch_in, tone_in, ring_in}
use Rattle.state.specs.Bank.{keys_in}
use Rattle.state.specs.Parts.{none}
use Rattle.time.specs.Within.{ClocksWithin}
use Rattle.time.specs.Clocks.{clock_in}
use Rattle.time.specs.Resync.{clocks_resynced}
use Rattle.time.proofs.Limits.{resynced_within}
use Rattle.system.specs.System.{buttons_in}
use Rattle.system.specs.Carried.{array_in, board_in}
use Rattle.system.specs.Limits.{FlashWithin, WithinLimits}
use Rattle.session.specs.Fields.{number, part}
use Rattle.session.specs.Layout.{mosts, clocks_at, flash_at, presses_at, events_at, ram_at, sram_at}
use Rattle.session.specs.Read.{cells_read, floats_read, cells_in, floats_in, slots_in, start_in, code_in, starts_in}
use Rattle.session.specs.Read.{codes_in}
use Rattle.session.specs.Read.{column_at, column_in}
use Rattle.session.specs.Good.{good_flash, others_in, presses_in, events_in, good_session}
use Rattle.session.specs.Session.{bank_in, parts_read, parts_back, machine_in}
use Rattle.keeping.specs.Typed.{Below}
use Rattle.session.proofs.Facts.{press_apart, event_apart, Body, Facts, facts}
use Rattle.keeping.proofs.Lists.{each_take, each_drop}
use Rattle.session.proofs.Packed.{in_range}
use Rattle.keeping.proofs.Tables.{part_long, start_at, code_at, event_back}
use Rattle.keeping.proofs.Limits.{holds, up_limit, read_tidy, read_registers}

-- ---- numbers

-- bits 5, 6 and 7
lines : (q : ℕ) → q ≤ 7 → bit_and (32 * q) 0xE0 ≡ 32 * q
lines zero h = refl
lines (suc zero) h = refl
lines (suc (suc zero)) h = refl
lines (suc (suc (suc zero))) h = refl
lines (suc (suc (suc (suc zero)))) h = refl
lines (suc (suc (suc (suc (suc zero))))) h = refl
lines (suc (suc (suc (suc (suc (suc zero)))))) h = refl
lines (suc (suc (suc (suc (suc (suc (suc zero))))))) h = refl
lines (suc (suc (suc (suc (suc (suc (suc (suc q)))))))) h = absurd (omega arith)

lines_only : (v : ℕ) → v ≤ 255 → v % 32 ≡ 0 → bit_and (v % 2 ^ 32) 0xE0 ≡ v % 2 ^ 32
lines_only v most low =
    let e : v % 2 ^ 32 ≡ 32 * (v / 32) = omega arith in
    subst (λ (i : ℕ). bit_and i 0xE0 ≡ i) (sym e) (lines (v / 32) (omega arith))

byte_small : (v : ℕ) → v % 256 < 256
byte_small v = omega arith

-- an argument that has not come
unset : (i count v : ℕ) → ltb i count || eqb v 0 ≡ true → count % 256 ≤ i → count ≤ 255 → v % 256 ≡ 0
unset i count v h past most = by (ltb i count) refl h
  where
    by : (b : Bool) → ltb i count ≡ b → b || eqb v 0 ≡ true → v % 256 ≡ 0
    by true e h = absurd (let less = ltb-true i count e in omega arith)
    by false e h = let z = eqb-true v 0 h in omega arith

pub part_bytes : (s : List ℕ) → Below 256 s → (at n : ℕ) → Below 256 (part s at n)
part_bytes s bytes at n =
    each_take (λ (v : ℕ). v < 256) 0 (omega arith) n (drop at s)
    (each_drop (λ (v : ℕ). v < 256) 0 (omega arith) at s bytes)

module _ (s : List ℕ) (bytes : Below 256 s) (a : Facts s) where
  abbrev n : ℕ
  n = others_in s

  abbrev k : ℕ
  k = presses_in s

  abbrev e : ℕ
  e = events_in s

  abbrev b : Body s n k e
  b = a.body

  abbrev f : List Float
  f = floats_in s n

  ranged : (i : ℕ) → i < 51 → get_or (cells_in s n) i 0 ≤ get_or mosts i 0
  ranged i below = in_range s b.cells.ranges i below

  -- ---- clocks

  started : (i : ℕ) → i < TIMER_COUNT → Started (get_or (parts_read s).devices.clocks.timers i none) (get_or f 0 nan)
  unfolding parts_read timer_in bank_in cells_in cells_read
  started zero h =
      record { good = holds b.floats.start0; before = holds b.order.order0; limit = omega arith }
  started (suc zero) h =
      record { good = holds b.floats.start1; before = holds b.order.order1; limit = omega arith }
  started (suc (suc zero)) h =
      record { good = holds b.floats.start2; before = holds b.order.order2; limit = omega arith }
  started (suc (suc (suc zero))) h =
      record { good = holds b.floats.start3; before = holds b.order.order3; limit = omega arith }
  started (suc (suc (suc (suc zero)))) h =
      record { good = holds b.floats.start4; before = holds b.order.order4; limit = omega arith }
  started (suc (suc (suc (suc (suc zero))))) h =
      record { good = holds b.floats.start5; before = holds b.order.order5; limit = omega arith }
  started (suc (suc (suc (suc (suc (suc i)))))) h = absurd (over i h)
    where
      over : (i : ℕ) → suc (suc (suc (suc (suc (suc i))))) < 6 → ⊥
      over i h = omega arith

  game_fits : T (fits binary64 (get_or f 1 nan))
  unfolding floats_in floats_read
  game_fits = of_bits-fits binary64 (number s (clocks_at n + 4 + 8) 8)

  read_times : Within (parts_read s).devices.clocks.times
  unfolding parts_read times_in
  read_times = record {
    now_good = holds b.floats.now;
    turbo_good = holds b.floats.turbo;
    game_limit = up_limit 2147483648 (get_or f 1 nan) b.floats.game;
    game_fits = game_fits;
  }

  read_day : DaySet (parts_read s).devices.clocks.irq (get_or f 1 nan)
  unfolding parts_read irq_in bank_in cells_in cells_read mosts
  read_day = record {
    base = let most = ranged 38 (omega arith) in omega arith;
    set = record {
      limit = up_limit 2147483648 (get_or f 9 nan) b.floats.day;
      before = holds b.order.day_before;
    };
  }

  pub read_clocks : ClocksWithin (parts_read s).devices.clocks
  unfolding parts_read times_in irq_in bank_in cells_in cells_read
  read_clocks = record {
    times = read_times;
    timers = started;
    day = read_day;
    seconds = eqb-true _ _ b.step.ticks;
    syncs = eqb-true _ _ b.step.syncs;
  }

  -- ---- the devices

  read_latched : Latched (part s (clocks_at n + 76) 256) (parts_read s).devices.latch (get_or f 1 nan)
  unfolding parts_read latch_in bank_in cells_in cells_read mosts
  read_latched = record {
    size = part_long s (clocks_at n + 76) 256 (let z = a.size in omega arith);
    bytes = part_bytes s bytes (clocks_at n + 76) 256;
    base = let most = ranged 41 (omega arith) in omega arith;
    since = record {
      limit = up_limit 2147483648 (get_or f 10 nan) b.floats.since;
      before = holds b.order.since_before;
    };
    out = let most = ranged 42 (omega arith) in omega arith;
  }

  read_tone : ToneFinite (parts_read s).devices.tone
  unfolding parts_read tone_in
  read_tone = record { frequency = holds b.floats.frequency; duty = holds b.floats.duty }

  counted_args : get_or (bank_in s) 16 0 ≤ 4
  unfolding bank_in cells_in cells_read mosts
  counted_args = ranged 16 (omega arith)

  args_unset : (i : ℕ) → get_or (bank_in s) 16 0 % 256 ≤ i
      → get_or (get_or (bank_in s) 12 0 % 256 ∷ get_or (bank_in s) 13 0 % 256 ∷ get_or (bank_in s) 14 0 % 256
      ∷ get_or (bank_in s) 15 0 % 256 ∷ []) i 0 ≡ 0
  unfolding bank_in cells_in cells_read
  args_unset zero h = unset 0 _ _ b.cells.come0 h (let c = counted_args in omega arith)
  args_unset (suc zero) h = unset 1 _ _ b.cells.come1 h (let c = counted_args in omega arith)
  args_unset (suc (suc zero)) h = unset 2 _ _ b.cells.come2 h (let c = counted_args in omega arith)
  args_unset (suc (suc (suc zero))) h = unset 3 _ _ b.cells.come3 h (let c = counted_args in omega arith)
  args_unset (suc (suc (suc (suc i)))) h = refl

  read_panel : PanelWithin (parts_read s).devices.panel
  unfolding parts_read panel_in
  read_panel = record { size = refl; most = let c = counted_args in omega arith; unset = args_unset }

  array_long : length (take FLASH_SIZE (part s (ram_at n k e + 4) RAM_SIZE)) ≡ FLASH_SIZE
  array_long =
      length-take-le FLASH_SIZE (part s (ram_at n k e + 4) RAM_SIZE)
      (subst (λ (i : ℕ). FLASH_SIZE ≤ i) (sym (part_long s (ram_at n k e + 4) RAM_SIZE ram_room)) (omega arith))
    where
      ram_room : ram_at n k e + 4 + RAM_SIZE ≤ length s
      ram_room = let z = a.size in omega arith

  page_long : length (part s (flash_at n + 24) 256) ≡ 256
  page_long = part_long s (flash_at n + 24) 256 (let z = a.size in omega arith)

  read_flash : FlashWithin (board_in (machine_in s))
  unfolding machine_in parts_back parts_read mode_in chip_in bank_in cells_in cells_read good_flash array_in
  read_flash = record {
    mode = refl;
    reached = record {
      trans =
          subst (λ (i : ℕ). reachable i (chip_in (cells_in s n)).tx (part s (flash_at n + 24) 256) ≡ true)
          (sym array_long) b.flash;
      shaped = record {
        cmd = byte_small _;
        a1 = byte_small _;
        a2 = byte_small _;
        a3 = byte_small _;
        size = page_long;
        bytes = part_bytes s bytes (flash_at n + 24) 256;
      };
    };
  }

  -- ---- tables

  column_tidy : (at : ℕ) → ring.Tidy (ring_of 0 e) (column_in s at e)
  unfolding column_in column_at
  column_tidy at = record {
    size = length_tabled (λ i. column_at s at e i) 256;
    free = λ i least below.
        let first : place_of (ring_of 0 e) i ≡ i = omega arith in
        ap (λ (p : ℕ). get_or (column_in s at e) p nan) first
        ∙ get_or_tabled (λ i. column_at s at e i) 256 i nan below ∙ rw (le-ltb i e least);
  }

  read_queue : Canonical (machine_in s).system.queue
  unfolding machine_in parts_back parts_read ring_in bank_in cells_in cells_read
  read_queue = record {
    onsets = column_tidy (events_at n k + 4);
    frequencies = column_tidy (events_at n k + 4 + 8);
    duties = column_tidy (events_at n k + 4 + 16);
    most = a.events;
    within = omega arith;
    start = λ h. refl;
  }

  read_events : EventsWithin (machine_in s).system.queue
  unfolding machine_in parts_back parts_read ring_in bank_in cells_in cells_read
  read_events i below =
      let g = event_apart _ _ _ (b.events i below) in
      let p : events_at n k + 4 + 8 + 24 * i ≡ events_at n k + 4 + 24 * i + 8 = omega arith in
      let q : events_at n k + 4 + 16 + 24 * i ≡ events_at n k + 4 + 24 * i + 16 = omega arith in
      rw (
        event_back s e a.events (events_at n k + 4) i below,
        event_back s e a.events (events_at n k + 4 + 8) i below,
        event_back s e a.events (events_at n k + 4 + 16) i below,
        p,
        q,
      )
      (record { time = holds g.0; frequency = holds g.1; duty = holds g.2 })

  read_keys : pressing.Within (buttons_in (machine_in s).system)
  unfolding machine_in parts_back parts_read keys_in bank_in cells_in cells_read starts_in codes_in mosts
  read_keys = record {
    starts = length_tabled (λ i. start_in s (presses_at n + 4) k i) 64;
    codes = length_tabled (λ i. code_in s (presses_at n + 4) k i) 64;
    count = a.presses;
    presses = λ i less.
        let below : i < k = subst (λ (c : ℕ). i < c) (places_is k a.presses) less in
        let g = press_apart _ _ _ (b.presses i below) in
        record {
          time = subst (λ (t : Float). T (good_time t))
              (sym (start_at s (presses_at n + 4) k a.presses i below)) (holds g.1);
          key = subst (λ (c : ℕ). c ≤ 2) (sym (code_at s (presses_at n + 4) k a.presses i below)) g.0;
        };
    hold_a = holds b.floats.tap0;
    hold_b = holds b.floats.tap1;
    hold_c = holds b.floats.tap2;
    applied = lines_only _ (ranged 50 (omega arith)) (eqb-true _ _ b.cells.lines);
  }

  read_words : Tidy (machine_in s).system.registers
  unfolding machine_in slots_in
  read_words = record {
    slots = length_tabled (λ i. number s (62 + 4 * i) 4) 76;
    others = read_tidy s n k e a.others b;
  }

  pub read_limits : WithinLimits (machine_in s)
  unfolding machine_in parts_back clocks_resynced parts_read times_in
  read_limits = record {
    registers = read_words;
    others = read_registers s n k e a.others b;
    clocks = resynced_within (slots_in s) (parts_read s).devices.clocks
        (clock_in (part s (sram_at n k e + 4) SRAM_SIZE))
        (load_fits (part s (sram_at n k e + 4) SRAM_SIZE) 0x90A4 4) read_clocks;
    rtc = read_latched;
    tone = read_tone;
    queue = read_queue;
    events = read_events;
    keys = read_keys;
    panel = read_panel;
    flash = read_flash;
  }

pub resumed_limits : (s : List ℕ) → Below 256 s → good_session s ≡ true → WithinLimits (machine_in s)
resumed_limits s bytes h = read_limits s bytes (facts s h)
