-- Writing what was read gives the same bytes.
use Prim.Native.Nat.{ℕ, zero, suc, ◌+◌, ◌*◌, ◌≤◌, ◌<◌}
use mathlib.Core.Path.{◌≡◌, refl, sym, ap, subst, ◌∙◌}
use mathlib.Core.Logic.{◌≢◌}
use mathlib.Core.Bool.{true, false, true≢false}
use mathlib.Core.List.{List, append-nil}
use native.Mathlib.Omega.{arith}
use lib.Dec.{eqb}
use lib.Ieee.{Float, nan, inf, fin, is_nan}
use lib.ListN.{length, get_or}
use lib.Seq.{sets, sets-eq, drop-length}
use borrow.Author.Tests.{eqb-true, eq-eqb, le-ltb}
use Rattle.map.specs.Numbers.{DONE, RAM_SIZE, SRAM_SIZE, GPIO_SIZE, FRAMEBUFFER_SIZE}
use Rattle.memory.specs.Bytes.{bytes_of}
use Rattle.whole.specs.Limits.{up_to, down_to, good_turbo}
use Rattle.whole.proofs.Finite.{finite_number}
use Rattle.timer.specs.Events.{ring_of}
use Rattle.whole.proofs.Choice.{both as apart}
use Rattle.keys.specs.Script.{waits, waiting_in}
use Rattle.keys.proofs.Kept.{places_is}
use Rattle.state.specs.Bank.{times_in, ring_in, keys_in}
use Rattle.time.specs.Resync.{clocks_resynced}
use Rattle.system.specs.System.{Machine}
use Rattle.session.specs.Fields.{number, part}
use Rattle.session.specs.Layout.{cells_long, flags_at, panel_at, clocks_at, sound_at, flash_at, keys_at, presses_at}
use Rattle.session.specs.Layout.{events_at}
use Rattle.session.specs.Layout.{starts_at, others_at, ram_at, sram_at, gpio_at, fb_at, size_of}
use Rattle.session.specs.Sections.{press_bytes, event_bytes}
use Rattle.session.specs.Read.{float_at, floats_read, cells_read, cells_in, floats_in, starts_in, codes_in}
use Rattle.session.specs.Good.{others_in, presses_in, events_in, good_session}
use Rattle.session.specs.Session.{others_of, presses_of, events_of, bytes_in, bank_in, parts_read, parts_back}
use Rattle.session.specs.Session.{machine_in}
use Rattle.session.specs.Session.{saved_size, saved, save_of}
use Rattle.runner.specs.Script.{bad_memory}
use Rattle.keeping.specs.Typed.{Below, UnitLengths}
use Rattle.keeping.proofs.Refused.{save_done}
use Rattle.session.proofs.Stands.{Stands, stands_read, stands_whole}
use Rattle.keeping.proofs.Runs.{cell_run, float_run, cell_run_lem, float_run_lem}
use Rattle.keeping.proofs.Placed.{Sized, Placed, session_long, joined, pressed, cells, floats, pending_long}
use Rattle.keeping.proofs.Placed.{converting_long, off_long, drawing_long, ticks_long, latch_long, chip_long}
use Rattle.keeping.proofs.Placed.{down_long}
use Rattle.session.proofs.Facts.{other_apart, press_apart, event_apart, Body, Facts, facts}
use Rattle.keeping.proofs.Bank.{CellsBack, cells_back, FloatsBack, floats_back}
use Rattle.keeping.proofs.Tables.{part_long, part_stands, used_back, slots_back, others_back, presses_many}
use Rattle.keeping.proofs.Tables.{presses_back, held, events_back}

-- ---- what is good is a number

pub up_number : (n : ℕ) (x : Float) → up_to n x ≡ true → is_nan x ≡ false
unfolding is_nan
up_number n nan h = absurd (true≢false (sym h))
up_number n (inf b) h = refl
up_number n (fin b m e) h = refl

pub turbo_number : (x : Float) → good_turbo x ≡ true → is_nan x ≡ false
turbo_number x h = up_number 1024 x (apart (down_to 1024 x) (up_to 1024 x) h).1

module _ (s : List ℕ) (n k e : ℕ) (b : Body s n k e) where
  starts_some : (j : ℕ) → j < 6 → is_nan (float_at s (starts_at + 8 * j)) ≡ false
  unfolding floats_in floats_read
  starts_some zero h = up_number _ _ b.floats.start0
  starts_some (suc zero) h = up_number _ _ b.floats.start1
  starts_some (suc (suc zero)) h = up_number _ _ b.floats.start2
  starts_some (suc (suc (suc zero))) h = up_number _ _ b.floats.start3
  starts_some (suc (suc (suc (suc zero)))) h = up_number _ _ b.floats.start4
  starts_some (suc (suc (suc (suc (suc zero))))) h = up_number _ _ b.floats.start5
  starts_some (suc (suc (suc (suc (suc (suc j)))))) h = absurd (omega arith)

  times_some : (j : ℕ) → j < 3 → is_nan (float_at s (clocks_at n + 4 + 8 * j)) ≡ false
  unfolding floats_in floats_read
  times_some zero h = up_number _ _ b.floats.now
  times_some (suc zero) h = up_number _ _ b.floats.game
  times_some (suc (suc zero)) h = turbo_number _ b.floats.turbo
  times_some (suc (suc (suc j))) h = absurd (omega arith)

  moments_some : (j : ℕ) → j < 2 → is_nan (float_at s (clocks_at n + 28 + 8 * j)) ≡ false
  unfolding floats_in floats_read
  moments_some zero h = up_number _ _ b.floats.day
  moments_some (suc zero) h = up_number _ _ b.floats.since
  moments_some (suc (suc j)) h = absurd (omega arith)

  tone_some : (j : ℕ) → j < 2 → is_nan (float_at s (sound_at n + 4 + 8 * j)) ≡ false
  unfolding floats_in floats_read
  tone_some zero h = finite_number _ b.floats.frequency
  tone_some (suc zero) h = finite_number _ b.floats.duty
  tone_some (suc (suc j)) h = absurd (omega arith)

  taps_some : (j : ℕ) → j < 3 → is_nan (float_at s (keys_at n + 8 + 8 * j)) ≡ false
  unfolding floats_in floats_read
  taps_some zero h = up_number _ _ b.floats.tap0
  taps_some (suc zero) h = up_number _ _ b.floats.tap1
  taps_some (suc (suc zero)) h = up_number _ _ b.floats.tap2
  taps_some (suc (suc (suc j))) h = absurd (omega arith)

  -- tables
  other_some : (j : ℕ) → j < n → number s (370 + 8 * j) 4 ≢ 0
  other_some j below z =
      let e : others_at + 8 * j + 4 ≡ 370 + 8 * j = omega arith in
      (other_apart _ _ _ (b.others j below)).0 (ap (λ (a : ℕ). number s a 4) e ∙ z)

  press_some : (j : ℕ) → j < k → is_nan (float_at s (presses_at n + 4 + 9 * j + 1)) ≡ false
  press_some j below = up_number 2097152 _ (press_apart _ _ _ (b.presses j below)).1

  press_waits : (j : ℕ) → j < k → waits (float_at s (presses_at n + 4 + 9 * j + 1)) (get_or (floats_in s n) 0 nan) ≡
      true
  press_waits j below = (press_apart _ _ _ (b.presses j below)).2

  event_some : (j : ℕ) → j < e
      → (is_nan (float_at s (events_at n k + 4 + 24 * j)) ≡ false)
      × (is_nan (float_at s (events_at n k + 4 + 8 + 24 * j)) ≡ false)
      × (is_nan (float_at s (events_at n k + 4 + 16 + 24 * j)) ≡ false)
  event_some j below =
      let p : events_at n k + 4 + 8 + 24 * j ≡ events_at n k + 4 + 24 * j + 8 = omega arith in
      let q : events_at n k + 4 + 16 + 24 * j ≡ events_at n k + 4 + 24 * j + 16 = omega arith in
      let g = event_apart _ _ _ (b.events j below) in (
        up_number 2097152 _ g.0,
        subst (λ (a : ℕ). is_nan (float_at s a) ≡ false) (sym p) (finite_number _ g.1),
        subst (λ (a : ℕ). is_nan (float_at s a) ≡ false) (sym q) (finite_number _ g.2),
      )

-- ---- the machine of a good session

module _ (s : List ℕ) (bytes : Below 256 s) (a : Facts s) where
  abbrev n : ℕ
  n = others_in s

  abbrev k : ℕ
  k = presses_in s

  abbrev e : ℕ
  e = events_in s

  abbrev b : Body s n k e
  b = a.body

  abbrev sram : List ℕ
  sram = part s (sram_at n k e + 4) SRAM_SIZE

  -- a part that ends before the end
  fits : (at : ℕ) → at ≤ size_of n k e → at ≤ length s
  fits at h = let z = a.size in omega arith

  -- a count that stands there
  count_stands : (at c : ℕ) → eqb (number s at 4) c ≡ true → at + 4 ≤ length s → Stands s at (bytes_of 4 c)
  count_stands at c h room =
      subst (λ (v : ℕ). Stands s at (bytes_of 4 v)) (eqb-true (number s at 4) c h) (stands_read s at 4 bytes room)

  pub read_sized : Sized (machine_in s)
  unfolding machine_in
  read_sized = record {
    rtc = part_long s (clocks_at n + 76) 256 (fits _ (omega arith));
    page = part_long s (flash_at n + 24) 256 (fits _ (omega arith));
    ram = part_long s (ram_at n k e + 4) RAM_SIZE (fits _ (omega arith));
    sram = part_long s (sram_at n k e + 4) SRAM_SIZE (fits _ (omega arith));
    gpio = part_long s (gpio_at n k e + 4) GPIO_SIZE (fits _ (omega arith));
    fb = part_long s (fb_at n k e + 4) FRAMEBUFFER_SIZE (fits _ (omega arith));
  }

  -- as many of each as its sections count
  pub read_others : others_of (machine_in s) ≡ n
  unfolding machine_in
  read_others = used_back s 370 n a.others (other_some s n k e b)

  pub read_presses : presses_of (machine_in s) ≡ k
  unfolding machine_in parts_back parts_read clocks_resynced times_in keys_in bank_in cells_in cells_read
  read_presses =
      ap (λ (i : ℕ). waiting_in (starts_in s (presses_at n + 4) k) (get_or (floats_in s n) 0 nan) i)
      (places_is k a.presses)
      ∙ presses_many s (presses_at n + 4) k a.presses bytes (get_or (floats_in s n) 0 nan)
      (press_waits s n k e b) (press_some s n k e b)

  pub read_events : events_of (machine_in s) ≡ e
  unfolding machine_in parts_back parts_read ring_in bank_in cells_in cells_read
  read_events = held (ring_of 0 e) a.events

  -- every part of it stands where it was read
  run_stands : (at i c : ℕ) {w : ℕ} → cells_long i c ≡ w → {l : List ℕ} → l ≡ cell_run s at i c → at + w ≤ size_of n k e
      → Stands s at l
  run_stands at i c {w} long is room =
      subst (λ (l : List ℕ). Stands s at l) (sym is) (cell_run_lem s bytes at i c (fits _ (omega arith)))

  floats_stand_at : (at c : ℕ) → ((j : ℕ) → j < c → is_nan (float_at s (at + 8 * j)) ≡ false) → {l : List ℕ}
      → l ≡ float_run s at c → at + 8 * c ≤ size_of n k e → Stands s at l
  floats_stand_at at c some is room =
      subst (λ (l : List ℕ). Stands s at l) (sym is) (float_run_lem s bytes at c (fits _ room) some)

  length_stands : (at size : ℕ) → eqb (number s at 4) size ≡ true → at + 4 + size ≤ length s
      → Stands s at (bytes_of 4 (length (part s (at + 4) size)))
  length_stands at size h room =
      subst (λ (v : ℕ). Stands s at (bytes_of 4 v)) (sym (part_long s (at + 4) size room))
      (count_stands at size h (omega arith))

  presses_stand : Stands s (presses_at n + 4) (pressed (machine_in s))
  unfolding machine_in parts_back parts_read clocks_resynced times_in keys_in bank_in cells_in cells_read
  presses_stand =
      subst
      (λ (i : ℕ). Stands s (presses_at n + 4)
      (press_bytes (starts_in s (presses_at n + 4) k) (codes_in s (presses_at n + 4) k)
      (get_or (floats_in s n) 0 nan) i))
      (sym (places_is k a.presses))
      (presses_back s (presses_at n + 4) k a.presses bytes (get_or (floats_in s n) 0 nan)
      (press_waits s n k e b) (press_some s n k e b) (fits _ (omega arith)))

  events_stand : Stands s (events_at n k + 4) (event_bytes (machine_in s).system.queue e)
  unfolding machine_in parts_back parts_read ring_in bank_in cells_in cells_read
  events_stand =
      events_back s e a.events bytes (events_at n k + 4) (event_some s n k e b) (fits _ (omega arith))

  run_cells : CellsBack s sram
  run_cells = cells_back s sram b.cells.ranges

  run_floats : FloatsBack s sram
  run_floats = floats_back s sram

  read_placed : Placed s (machine_in s) n k e
  unfolding machine_in
  read_placed = record {
    timer_count = count_stands 0 6 b.counts.timers (fits _ (omega arith));
    starts = floats_stand_at 4 6 (starts_some s n k e b) run_floats.starts (omega arith);
    pending = run_stands 52 31 6 pending_long run_cells.pending (omega arith);
    word_count = stands_read s 58 4 bytes (fits _ (omega arith));
    slots = slots_back s bytes (fits _ (omega arith));
    others = others_back s bytes n a.others (fits _ (omega arith));
    flag_count = count_stands (flags_at n) 2 b.counts.flags (fits _ (omega arith));
    converting = run_stands (flags_at n + 4) 40 1 converting_long run_cells.converting (omega arith);
    off = run_stands (flags_at n + 5) 43 1 off_long run_cells.off (omega arith);
    panel_count = count_stands (panel_at n) 45 b.counts.panel (fits _ (omega arith));
    panel = run_stands (panel_at n + 4) 11 14 drawing_long run_cells.panel (omega arith);
    clock_count = count_stands (clocks_at n) 328 b.counts.clocks (fits _ (omega arith));
    times = floats_stand_at (clocks_at n + 4) 3 (times_some s n k e b) run_floats.times (omega arith);
    moments = floats_stand_at (clocks_at n + 28) 2 (moments_some s n k e b) run_floats.moments (omega arith);
    ticks = run_stands (clocks_at n + 44) 37 3 ticks_long run_cells.ticks (omega arith);
    latch = run_stands (clocks_at n + 64) 41 2 latch_long run_cells.latch (omega arith);
    rtc = part_stands s (clocks_at n + 76) 256 (fits _ (omega arith));
    sound_count = count_stands (sound_at n) 2 b.counts.sound (fits _ (omega arith));
    tone = floats_stand_at (sound_at n + 4) 2 (tone_some s n k e b) run_floats.tone (omega arith);
    flash_count = count_stands (flash_at n) 276 b.counts.flash (fits _ (omega arith));
    chip = run_stands (flash_at n + 4) 1 10 chip_long run_cells.chip (omega arith);
    page = part_stands s (flash_at n + 24) 256 (fits _ (omega arith));
    key_count = count_stands (keys_at n) 28 b.counts.keys (fits _ (omega arith));
    keys = run_stands (keys_at n + 4) 47 4 down_long run_cells.keys (omega arith);
    taps = floats_stand_at (keys_at n + 8) 3 (taps_some s n k e b) run_floats.taps (omega arith);
    press_count = stands_read s (presses_at n) 4 bytes (fits _ (omega arith));
    presses = presses_stand;
    event_count = stands_read s (events_at n k) 4 bytes (fits _ (omega arith));
    events = events_stand;
    ram_count = length_stands (ram_at n k e) RAM_SIZE b.lengths.ram (fits _ (omega arith));
    ram = part_stands s (ram_at n k e + 4) RAM_SIZE (fits _ (omega arith));
    sram_count = length_stands (sram_at n k e) SRAM_SIZE b.lengths.sram (fits _ (omega arith));
    sram = part_stands s (sram_at n k e + 4) SRAM_SIZE (fits _ (omega arith));
    gpio_count = length_stands (gpio_at n k e) GPIO_SIZE b.lengths.gpio (fits _ (omega arith));
    gpio = part_stands s (gpio_at n k e + 4) GPIO_SIZE (fits _ (omega arith));
    fb_count = length_stands (fb_at n k e) FRAMEBUFFER_SIZE b.lengths.fb (fits _ (omega arith));
    fb = part_stands s (fb_at n k e + 4) FRAMEBUFFER_SIZE (fits _ (omega arith));
  }

  pub read_back : bytes_in (machine_in s) ≡ s
  read_back =
      let m = machine_in s in
      let size = session_long s m read_sized in
      stands_whole s (bytes_in m)
      (joined s m read_sized
      (subst (λ (i : ℕ). Placed s m i (presses_of m) (events_of m)) (sym read_others)
      (subst (λ (i : ℕ). Placed s m n i (events_of m)) (sym read_presses)
      (subst (λ (i : ℕ). Placed s m n k i) (sym read_events) read_placed))))
      (size ∙ rw (read_others, read_presses, read_events) (sym a.size))

-- WRITING WHAT WAS READ gives the same bytes
pub resumed_back : (s : List ℕ) → Below 256 s → good_session s ≡ true → bytes_in (machine_in s) ≡ s
resumed_back s bytes h = read_back s bytes (facts s h)

-- ---- saving it again, over the same bytes

pub unit_lengths : (m : Machine) → Sized m → UnitLengths m
unfolding bad_memory
unit_lengths m z =
    rw (
      eq-eqb (length m.ram) RAM_SIZE z.ram,
      eq-eqb (length m.sram) SRAM_SIZE z.sram,
      eq-eqb (length m.gpio) GPIO_SIZE z.gpio,
      eq-eqb (length m.fb) FRAMEBUFFER_SIZE z.fb,
    )

sets_whole : (s : List ℕ) → sets s 0 s ≡ s
sets_whole s =
    let z : 0 + length s ≡ length s = omega arith in
    sets-eq s s 0 (omega arith) ∙ rw (z, drop-length s, append-nil s)

-- a resumed session that is saved over the same bytes leaves them as they are
pub resume_writes : (s : List ℕ) → Below 256 s → good_session s ≡ true → save_of (machine_in s) s ≡ saved DONE
    (length s) s
resume_writes s bytes h =
    let a = facts s h in
    let m = machine_in s in
    let z = read_sized s bytes a in
    let back = read_back s bytes a in
    let size : saved_size m ≡ length s = sym (session_long s m z) ∙ ap length back in
    save_done m s (unit_lengths m z) (le-ltb (length s) (saved_size m) (omega arith))
    ∙ rw (size, back, sets_whole s)
