-- What a good session says, condition by condition, and that these together are all.
use Prim.Native.Nat.{ℕ, zero, suc, ◌+◌, ◌*◌, ◌%◌, ◌≤◌, ◌<◌}
use mathlib.Core.Path.{◌≡◌, refl, ap, ◌∙◌}
use mathlib.Core.Logic.{◌≢◌}
use mathlib.Core.Bool.{Bool, true, false, not, ◌&&◌}
use mathlib.Core.List.{List}
use native.Mathlib.Omega.{arith}
use lib.Dec.{eqb, ltb, leb}
use lib.Ieee.{Float, nan, binary64, of_bits, div, mul, le, to_unsigned}
use lib.ListN.{length, get_or}
use borrow.Author.Tests.{ltb-true, ltb-false, leb-true, eqb-true, eqb-false, not-true, lt-ltb, le-leb, eq-eqb, ne_eqb}
use Rattle.map.specs.Numbers.{RAM_SIZE, SRAM_SIZE, GPIO_SIZE, FRAMEBUFFER_SIZE}
use Rattle.whole.specs.Limits.{finite, good_time, good_game, good_turbo}
use Rattle.whole.proofs.Choice.{both as apart}
use Rattle.keys.specs.Script.{waits}
use Rattle.session.specs.Fields.{number, all_below}
use Rattle.session.specs.Layout.{flags_at, panel_at, clocks_at, sound_at}
use Rattle.session.specs.Layout.{flash_at, keys_at, presses_at, events_at, others_at}
use Rattle.session.specs.Layout.{ram_at, sram_at, gpio_at, fb_at, size_of}
use Rattle.session.specs.Read.{float_at, cells_in, floats_in}
use Rattle.session.specs.Good.{in_ranges, come, good_cells, good_floats}
use Rattle.session.specs.Good.{in_order, in_step, last_at, good_other, good_others}
use Rattle.session.specs.Good.{other_word, good_press, good_presses}
use Rattle.session.specs.Good.{good_event, good_events, good_counts, good_lengths}
use Rattle.session.specs.Good.{good_bank, good_flash, good_tables, good_body}
use Rattle.session.specs.Good.{others_in, presses_in, events_in, good_session}

-- ---- several conditions

pub both : {a b : Bool} → a ≡ true → b ≡ true → a && b ≡ true
both p q = rw (p, q)

module _ (f : ℕ → Bool) where
  pub all_apart : (n : ℕ) → all_below f n ≡ true → (i : ℕ) → i < n → f i ≡ true
  unfolding all_below
  all_apart zero h i below = elim below [ ]
  all_apart (suc n) h i below = by (λ less. all_apart n (apart (f n) (all_below f n) h).1 i less) (ltb i n) refl
    where
      by : (i < n → f i ≡ true) → (b : Bool) → ltb i n ≡ b → f i ≡ true
      by before true e = before (ltb-true i n e)
      by before false e =
          let same : i ≡ n = let most = ltb-false i n e in omega arith in
          ap f same ∙ (apart (f n) (all_below f n) h).0

  pub all_joined : (n : ℕ) → ((i : ℕ) → i < n → f i ≡ true) → all_below f n ≡ true
  unfolding all_below
  all_joined zero each = refl
  all_joined (suc n) each = both (each n (omega arith)) (all_joined n (λ i below. each i (omega arith)))

-- the floats of the bank
pub record Floats (f : List Float) : Type 0 where
  pub now : good_time (get_or f 0 nan) ≡ true
  pub game : good_game (get_or f 1 nan) ≡ true
  pub turbo : good_turbo (get_or f 2 nan) ≡ true
  pub start0 : good_time (get_or f 3 nan) ≡ true
  pub start1 : good_time (get_or f 4 nan) ≡ true
  pub start2 : good_time (get_or f 5 nan) ≡ true
  pub start3 : good_time (get_or f 6 nan) ≡ true
  pub start4 : good_time (get_or f 7 nan) ≡ true
  pub start5 : good_time (get_or f 8 nan) ≡ true
  pub day : good_game (get_or f 9 nan) ≡ true
  pub since : good_game (get_or f 10 nan) ≡ true
  pub frequency : finite (get_or f 11 nan) ≡ true
  pub duty : finite (get_or f 12 nan) ≡ true
  pub tap0 : good_time (get_or f 13 nan) ≡ true
  pub tap1 : good_time (get_or f 14 nan) ≡ true
  pub tap2 : good_time (get_or f 15 nan) ≡ true

floats_apart : (f : List Float) → good_floats f ≡ true → Floats f
unfolding good_floats
floats_apart f h =
    let h0 = apart _ _ h in
    let h1 = apart _ _ h0.0 in
    let h2 = apart _ _ h1.1 in
    let h3 = apart _ _ h0.1 in
    let h4 = apart _ _ h3.0 in
    let h5 = apart _ _ h4.0 in
    let h6 = apart _ _ h5.1 in
    let h7 = apart _ _ h4.1 in
    let h8 = apart _ _ h7.1 in
    let h9 = apart _ _ h3.1 in
    let h10 = apart _ _ h9.0 in
    let h11 = apart _ _ h9.1 in
    let h12 = apart _ _ h11.0 in
    let h13 = apart _ _ h11.1 in
    let h14 = apart _ _ h13.1 in
    record {
      now = h1.0;
      game = h2.0;
      turbo = h2.1;
      start0 = h5.0;
      start1 = h6.0;
      start2 = h6.1;
      start3 = h7.0;
      start4 = h8.0;
      start5 = h8.1;
      day = h10.0;
      since = h10.1;
      frequency = h12.0;
      duty = h12.1;
      tap0 = h13.0;
      tap1 = h14.0;
      tap2 = h14.1;
    }

floats_joined : (f : List Float) → Floats f → good_floats f ≡ true
unfolding good_floats
floats_joined f r =
    both (both r.now (both r.game r.turbo))
    (both
    (both (both r.start0 (both r.start1 r.start2)) (both r.start3 (both r.start4 r.start5)))
    (both (both r.day r.since)
    (both (both r.frequency r.duty) (both r.tap0 (both r.tap1 r.tap2)))))

-- what lies not after what
pub record Order (f : List Float) : Type 0 where
  pub order0 : le (get_or f 3 nan) (get_or f 0 nan) ≡ true
  pub order1 : le (get_or f 4 nan) (get_or f 0 nan) ≡ true
  pub order2 : le (get_or f 5 nan) (get_or f 0 nan) ≡ true
  pub order3 : le (get_or f 6 nan) (get_or f 0 nan) ≡ true
  pub order4 : le (get_or f 7 nan) (get_or f 0 nan) ≡ true
  pub order5 : le (get_or f 8 nan) (get_or f 0 nan) ≡ true
  pub day_before : le (get_or f 9 nan) (get_or f 1 nan) ≡ true
  pub since_before : le (get_or f 10 nan) (get_or f 1 nan) ≡ true

order_apart : (f : List Float) → in_order f ≡ true → Order f
unfolding in_order
order_apart f h =
    let h0 = apart _ _ h in
    let h1 = apart _ _ h0.0 in
    let h2 = apart _ _ h1.0 in
    let h3 = apart _ _ h2.1 in
    let h4 = apart _ _ h1.1 in
    let h5 = apart _ _ h4.1 in
    let h6 = apart _ _ h0.1 in
    record {
      order0 = h2.0;
      order1 = h3.0;
      order2 = h3.1;
      order3 = h4.0;
      order4 = h5.0;
      order5 = h5.1;
      day_before = h6.0;
      since_before = h6.1;
    }

order_joined : (f : List Float) → Order f → in_order f ≡ true
unfolding in_order
order_joined f r =
    both (both (both r.order0 (both r.order1 r.order2)) (both r.order3 (both r.order4 r.order5)))
    (both r.day_before r.since_before)

-- the counts of what was signalled
pub record Step (l : List ℕ) (f : List Float) : Type 0 where
  pub ticks : eqb (get_or l 37 0)
      (to_unsigned 64 (div binary64 (get_or f 1 nan) (of_bits binary64 0x3FF0_0000_0000_0000))) ≡ true
  pub syncs : eqb (get_or l 39 0)
      (to_unsigned 64 (mul binary64 (get_or f 0 nan) (of_bits binary64 0x404E_0000_0000_0000))) ≡ true

step_apart : (l : List ℕ) (f : List Float) → in_step l f ≡ true → Step l f
unfolding in_step
step_apart l f h =
    let h0 = apart _ _ h in
    record { ticks = h0.0; syncs = h0.1 }

step_joined : (l : List ℕ) (f : List Float) → Step l f → in_step l f ≡ true
unfolding in_step
step_joined l f r = both r.ticks r.syncs

-- the cells of the bank
pub record Cells (l : List ℕ) : Type 0 where
  pub ranges : in_ranges l ≡ true
  pub come0 : come l 0 ≡ true
  pub come1 : come l 1 ≡ true
  pub come2 : come l 2 ≡ true
  pub come3 : come l 3 ≡ true
  pub lines : eqb (get_or l 50 0 % 32) 0 ≡ true

cells_apart : (l : List ℕ) → good_cells l ≡ true → Cells l
unfolding good_cells
cells_apart l h =
    let h0 = apart _ _ h in
    let h1 = apart _ _ h0.1 in
    let h2 = apart _ _ h1.0 in
    let h3 = apart _ _ h2.0 in
    let h4 = apart _ _ h2.1 in
    record { ranges = h0.0; come0 = h3.0; come1 = h3.1; come2 = h4.0; come3 = h4.1; lines = h1.1 }

cells_joined : (l : List ℕ) → Cells l → good_cells l ≡ true
unfolding good_cells
cells_joined l r = both r.ranges (both (both (both r.come0 r.come1) (both r.come2 r.come3)) r.lines)

-- the counts of the sections that have one length
pub record Counts (s : List ℕ) (n : ℕ) : Type 0 where
  pub timers : eqb (number s 0 4) 6 ≡ true
  pub flags : eqb (number s (flags_at n) 4) 2 ≡ true
  pub panel : eqb (number s (panel_at n) 4) 45 ≡ true
  pub clocks : eqb (number s (clocks_at n) 4) 328 ≡ true
  pub sound : eqb (number s (sound_at n) 4) 2 ≡ true
  pub flash : eqb (number s (flash_at n) 4) 276 ≡ true
  pub keys : eqb (number s (keys_at n) 4) 28 ≡ true

counts_apart : (s : List ℕ) (n : ℕ) → good_counts s n ≡ true → Counts s n
unfolding good_counts
counts_apart s n h =
    let h0 = apart _ _ h in
    let h1 = apart _ _ h0.0 in
    let h2 = apart _ _ h1.1 in
    let h3 = apart _ _ h0.1 in
    let h4 = apart _ _ h3.0 in
    let h5 = apart _ _ h3.1 in
    record {
      timers = h1.0;
      flags = h2.0;
      panel = h2.1;
      clocks = h4.0;
      sound = h4.1;
      flash = h5.0;
      keys = h5.1;
    }

counts_joined : (s : List ℕ) (n : ℕ) → Counts s n → good_counts s n ≡ true
unfolding good_counts
counts_joined s n r =
    both (both r.timers (both r.flags r.panel))
    (both (both r.clocks r.sound) (both r.flash r.keys))

-- the lengths of the memories
pub record Lengths (s : List ℕ) (n k e : ℕ) : Type 0 where
  pub ram : eqb (number s (ram_at n k e) 4) RAM_SIZE ≡ true
  pub sram : eqb (number s (sram_at n k e) 4) SRAM_SIZE ≡ true
  pub gpio : eqb (number s (gpio_at n k e) 4) GPIO_SIZE ≡ true
  pub fb : eqb (number s (fb_at n k e) 4) FRAMEBUFFER_SIZE ≡ true

lengths_apart : (s : List ℕ) (n k e : ℕ) → good_lengths s n k e ≡ true → Lengths s n k e
unfolding good_lengths
lengths_apart s n k e h =
    let h0 = apart _ _ h in
    let h1 = apart _ _ h0.0 in
    let h2 = apart _ _ h0.1 in
    record { ram = h1.0; sram = h1.1; gpio = h2.0; fb = h2.1 }

lengths_joined : (s : List ℕ) (n k e : ℕ) → Lengths s n k e → good_lengths s n k e ≡ true
unfolding good_lengths
lengths_joined s n k e r = both (both r.ram r.sram) (both r.gpio r.fb)

-- ---- one entry of a table

pub other_apart : (last a v : ℕ) → good_other last a v ≡ true → (v ≢ 0) × (last < a) × (other_word a ≡ true)
unfolding good_other
other_apart last a v h =
    let p = apart (not (eqb v 0) && ltb last a) (other_word a) h in
    let q = apart (not (eqb v 0)) (ltb last a) p.0 in
    (λ z. eqb-false v 0 (not-true (eqb v 0) q.0) z, ltb-true last a q.1, p.1)

pub other_joined : (last a v : ℕ) → v ≢ 0 → last < a → other_word a ≡ true → good_other last a v ≡ true
unfolding good_other
other_joined last a v some less word =
    both (both (ap not (ne_eqb v 0 some)) (lt-ltb last a less)) word

pub press_apart : (code : ℕ) (start now : Float) → good_press code start now ≡ true
    → (code ≤ 2) × (good_time start ≡ true) × (waits start now ≡ true)
unfolding good_press
press_apart code start now h =
    let p = apart (leb code 2) (good_time start && waits start now) h in
    let q = apart (good_time start) (waits start now) p.1 in
    (leb-true code 2 p.0, q.0, q.1)

pub press_joined : (code : ℕ) (start now : Float) → code ≤ 2 → good_time start ≡ true → waits start now ≡ true
    → good_press code start now ≡ true
unfolding good_press
press_joined code start now most good wait = both (le-leb code 2 most) (both good wait)

pub event_apart : (time frequency duty : Float) → good_event time frequency duty ≡ true
    → (good_time time ≡ true) × (finite frequency ≡ true) × (finite duty ≡ true)
unfolding good_event
event_apart time frequency duty h =
    let p = apart (good_time time) (finite frequency && finite duty) h in
    let q = apart (finite frequency) (finite duty) p.1 in
    (p.0, q.0, q.1)

pub event_joined : (time frequency duty : Float) → good_time time ≡ true → finite frequency ≡ true → finite duty ≡ true
    → good_event time frequency duty ≡ true
unfolding good_event
event_joined time frequency duty a b c = both a (both b c)

-- ---- all of it

-- n other words, k presses and e sound events
pub record Body (s : List ℕ) (n k e : ℕ) : Type 0 where
  pub counts : Counts s n
  pub lengths : Lengths s n k e
  pub cells : Cells (cells_in s n)
  pub floats : Floats (floats_in s n)
  pub order : Order (floats_in s n)
  pub step : Step (cells_in s n) (floats_in s n)
  pub flash : good_flash s n (cells_in s n) ≡ true
  pub others : (j : ℕ) → j < n
      → good_other (last_at s j) (number s (others_at + 8 * j) 4) (number s (others_at + 8 * j + 4) 4) ≡ true
  pub presses : (j : ℕ) → j < k
      → good_press (number s (presses_at n + 4 + 9 * j) 1) (float_at s (presses_at n + 4 + 9 * j + 1))
      (get_or (floats_in s n) 0 nan) ≡ true
  pub events : (j : ℕ) → j < e
      → good_event (float_at s (events_at n k + 4 + 24 * j)) (float_at s (events_at n k + 4 + 24 * j + 8))
      (float_at s (events_at n k + 4 + 24 * j + 16)) ≡ true

body_apart : (s : List ℕ) (n k e : ℕ) → good_body s n k e ≡ true → Body s n k e
unfolding good_body good_bank good_tables good_others good_presses good_events
body_apart s n k e h =
    let a = apart _ _ h in
    let b = apart _ _ a.0 in
    let c = apart _ _ a.1 in
    let d = apart _ _ c.0 in
    let g = apart _ _ d.0 in
    let i = apart _ _ g.0 in
    let j = apart _ _ g.1 in
    let t = apart _ _ c.1 in
    let u = apart _ _ t.1 in
    record {
      counts = counts_apart s n b.0;
      lengths = lengths_apart s n k e b.1;
      cells = cells_apart (cells_in s n) i.0;
      floats = floats_apart (floats_in s n) i.1;
      order = order_apart (floats_in s n) j.0;
      step = step_apart (cells_in s n) (floats_in s n) j.1;
      flash = d.1;
      others = all_apart _ n t.0;
      presses = all_apart _ k u.0;
      events = all_apart _ e u.1;
    }

body_joined : (s : List ℕ) (n k e : ℕ) → Body s n k e → good_body s n k e ≡ true
unfolding good_body good_bank good_tables good_others good_presses good_events
body_joined s n k e r =
    both (both (counts_joined s n r.counts) (lengths_joined s n k e r.lengths))
    (both
    (both
    (both (both (cells_joined (cells_in s n) r.cells) (floats_joined (floats_in s n) r.floats))
    (both (order_joined (floats_in s n) r.order) (step_joined (cells_in s n) (floats_in s n) r.step)))
    r.flash)
    (both (all_joined _ n r.others) (both (all_joined _ k r.presses) (all_joined _ e r.events))))

pub record Facts (s : List ℕ) : Type 0 where
  pub others : others_in s ≤ 256
  pub presses : presses_in s ≤ 64
  pub events : events_in s ≤ 256
  pub size : length s ≡ size_of (others_in s) (presses_in s) (events_in s)
  pub body : Body s (others_in s) (presses_in s) (events_in s)

pub facts : (s : List ℕ) → good_session s ≡ true → Facts s
unfolding good_session
facts s h =
    let a = apart (leb (size_of 0 0 0) (length s)) _ h in
    let b = apart _ _ a.1 in
    let c = apart _ _ b.1 in
    let d = apart _ _ c.1 in
    let e = apart _ _ d.1 in
    record {
      others = leb-true _ _ b.0;
      presses = leb-true _ _ c.0;
      events = leb-true _ _ d.0;
      size = eqb-true _ _ e.0;
      body = body_apart s (others_in s) (presses_in s) (events_in s) e.1;
    }

pub good : (s : List ℕ) → Facts s → good_session s ≡ true
unfolding good_session
good s r =
    let size = r.size in
    both (le-leb (size_of 0 0 0) (length s) (omega arith))
    (both (le-leb _ _ r.others)
    (both (le-leb _ _ r.presses)
    (both (le-leb _ _ r.events)
    (both (eq-eqb _ _ r.size)
    (body_joined s (others_in s) (presses_in s) (events_in s) r.body)))))
