-- What stands in a session is read as it is: the bank's words, the tables and the memories.
use Prim.Native.Nat.{ℕ, zero, suc, ◌+◌, ◌-◌, ◌*◌, ◌^◌, ◌≤◌, ◌<◌}
use mathlib.Core.Path.{◌≡◌, refl, sym, ap, subst, ◌∙◌}
use mathlib.Core.Logic.{◌≢◌}
use mathlib.Core.Bool.{Bool, true, false, cond}
use mathlib.Core.List.{List, ◌++◌}
use native.Mathlib.Omega.{arith}
use lib.Dec.{eqb, ltb}
use lib.Ieee.{Float, nan}
use lib.ListN.{length, get_or, replicate}
use borrow.Author.Tests.{lt-ltb, le-ltb, eqb-true, eqb-false}
use Rattle.memory.specs.Bytes.{bytes_of}
use Rattle.whole.specs.Forms.{nought, bits_of}
use Rattle.whole.proofs.Rows.{tabled_is, tabled_alike}
use Rattle.whole.proofs.Choice.{by_less, by_same}
use Rattle.timer.specs.declared.Queue.{Queue}
use Rattle.timer.specs.Events.{place_of, event_of}
use Rattle.timer.specs.Straight.{held_of, straight_at, straight}
use Rattle.state.specs.Packed.{floats_of, times_floats}
use Rattle.session.specs.Fields.{number, span, part, all_below}
use Rattle.session.specs.Layout.{widths, width_at, flags_at, panel_at, clocks_at, sound_at, flash_at, keys_at}
use Rattle.session.specs.Layout.{starts_at}
use Rattle.session.specs.Layout.{pending_at}
use Rattle.session.specs.Sections.{cell_bytes, float_bytes, slot_bytes, used_from, other_row, other_bytes, event_row}
use Rattle.session.specs.Sections.{event_bytes}
use Rattle.session.specs.Read.{float_at, cells_read, floats_read, cells_in, floats_in, slots_in, place_in}
use Rattle.session.specs.Read.{places_in, column_at}
use Rattle.session.specs.Read.{column_in}
use Rattle.system.specs.System.{Machine}
use Rattle.session.proofs.Digits.{length_bytes}
use Rattle.session.proofs.Stands.{Stands, stands_first, stands_number, rows_stand, rows_long}
use Rattle.session.proofs.Long.{other_long, event_long}
use Rattle.keeping.specs.Typed.{Below, Fits}
use Rattle.keeping.proofs.Runs.{stands_then, copied, cells_stand, floats_stand, float_stands}
use Rattle.keeping.proofs.Placed.{Placed, cells, floats}
use Rattle.keeping.proofs.Ranges.{tops, saved_of, run_small}

-- ---- the bank's words

module _ (s l : List ℕ) (most : (i : ℕ) → get_or l i 0 ≤ get_or tops i 0) where
  -- one run more
  cells_more : {a b : List ℕ} → a ≡ b → (at i n : ℕ)
      → all_below (λ j. ltb (get_or tops (i + j) 0) (span (width_at (i + j)))) n ≡ true → Stands s at (cell_bytes l i n)
      → cells_read s at a i n ≡ copied l 0 b i n
  cells_more {a} {b} e at i n tested here =
      ap (λ (c : List ℕ). cells_read s at c i n) e ∙ cells_stand s l b at i n here (run_small l most i n tested)

module _ (s : List ℕ) (f : List Float) (typed : Fits f) where
  floats_more : {a b : List Float} → a ≡ b → (at i n : ℕ) → Stands s at (float_bytes f i n)
      → floats_read s at a i n ≡ copied f nan b i n
  floats_more {a} {b} e at i n here =
      ap (λ (c : List Float). floats_read s at c i n) e ∙ floats_stand s f b typed at i n here

-- the words have room in their bytes
timers_room : all_below (λ j. ltb (get_or tops (31 + j) 0) (span (width_at (31 + j)))) 6 ≡ true
unfolding all_below tops span widths
timers_room = refl

converting_room : all_below (λ j. ltb (get_or tops (40 + j) 0) (span (width_at (40 + j)))) 1 ≡ true
unfolding all_below tops span widths
converting_room = refl

off_room : all_below (λ j. ltb (get_or tops (43 + j) 0) (span (width_at (43 + j)))) 1 ≡ true
unfolding all_below tops span widths
off_room = refl

panel_room : all_below (λ j. ltb (get_or tops (11 + j) 0) (span (width_at (11 + j)))) 14 ≡ true
unfolding all_below tops span widths
panel_room = refl

clocks_room : all_below (λ j. ltb (get_or tops (37 + j) 0) (span (width_at (37 + j)))) 3 ≡ true
unfolding all_below tops span widths
clocks_room = refl

rtc_room : all_below (λ j. ltb (get_or tops (41 + j) 0) (span (width_at (41 + j)))) 2 ≡ true
unfolding all_below tops span widths
rtc_room = refl

flash_room : all_below (λ j. ltb (get_or tops (1 + j) 0) (span (width_at (1 + j)))) 10 ≡ true
unfolding all_below tops span widths
flash_room = refl

keys_room : all_below (λ j. ltb (get_or tops (47 + j) 0) (span (width_at (47 + j)))) 4 ≡ true
unfolding all_below tops span widths
keys_room = refl

module _ (s : List ℕ) (m : Machine) (n k e : ℕ) (p : Placed s m n k e) where
  pub read_words : ((i : ℕ) → get_or (cells m) i 0 ≤ get_or tops i 0) → cells_in s n ≡ saved_of (cells m)
  unfolding cells_in saved_of
  read_words most =
      let zeros : ◌≡◌ {A = List ℕ} (replicate 51 0) (replicate 51 0) = refl in
      let a = cells_more s (cells m) most zeros pending_at 31 6 timers_room p.pending in
      let b = cells_more s (cells m) most a (flags_at n + 4) 40 1 converting_room p.converting in
      let c = cells_more s (cells m) most b (flags_at n + 5) 43 1 off_room p.off in
      let d = cells_more s (cells m) most c (panel_at n + 4) 11 14 panel_room p.panel in
      let g = cells_more s (cells m) most d (clocks_at n + 44) 37 3 clocks_room p.ticks in
      let h = cells_more s (cells m) most g (clocks_at n + 64) 41 2 rtc_room p.latch in
      let i = cells_more s (cells m) most h (flash_at n + 4) 1 10 flash_room p.chip in
      cells_more s (cells m) most i (keys_at n + 4) 47 4 keys_room p.keys

  -- all of them are saved
  pub read_floats : Fits (floats m) → floats_in s n ≡ floats m
  unfolding floats_in floats_of times_floats copied
  read_floats typed =
      let zeros : ◌≡◌ {A = List Float} (replicate 16 nought) (replicate 16 nought) = refl in
      let a = floats_more s (floats m) typed zeros starts_at 3 6 p.starts in
      let b = floats_more s (floats m) typed a (clocks_at n + 4) 0 3 p.times in
      let c = floats_more s (floats m) typed b (clocks_at n + 28) 9 2 p.moments in
      let d = floats_more s (floats m) typed c (sound_at n + 4) 11 2 p.tone in
      floats_more s (floats m) typed d (keys_at n + 8) 13 3 p.taps

-- ---- what is copied

pub part_read : (s : List ℕ) (at n : ℕ) (l : List ℕ) → length l ≡ n → Stands s at l → part s at n ≡ l
part_read s at n l size h = ap (λ (k : ℕ). part s at k) (sym size) ∙ h

pub count_read : (s : List ℕ) (at c : ℕ) → c < 2 ^ 32 → Stands s at (bytes_of 4 c) → number s at 4 ≡ c
unfolding span
count_read s at c small h = stands_number s at 4 c small h

-- ---- own words

module _ (s slots : List ℕ) (small : Below (2 ^ 32) slots) (h : Stands s 62 (slot_bytes slots)) where
  slot_read : (j : ℕ) → j < 76 → number s (62 + 4 * j) 4 ≡ get_or slots j 0
  unfolding slot_bytes
  slot_read j below =
      count_read s (62 + 4 * j) (get_or slots j 0) (small j)
      (subst (λ (i : ℕ). Stands s (62 + i) (bytes_of 4 (get_or slots j 0)))
      (rows_long (λ j. bytes_of 4 (get_or slots j 0)) 4 j (λ i b. length_bytes 4 (get_or slots i 0)))
      (rows_stand s 62 (λ j. bytes_of 4 (get_or slots j 0)) 76 h j below))

  pub slots_read : length slots ≡ 76 → slots_in s ≡ slots
  unfolding slots_in
  slots_read size =
      sym (tabled_is (λ i. number s (62 + 4 * i) 4) 76 slots 0 size (λ i below. sym (slot_read i below)))

-- ---- other words

module _ (values : List ℕ) where
  -- what the number of used places says
  pub record Used (n i c : ℕ) : Type 0 where
    pub least : i ≤ n
    pub most : n ≤ i + c
    pub some : (j : ℕ) → i ≤ j → j < n → get_or values j 0 ≢ 0
    pub free : n < i + c → get_or values n 0 ≡ 0

  used_more : (c i : ℕ) → Used (used_from values i c) i c
  unfolding used_from
  used_more zero i = record {
    least = omega arith;
    most = omega arith;
    some = λ j a b. absurd (omega arith);
    free = λ b. absurd (omega arith);
  }
  used_more (suc c) i = by (used_more c (i + 1)) (eqb (get_or values i 0) 0) refl
    where
      by : Used (used_from values (i + 1) c) (i + 1) c → (b : Bool) → eqb (get_or values i 0) 0 ≡ b
          → Used (cond b i (used_from values (i + 1) c)) i (suc c)
      by rest true h = record {
        least = omega arith;
        most = omega arith;
        some = λ j a b. absurd (omega arith);
        free = λ b. eqb-true (get_or values i 0) 0 h;
      }
      by rest false h = record {
        least = let l = rest.least in omega arith;
        most = let l = rest.most in omega arith;
        some = λ j from below. by_same j i
            (λ same. subst (λ (k : ℕ). get_or values k 0 ≢ 0) (sym same) (λ z. eqb-false (get_or values i 0) 0 h z))
            (λ other. rest.some j (omega arith) below);
        free = λ below. rest.free (omega arith);
      }

  pub used : Used (used_from values 0 256) 0 256
  used = used_more 256 0

module _ (s addresses values : List ℕ) (n : ℕ) (low : Below (2 ^ 32) addresses) (few : Below (2 ^ 32) values)
    (h : Stands s 366 (other_bytes addresses values n)) where
  other_row_lem : (j : ℕ) → j < n
      → Stands s (366 + 8 * j) (other_row (get_or addresses (n - 1 - j) 0) (get_or values (n - 1 - j) 0))
  unfolding other_bytes
  other_row_lem j below =
      subst (λ (i : ℕ). Stands s (366 + i) (other_row (get_or addresses (n - 1 - j) 0) (get_or values (n - 1 - j) 0)))
      (rows_long row 8 j (λ i b. other_long _ _)) (rows_stand s 366 row n h j below)
    where
      row : ℕ → List ℕ
      row j = other_row (get_or addresses (n - 1 - j) 0) (get_or values (n - 1 - j) 0)

  pub address_read : (j : ℕ) → j < n → number s (366 + 8 * j) 4 ≡ get_or addresses (n - 1 - j) 0
  address_read j below =
      count_read s (366 + 8 * j) _ (low (n - 1 - j)) (stands_first s (366 + 8 * j) _ _ (other_row_lem j below))

  pub value_read : (j : ℕ) → j < n → number s (370 + 8 * j) 4 ≡ get_or values (n - 1 - j) 0
  value_read j below =
      count_read s (370 + 8 * j) _ (few (n - 1 - j))
      (stands_then s (366 + 8 * j) (bytes_of 4 (get_or addresses (n - 1 - j) 0)) _ (370 + 8 * j)
      (let e = length_bytes 4 (get_or addresses (n - 1 - j) 0) in omega arith) (other_row_lem j below))

-- a table whose rows were read, and whose free places hold zeros
pub places_read : (s : List ℕ) (at n : ℕ) (l : List ℕ) → length l ≡ 256 → n ≤ 256
    → ((j : ℕ) → j < n → number s (at + 8 * j) 4 ≡ get_or l (n - 1 - j) 0) → ((i : ℕ) → n ≤ i → get_or l i 0 ≡ 0)
    → places_in s at n ≡ l
unfolding places_in place_in
places_read s at n l size most each free =
    sym (tabled_is (λ i. place_in s at n i) 256 l 0 size (λ i below. by_less i n
    (λ less.
    let back : n - 1 - (n - 1 - i) ≡ i = omega arith in
    rw (lt-ltb i n less)
    (ap (λ (k : ℕ). get_or l k 0) (sym back) ∙ sym (each (n - 1 - i) (omega arith))))
    (λ least. rw (le-ltb i n least) (free i least))))

-- ---- sound events

module _ (s : List ℕ) (at : ℕ) (q : Queue) (e : ℕ) (h : Stands s at (event_bytes q e)) (a : Fits q.onsets)
    (b : Fits q.frequencies) (c : Fits q.duties) where
  event_row_lem : (j : ℕ) → j < e → Stands s (at + 24 * j) (event_row (event_of q j))
  unfolding event_bytes
  event_row_lem j below =
      subst (λ (i : ℕ). Stands s (at + i) (event_row (event_of q j)))
      (rows_long (λ j. event_row (event_of q j)) 24 j (λ i b. event_long (event_of q i)))
      (rows_stand s at (λ j. event_row (event_of q j)) e h j below)

  event_rest : (j : ℕ) → j < e
      → Stands s (at + 24 * j + 8)
      (bytes_of 8 (bits_of (event_of q j).frequency) ++ bytes_of 8 (bits_of (event_of q j).duty))
  event_rest j below =
      stands_then s (at + 24 * j) (bytes_of 8 (bits_of (event_of q j).time)) _ (at + 24 * j + 8)
      (ap (λ (i : ℕ). at + 24 * j + i) (length_bytes 8 (bits_of (event_of q j).time))) (event_row_lem j below)

  pub time_read : (j : ℕ) → j < e → float_at s (at + 24 * j) ≡ (event_of q j).time
  time_read j below = float_stands s (at + 24 * j) _ (a _) (stands_first s (at + 24 * j) _ _ (event_row_lem j below))

  pub frequency_read : (j : ℕ) → j < e → float_at s (at + 24 * j + 8) ≡ (event_of q j).frequency
  frequency_read j below =
      float_stands s (at + 24 * j + 8) _ (b _) (stands_first s (at + 24 * j + 8) _ _ (event_rest j below))

  pub duty_read : (j : ℕ) → j < e → float_at s (at + 24 * j + 16) ≡ (event_of q j).duty
  duty_read j below =
      float_stands s (at + 24 * j + 16) _ (c _)
      (stands_then s (at + 24 * j + 8) (bytes_of 8 (bits_of (event_of q j).frequency)) _ (at + 24 * j + 16)
      (let l = length_bytes 8 (bits_of (event_of q j).frequency) in omega arith) (event_rest j below))

-- a column of the events, straightened
pub column_read : (s : List ℕ) (at : ℕ) (q : Queue) (l : List Float)
    → ((j : ℕ) → j < held_of q.ring → float_at s (at + 24 * j) ≡ get_or l (place_of q.ring j) nan)
    → column_in s at (held_of q.ring) ≡ straight q.ring l
unfolding column_in column_at straight
column_read s at q l each =
    tabled_alike (λ i. column_at s at (held_of q.ring) i) (λ i. straight_at q.ring l i) 256 (λ i below.
    by_less i (held_of q.ring)
    (λ less. rw (lt-ltb i (held_of q.ring) less) (each i less))
    (λ least. rw (le-ltb i (held_of q.ring) least)))
