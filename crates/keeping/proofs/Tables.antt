-- The tables of a good session: what was read of them has the session's bytes.
use Prim.Native.Nat.{ℕ, zero, suc, ◌+◌, ◌-◌, ◌*◌, ◌≤◌, ◌<◌}
use mathlib.Core.Path.{◌≡◌, refl, sym, ap, ◌∙◌}
use mathlib.Core.Logic.{◌≢◌}
use mathlib.Core.Bool.{Bool, true, false, cond}
use mathlib.Core.List.{List}
use native.Mathlib.Numerals.{add-one}
use native.Mathlib.Omega.{arith}
use lib.Dec.{eqb, ltb}
use lib.Ieee.{Float, nan, is_nan}
use lib.ListN.{length, get_or, length-drop}
use lib.Seq.{length-take-le}
use borrow.Author.Tests.{ltb-true, ltb-false, lt-ltb, le-ltb, eqb-true, eqb-false}
use Rattle.memory.specs.Bytes.{bytes_of}
use Rattle.whole.specs.Forms.{bits_of}
use Rattle.whole.specs.Rows.{tabled}
use Rattle.whole.proofs.Rows.{get_or_tabled}
use Rattle.timer.specs.declared.Ring.{Ring}
use Rattle.timer.specs.Events.{ring_of, place_of, queue_of, event_of}
use Rattle.timer.specs.Straight.{held_of}
use Rattle.keys.specs.Script.{waits, waiting_in}
use Rattle.session.specs.Fields.{number, part, rows_of}
use Rattle.session.specs.Sections.{slot_bytes, used_from, other_row, other_bytes, press_if, press_bytes, event_row}
use Rattle.session.specs.Sections.{event_bytes}
use Rattle.session.specs.Read.{float_at, slots_in, place_in, places_in, start_in, code_in, starts_in, codes_in}
use Rattle.session.specs.Read.{column_at}
use Rattle.session.specs.Read.{column_in}
use Rattle.session.proofs.Digits.{length_bytes}
use Rattle.session.proofs.Stands.{Stands, stands_read, stands_rows, rows_long}
use Rattle.session.proofs.Long.{other_long, event_long, presses_long}
use Rattle.keeping.proofs.Runs.{stands_next, float_bytes_lem}

-- ---- parts of a session

pub part_long : (s : List ℕ) (at n : ℕ) → at + n ≤ length s → length (part s at n) ≡ n
part_long s at n fits = length-take-le n _ (let e = length-drop at s in omega arith)

pub part_stands : (s : List ℕ) (at n : ℕ) → at + n ≤ length s → Stands s at (part s at n)
part_stands s at n fits = ap (λ (k : ℕ). part s at k) (part_long s at n fits)

-- ---- other words

-- n places are used where the first n are and the next is not
module _ (values : List ℕ) (n : ℕ) where
  pub used_from_lem : (c i : ℕ) → i ≤ n → n ≤ i + c → ((j : ℕ) → i ≤ j → j < n → get_or values j 0 ≢ 0)
      → (n < i + c → get_or values n 0 ≡ 0) → used_from values i c ≡ n
  unfolding used_from
  used_from_lem zero i least most some free = omega arith
  used_from_lem (suc c) i least most some free =
      by (λ less. used_from_lem c (i + 1) (omega arith) (omega arith) (λ j a b. some j (omega arith) b)
      (λ below. free (omega arith))) (eqb (get_or values i 0) 0) refl
    where
      by : (i < n → used_from values (i + 1) c ≡ n) → (b : Bool) → eqb (get_or values i 0) 0 ≡ b
          → cond b i (used_from values (i + 1) c) ≡ n
      by rest true e = or (ltb i n) refl
        where
          or : (b : Bool) → ltb i n ≡ b → i ≡ n
          or true f = absurd (some i (omega arith) (ltb-true i n f) (eqb-true (get_or values i 0) 0 e))
          or false f = let above = ltb-false i n f in omega arith
      by rest false e = or (ltb i n) refl
        where
          or : (b : Bool) → ltb i n ≡ b → used_from values (i + 1) c ≡ n
          or true f = rest (ltb-true i n f)
          or false f =
              let same : i ≡ n = let above = ltb-false i n f in omega arith in
              absurd (eqb-false (get_or values i 0) 0 e
              (ap (λ (k : ℕ). get_or values k 0) same ∙ free (omega arith)))

module _ (s : List ℕ) (at n : ℕ) where
  -- the place that stands i before the end
  pub place_back : n ≤ 256 → (i : ℕ) → i < n → get_or (places_in s at n) (n - 1 - i) 0 ≡ number s (at + 8 * i) 4
  unfolding places_in place_in
  place_back most i below =
      let back : n - 1 - (n - 1 - i) ≡ i = omega arith in
      get_or_tabled (λ i. place_in s at n i) 256 (n - 1 - i) 0 (omega arith)
      ∙ rw (lt-ltb (n - 1 - i) n (omega arith), back)

  pub place_at : (i : ℕ) → i < n → n ≤ 256 → get_or (places_in s at n) i 0 ≡ number s (at + 8 * (n - 1 - i)) 4
  unfolding places_in place_in
  place_at i below most =
      get_or_tabled (λ i. place_in s at n i) 256 i 0 (omega arith) ∙ rw (lt-ltb i n below)

  pub place_free : (i : ℕ) → n ≤ i → i < 256 → get_or (places_in s at n) i 0 ≡ 0
  unfolding places_in place_in
  place_free i least below =
      get_or_tabled (λ i. place_in s at n i) 256 i 0 below ∙ rw (le-ltb i n least)

-- as many as stand there
pub used_back : (s : List ℕ) (at n : ℕ) → n ≤ 256 → ((j : ℕ) → j < n → number s (at + 8 * j) 4 ≢ 0)
    → used_from (places_in s at n) 0 256 ≡ n
used_back s at n most some =
    used_from_lem (places_in s at n) n 256 0 (omega arith) (omega arith)
    (λ j a below zero_at. some (n - 1 - j) (omega arith) (sym (place_at s at n j below most) ∙ zero_at))
    (λ below. place_free s at n n (omega arith) (omega arith))

module _ (s : List ℕ) (bytes : (i : ℕ) → get_or s i 0 < 256) where
  pub slots_back : 62 + 304 ≤ length s → Stands s 62 (slot_bytes (slots_in s))
  unfolding slot_bytes slots_in
  slots_back fits =
      stands_rows s 62 row 76 (λ j below.
      rw (
        rows_long row 4 j (λ i b. length_bytes 4 (get_or words i 0)),
        get_or_tabled (λ i. number s (62 + 4 * i) 4) 76 j 0 below,
      )
      (stands_read s (62 + 4 * j) 4 bytes (omega arith)))
    where
      words : List ℕ
      words = tabled (λ i. number s (62 + 4 * i) 4) 76

      row : ℕ → List ℕ
      row j = bytes_of 4 (get_or words j 0)

  pub others_back : (n : ℕ) → n ≤ 256 → 366 + 8 * n ≤ length s
      → Stands s 366 (other_bytes (places_in s 366 n) (places_in s 370 n) n)
  unfolding other_bytes
  others_back n most fits =
      stands_rows s 366 row n (λ j below.
      rw (rows_long row 8 j (λ i b. other_long _ _), place_back s 366 n most j below, place_back s 370 n most j below)
      (stands_next s (366 + 8 * j) (bytes_of 4 (number s (366 + 8 * j) 4)) (bytes_of 4 (number s (370 + 8 * j) 4))
      (370 + 8 * j) (let e = length_bytes 4 (number s (366 + 8 * j) 4) in omega arith)
      (stands_read s (366 + 8 * j) 4 bytes (omega arith)) (stands_read s (370 + 8 * j) 4 bytes (omega arith))))
    where
      row : ℕ → List ℕ
      row j = other_row (get_or (places_in s 366 n) (n - 1 - j) 0) (get_or (places_in s 370 n) (n - 1 - j) 0)

-- ---- presses

-- all of them wait
pub all_wait : (starts : List Float) (now : Float) (n : ℕ) → ((i : ℕ) → i < n → waits (get_or starts i nan) now ≡ true)
    → waiting_in starts now n ≡ n
unfolding waiting_in
all_wait starts now zero each = refl
all_wait starts now (suc n) each =
    rw (each n (omega arith), all_wait starts now n (λ i below. each i (omega arith))) (add-one n)

module _ (s : List ℕ) (at k : ℕ) (most : k ≤ 64) where
  pub start_at : (i : ℕ) → i < k → get_or (starts_in s at k) i nan ≡ float_at s (at + 9 * i + 1)
  unfolding starts_in start_in
  start_at i below = get_or_tabled (λ i. start_in s at k i) 64 i nan (omega arith) ∙ rw (lt-ltb i k below)

  pub code_at : (i : ℕ) → i < k → get_or (codes_in s at k) i 0 ≡ number s (at + 9 * i) 1
  unfolding codes_in code_in
  code_at i below = get_or_tabled (λ i. code_in s at k i) 64 i 0 (omega arith) ∙ rw (lt-ltb i k below)

  module _ (bytes : (i : ℕ) → get_or s i 0 < 256) (now : Float)
      (wait : (i : ℕ) → i < k → waits (float_at s (at + 9 * i + 1)) now ≡ true)
      (some : (i : ℕ) → i < k → is_nan (float_at s (at + 9 * i + 1)) ≡ false) where
    waits_at_lem : (i : ℕ) → i < k → waits (get_or (starts_in s at k) i nan) now ≡ true
    waits_at_lem i below = ap (λ (t : Float). waits t now) (start_at i below) ∙ wait i below

    pub presses_many : waiting_in (starts_in s at k) now k ≡ k
    presses_many = all_wait (starts_in s at k) now k waits_at_lem

    pub presses_back : at + 9 * k ≤ length s → Stands s at (press_bytes (starts_in s at k) (codes_in s at k) now k)
    unfolding press_bytes
    presses_back fits =
        stands_rows s at (λ j. press_if (get_or (codes_in s at k) j 0) (get_or (starts_in s at k) j nan) now) k
        (λ j below.
        rw (long j below, waits_at_lem j below, start_at j below, code_at j below)
        (stands_next s (at + 9 * j) (bytes_of 1 (number s (at + 9 * j) 1))
        (bytes_of 8 (bits_of (float_at s (at + 9 * j + 1)))) (at + 9 * j + 1)
        (let e = length_bytes 1 (number s (at + 9 * j) 1) in omega arith)
        (stands_read s (at + 9 * j) 1 bytes (omega arith))
        (float_bytes_lem s bytes (at + 9 * j + 1) (omega arith) (some j below))))
      where
        long : (j : ℕ) → j < k
            → length (rows_of (λ j. press_if (get_or (codes_in s at k) j 0) (get_or (starts_in s at k) j nan) now)
            j) ≡ 9 * j
        long j below =
            presses_long (starts_in s at k) (codes_in s at k) now j
            ∙ ap (λ (n : ℕ). 9 * n) (all_wait (starts_in s at k) now j (λ i less. waits_at_lem i (omega arith)))

-- ---- sound events

pub held : (ring : Ring) → ring.count ≤ 256 → held_of ring ≡ ring.count
held ring most = by (ltb ring.count 256) refl
  where
    by : (b : Bool) → ltb ring.count 256 ≡ b → cond b ring.count 256 ≡ ring.count
    by true h = refl
    by false h = let l = ltb-false ring.count 256 h in omega arith

module _ (s : List ℕ) (e : ℕ) (most : e ≤ 256) where
  pub column_at_lem : (at i : ℕ) → i < e → get_or (column_in s at e) i nan ≡ float_at s (at + 24 * i)
  unfolding column_in column_at
  column_at_lem at i below = get_or_tabled (λ i. column_at s at e i) 256 i nan (omega arith) ∙ rw (lt-ltb i e below)

  pub event_back : (at i : ℕ) → i < e → get_or (column_in s at e) (place_of (ring_of 0 e) i) nan ≡ float_at s
      (at + 24 * i)
  event_back at i below =
      let first : place_of (ring_of 0 e) i ≡ i = omega arith in
      ap (λ (p : ℕ). get_or (column_in s at e) p nan) first ∙ column_at_lem at i below

  module _ (bytes : (i : ℕ) → get_or s i 0 < 256) (at : ℕ)
      (some : (i : ℕ) → i < e
      → (is_nan (float_at s (at + 24 * i)) ≡ false) × (is_nan (float_at s (at + 8 + 24 * i)) ≡ false)
      × (is_nan (float_at s (at + 16 + 24 * i)) ≡ false)) where
    pub events_back : at + 24 * e ≤ length s
        → Stands s at
        (event_bytes (queue_of (column_in s at e) (column_in s (at + 8) e) (column_in s (at + 16) e) (ring_of 0 e)) e)
    unfolding event_bytes
    events_back fits =
        stands_rows s at row e (λ j below.
        rw (
          rows_long row 24 j (λ i b. event_long _),
          event_back at j below,
          event_back (at + 8) j below,
          event_back (at + 16) j below,
        )
        (stands_next s (at + 24 * j) (bytes_of 8 (bits_of (float_at s (at + 24 * j)))) _ (at + 8 + 24 * j)
        (let e = length_bytes 8 (bits_of (float_at s (at + 24 * j))) in omega arith)
        (float_bytes_lem s bytes (at + 24 * j) (omega arith) (some j below).0)
        (stands_next s (at + 8 + 24 * j) (bytes_of 8 (bits_of (float_at s (at + 8 + 24 * j)))) _ (at + 16 + 24 * j)
        (let e = length_bytes 8 (bits_of (float_at s (at + 8 + 24 * j))) in omega arith)
        (float_bytes_lem s bytes (at + 8 + 24 * j) (omega arith) (some j below).1)
        (float_bytes_lem s bytes (at + 16 + 24 * j) (omega arith) (some j below).2))))
      where
        row : ℕ → List ℕ
        row j =
            event_row (event_of
            (queue_of (column_in s at e) (column_in s (at + 8) e) (column_in s (at + 16) e) (ring_of 0 e)) j)
