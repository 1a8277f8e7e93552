-- How many bytes each section has.
use Prim.Native.Nat.{ℕ, zero, suc, ◌+◌, ◌*◌}
use mathlib.Core.Path.{◌≡◌, refl, ◌∙◌}
use mathlib.Core.Bool.{Bool, true, false, cond}
use mathlib.Core.List.{List, [], ◌++◌}
use native.Mathlib.Omega.{arith}
use lib.Ieee.{Float, nan}
use lib.ListN.{length, get_or, length-append}
use Rattle.memory.specs.Bytes.{bytes_of}
use Rattle.whole.specs.Forms.{bits_of}
use Rattle.timer.specs.declared.Queue.{Queue}
use Rattle.timer.specs.declared.Event.{Event}
use Rattle.timer.specs.Events.{event_of}
use Rattle.keys.specs.Script.{waits, waiting_in}
use Rattle.session.specs.Fields.{rows_of, counted}
use Rattle.session.specs.Layout.{widths, width_at, cells_long}
use Rattle.session.specs.Sections.{cell_bytes, float_bytes, slot_bytes, other_row, other_bytes, press_row, press_if}
use Rattle.session.specs.Sections.{press_bytes, event_row, event_bytes, timers_section, words_section, flags_section}
use Rattle.session.specs.Sections.{panel_section, clocks_section, sound_section, flash_section, keys_section}
use Rattle.session.specs.Sections.{devices_sections, presses_section, events_section, memory_sections}
use Rattle.session.proofs.Digits.{length_bytes}
use Rattle.session.proofs.Stands.{rows_long}

-- ---- rows

cells_long_by : (l : List ℕ) (i n : ℕ)
    → length (rows_of (λ j. bytes_of (width_at (i + j)) (get_or l (i + j) 0)) n) ≡ cells_long i n
unfolding rows_of cells_long
cells_long_by l i zero = refl
cells_long_by l i (suc n) =
    let before = cells_long_by l i n in
    let here = length_bytes (width_at (i + n)) (get_or l (i + n) 0) in
    let all = length-append (rows_of (λ j. bytes_of (width_at (i + j)) (get_or l (i + j) 0)) n)
    (bytes_of (width_at (i + n)) (get_or l (i + n) 0)) in
    omega arith

pub cells_long_lem : (l : List ℕ) (i n : ℕ) → length (cell_bytes l i n) ≡ cells_long i n
unfolding cell_bytes
cells_long_lem l i n = cells_long_by l i n

pub floats_long : (f : List Float) (i n : ℕ) → length (float_bytes f i n) ≡ 8 * n
unfolding float_bytes
floats_long f i n =
    rows_long (λ j. bytes_of 8 (bits_of (get_or f (i + j) nan))) 8 n
    (λ j below. length_bytes 8 (bits_of (get_or f (i + j)
    nan)))

pub slots_long : (slots : List ℕ) → length (slot_bytes slots) ≡ 304
unfolding slot_bytes
slots_long slots = rows_long (λ j. bytes_of 4 (get_or slots j 0)) 4 76 (λ j below. length_bytes 4 (get_or slots j 0))

pub other_long : (a v : ℕ) → length (other_row a v) ≡ 8
other_long a v =
    let first = length_bytes 4 a in
    let second = length_bytes 4 v in
    let all = length-append (bytes_of 4 a) (bytes_of 4 v) in
    omega arith

pub others_long : (addresses values : List ℕ) (n : ℕ) → length (other_bytes addresses values n) ≡ 8 * n
unfolding other_bytes
others_long addresses values n = rows_long _ 8 n (λ j below. other_long _ _)

pub press_long : (code : ℕ) (start : Float) → length (press_row code start) ≡ 9
press_long code start =
    let first = length_bytes 1 code in
    let second = length_bytes 8 (bits_of start) in
    let all = length-append (bytes_of 1 code) (bytes_of 8 (bits_of start)) in
    omega arith

presses_long_by : (starts : List Float) (codes : List ℕ) (now : Float) (n : ℕ)
    → length (rows_of (λ j. press_if (get_or codes j 0) (get_or starts j nan) now) n) ≡ 9 * waiting_in starts now n
unfolding rows_of waiting_in
presses_long_by starts codes now zero = refl
presses_long_by starts codes now (suc n) =
    by (presses_long_by starts codes now n) (waits (get_or starts n nan) now)
  where
    by : length (rows_of (λ j. press_if (get_or codes j 0) (get_or starts j nan) now) n) ≡ 9 * waiting_in starts now n
        → (b : Bool)
        → length (rows_of (λ j. press_if (get_or codes j 0) (get_or starts j nan) now) n
        ++ cond b (press_row (get_or codes n 0) (get_or starts n nan)) [])
        ≡ 9 * cond b (waiting_in starts now n + 1) (waiting_in starts now n)
    by before true =
        let here = press_long (get_or codes n 0) (get_or starts n nan) in
        let all = length-append (rows_of (λ j. press_if (get_or codes j 0) (get_or starts j nan) now) n)
        (press_row (get_or codes n 0) (get_or starts n nan)) in
        omega arith
    by before false =
        let all = length-append (rows_of (λ j. press_if (get_or codes j 0) (get_or starts j nan) now) n) [] in
        omega arith

pub presses_long : (starts : List Float) (codes : List ℕ) (now : Float) (n : ℕ)
    → length (press_bytes starts codes now n) ≡ 9 * waiting_in starts now n
unfolding press_bytes
presses_long starts codes now n = presses_long_by starts codes now n

pub event_long : (e : Event) → length (event_row e) ≡ 24
event_long e =
    let a = length_bytes 8 (bits_of e.time) in
    let b = length_bytes 8 (bits_of e.frequency) in
    let c = length_bytes 8 (bits_of e.duty) in
    let later = length-append (bytes_of 8 (bits_of e.frequency)) (bytes_of 8 (bits_of e.duty)) in
    let all = length-append (bytes_of 8 (bits_of e.time))
    (bytes_of 8 (bits_of e.frequency) ++ bytes_of 8 (bits_of e.duty)) in
    omega arith

pub events_long : (q : Queue) (n : ℕ) → length (event_bytes q n) ≡ 24 * n
unfolding event_bytes
events_long q n = rows_long _ 24 n (λ j below. event_long (event_of q j))

-- ---- sections

pub counted_long : (n : ℕ) (bytes : List ℕ) → length (counted n bytes) ≡ 4 + length bytes
counted_long n bytes =
    let count = length_bytes 4 n in
    let all = length-append (bytes_of 4 n) bytes in
    omega arith

-- runs of cells, by their widths
run : (l : List ℕ) (i n w : ℕ) → cells_long i n ≡ w → length (cell_bytes l i n) ≡ w
run l i n w e = cells_long_lem l i n ∙ e

pub pending_bytes : cells_long 31 6 ≡ 6
unfolding cells_long widths
pending_bytes = refl

pub converting_bytes : cells_long 40 1 ≡ 1
unfolding cells_long widths
converting_bytes = refl

pub off_bytes : cells_long 43 1 ≡ 1
unfolding cells_long widths
off_bytes = refl

pub drawing_bytes : cells_long 11 14 ≡ 45
unfolding cells_long widths
drawing_bytes = refl

pub ticks_bytes : cells_long 37 3 ≡ 20
unfolding cells_long widths
ticks_bytes = refl

pub latched_bytes : cells_long 41 2 ≡ 12
unfolding cells_long widths
latched_bytes = refl

pub chip_bytes : cells_long 1 10 ≡ 20
unfolding cells_long widths
chip_bytes = refl

pub down_bytes : cells_long 47 4 ≡ 4
unfolding cells_long widths
down_bytes = refl

pub timers_long : (l : List ℕ) (f : List Float) → length (timers_section l f) ≡ 58
unfolding timers_section
timers_long l f =
    let a = floats_long f 3 6 in
    let b = run l 31 6 6 pending_bytes in
    let c = length-append (float_bytes f 3 6) (cell_bytes l 31 6) in
    let d = counted_long 6 (float_bytes f 3 6 ++ cell_bytes l 31 6) in
    omega arith

pub words_long : (slots addresses values : List ℕ) (n : ℕ) → length (words_section slots addresses values n) ≡ 308 +
    8 * n
unfolding words_section
words_long slots addresses values n =
    let p0 = slots_long slots in
    let p1 = others_long addresses values n in
    let q0 = length-append (slot_bytes slots) (other_bytes addresses values n) in
    let c = counted_long n (slot_bytes slots ++ other_bytes addresses values n) in
    omega arith

pub flags_long : (l : List ℕ) → length (flags_section l) ≡ 6
unfolding flags_section
flags_long l =
    let p0 = run l 40 1 1 converting_bytes in
    let p1 = run l 43 1 1 off_bytes in
    let q0 = length-append (cell_bytes l 40 1) (cell_bytes l 43 1) in
    let c = counted_long 2 (cell_bytes l 40 1 ++ cell_bytes l 43 1) in
    omega arith

pub panel_long : (l : List ℕ) → length (panel_section l) ≡ 49
unfolding panel_section
panel_long l =
    let p0 = run l 11 14 45 drawing_bytes in
    let c = counted_long 45 (cell_bytes l 11 14) in
    omega arith

pub clocks_long : (l : List ℕ) (f : List Float) (rtc : List ℕ) → length rtc ≡ 256 → length (clocks_section l f rtc)
    ≡ 332
unfolding clocks_section
clocks_long l f rtc size =
    let p0 = floats_long f 0 3 in
    let p1 = floats_long f 9 2 in
    let p2 = run l 37 3 20 ticks_bytes in
    let p3 = run l 41 2 12 latched_bytes in
    let q3 = length-append (cell_bytes l 41 2) (rtc) in
    let q2 = length-append (cell_bytes l 37 3) (cell_bytes l 41 2 ++ rtc) in
    let q1 = length-append (float_bytes f 9 2) (cell_bytes l 37 3 ++ (cell_bytes l 41 2 ++ rtc)) in
    let q0 = length-append (float_bytes f 0 3) (float_bytes f 9 2 ++
    (cell_bytes l 37 3 ++ (cell_bytes l 41 2 ++ rtc))) in
    let c = counted_long 328 (float_bytes f 0 3 ++ (float_bytes f 9 2 ++ (cell_bytes l 37 3 ++ (cell_bytes l 41 2 ++
    rtc)))) in
    omega arith

pub sound_long : (f : List Float) → length (sound_section f) ≡ 20
unfolding sound_section
sound_long f =
    let p0 = floats_long f 11 2 in
    let c = counted_long 2 (float_bytes f 11 2) in
    omega arith

pub flash_long : (l page : List ℕ) → length page ≡ 256 → length (flash_section l page) ≡ 280
unfolding flash_section
flash_long l page size =
    let p0 = run l 1 10 20 chip_bytes in
    let q0 = length-append (cell_bytes l 1 10) (page) in
    let c = counted_long 276 (cell_bytes l 1 10 ++ page) in
    omega arith

pub keys_long : (l : List ℕ) (f : List Float) → length (keys_section l f) ≡ 32
unfolding keys_section
keys_long l f =
    let p0 = run l 47 4 4 down_bytes in
    let p1 = floats_long f 13 3 in
    let q0 = length-append (cell_bytes l 47 4) (float_bytes f 13 3) in
    let c = counted_long 28 (cell_bytes l 47 4 ++ float_bytes f 13 3) in
    omega arith

pub devices_long : (l : List ℕ) (f : List Float) (rtc page : List ℕ) → length rtc ≡ 256 → length page ≡ 256
    → length (devices_sections l f rtc page) ≡ 719
unfolding devices_sections
devices_long l f rtc page r p =
    let a = flags_long l in
    let b = panel_long l in
    let c = clocks_long l f rtc r in
    let d = sound_long f in
    let e = flash_long l page p in
    let k = keys_long l f in
    let q5 = length-append (flash_section l page) (keys_section l f) in
    let q4 = length-append (sound_section f) (flash_section l page ++ keys_section l f) in
    let q3 = length-append (clocks_section l f rtc) (sound_section f ++ (flash_section l page ++ keys_section l f)) in
    let q2 = length-append (panel_section l)
    (clocks_section l f rtc ++ (sound_section f ++ (flash_section l page ++ keys_section l f))) in
    let q1 = length-append (flags_section l)
    (panel_section l ++ (clocks_section l f rtc ++ (sound_section f ++ (flash_section l page ++ keys_section l f)))) in
    omega arith

pub pressed_long : (starts : List Float) (codes : List ℕ) (now : Float) (n k : ℕ) → waiting_in starts now n ≡ k
    → length (presses_section starts codes now n k) ≡ 4 + 9 * k
unfolding presses_section
pressed_long starts codes now n k e =
    let a = presses_long starts codes now n in
    let c = counted_long k (press_bytes starts codes now n) in
    omega arith

pub sounds_long : (q : Queue) (e : ℕ) → length (events_section q e) ≡ 4 + 24 * e
unfolding events_section
sounds_long q e =
    let a = events_long q e in
    let c = counted_long e (event_bytes q e) in
    omega arith

pub memories_long : (ram sram gpio fb : List ℕ)
    → length (memory_sections ram sram gpio fb) ≡ 16 + (length ram + (length sram + (length gpio + length fb)))
unfolding memory_sections
memories_long ram sram gpio fb =
    let a = counted_long (length ram) ram in
    let b = counted_long (length sram) sram in
    let c = counted_long (length gpio) gpio in
    let d = counted_long (length fb) fb in
    let q3 = length-append (counted (length gpio) gpio) (counted (length fb) fb) in
    let q2 = length-append (counted (length sram) sram) (counted (length gpio) gpio ++ counted (length fb) fb) in
    let q1 = length-append (counted (length ram) ram)
    (counted (length sram) sram ++ (counted (length gpio) gpio ++ counted (length fb) fb)) in
    omega arith
