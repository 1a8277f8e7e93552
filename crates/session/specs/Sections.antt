-- The bytes of each section.
use Rattle.std.specs.Prelude.{ℕ, zero, suc, ◌+◌, ◌-◌, cond, List, [], ◌++◌, eqb, Float, length, get_or}
use Rattle.std.specs.Float.{nan}
use Rattle.memory.specs.Bytes.{bytes_of}
use Rattle.whole.specs.Forms.{bits_of}
use Rattle.timer.specs.declared.Queue.{Queue}
use Rattle.timer.specs.declared.Event.{Event}
use Rattle.timer.specs.Events.{event_of}
use Rattle.keys.specs.Script.{waits}
use Rattle.session.specs.Fields.{rows_of, counted}
use Rattle.session.specs.Layout.{width_at}

-- ---- runs of words of the bank: n of them, from the i-th on

unfoldable pub cell_bytes : List ℕ → ℕ → ℕ → List ℕ
cell_bytes l i n = rows_of (λ j. bytes_of (width_at (i + j)) (get_or l (i + j) 0)) n

unfoldable pub float_bytes : List Float → ℕ → ℕ → List ℕ
float_bytes f i n = rows_of (λ j. bytes_of 8 (bits_of (get_or f (i + j) nan))) n

-- ---- register words

unfoldable pub slot_bytes : List ℕ → List ℕ
slot_bytes slots = rows_of (λ j. bytes_of 4 (get_or slots j 0)) 76

-- how many places come before the first that is free, of n from the i-th on
unfoldable pub used_from : List ℕ → ℕ → ℕ → ℕ
used_from values i zero = i
used_from values i (suc n) = cond (eqb (get_or values i 0) 0) i (used_from values (i + 1) n)

abbrev pub used_of : List ℕ → ℕ
used_of values = used_from values 0 256

abbrev pub other_row : ℕ → ℕ → List ℕ
other_row address value = bytes_of 4 address ++ bytes_of 4 value

-- the first n places, the last of them first: so that addresses rise
unfoldable pub other_bytes : List ℕ → List ℕ → ℕ → List ℕ
other_bytes addresses values n =
    rows_of (λ j. other_row (get_or addresses (n - 1 - j) 0) (get_or values (n - 1 - j) 0)) n

-- ---- presses that wait, of the first n places

abbrev pub press_row : ℕ → Float → List ℕ
press_row code start = bytes_of 1 code ++ bytes_of 8 (bits_of start)

-- none for one that has expired
abbrev pub press_if : ℕ → Float → Float → List ℕ
press_if code start now = cond (waits start now) (press_row code start) []

unfoldable pub press_bytes : List Float → List ℕ → Float → ℕ → List ℕ
press_bytes starts codes now n = rows_of (λ j. press_if (get_or codes j 0) (get_or starts j nan) now) n

-- ---- sound events, the n oldest

abbrev pub event_row : Event → List ℕ
event_row e = bytes_of 8 (bits_of e.time) ++ (bytes_of 8 (bits_of e.frequency) ++ bytes_of 8 (bits_of e.duty))

unfoldable pub event_bytes : Queue → ℕ → List ℕ
event_bytes q n = rows_of (λ j. event_row (event_of q j)) n

-- ---- sections: l and f are the bank's words

unfoldable pub timers_section : List ℕ → List Float → List ℕ
timers_section l f = counted 6 (float_bytes f 3 6 ++ cell_bytes l 31 6)

unfoldable pub words_section : List ℕ → List ℕ → List ℕ → ℕ → List ℕ
words_section slots addresses values n = counted n (slot_bytes slots ++ other_bytes addresses values n)

unfoldable pub flags_section : List ℕ → List ℕ
flags_section l = counted 2 (cell_bytes l 40 1 ++ cell_bytes l 43 1)

unfoldable pub panel_section : List ℕ → List ℕ
panel_section l = counted 45 (cell_bytes l 11 14)

-- now, game, turbo; when the day and the RTC were set; ticks, the day's base, syncs; the RTC's base, what it shows
unfoldable pub clocks_section : List ℕ → List Float → List ℕ → List ℕ
clocks_section l f rtc =
    counted 328
    (float_bytes f 0 3 ++ (float_bytes f 9 2 ++ (cell_bytes l 37 3 ++ (cell_bytes l 41 2 ++ rtc))))

unfoldable pub sound_section : List Float → List ℕ
sound_section f = counted 2 (float_bytes f 11 2)

unfoldable pub flash_section : List ℕ → List ℕ → List ℕ
flash_section l page = counted 276 (cell_bytes l 1 10 ++ page)

unfoldable pub keys_section : List ℕ → List Float → List ℕ
keys_section l f = counted 28 (cell_bytes l 47 4 ++ float_bytes f 13 3)

unfoldable pub devices_sections : List ℕ → List Float → List ℕ → List ℕ → List ℕ
devices_sections l f rtc page =
    flags_section l
    ++ (panel_section l
    ++ (clocks_section l f rtc ++ (sound_section f ++ (flash_section l page ++ keys_section l f))))

-- k of them wait, of n places
unfoldable pub presses_section : List Float → List ℕ → Float → ℕ → ℕ → List ℕ
presses_section starts codes now n k = counted k (press_bytes starts codes now n)

unfoldable pub events_section : Queue → ℕ → List ℕ
events_section q e = counted e (event_bytes q e)

unfoldable pub memory_sections : List ℕ → List ℕ → List ℕ → List ℕ → List ℕ
memory_sections ram sram gpio fb =
    counted (length ram) ram
    ++ (counted (length sram) sram ++ (counted (length gpio) gpio ++ counted (length fb) fb))
