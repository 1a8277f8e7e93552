-- When the bytes of a session are good. Each condition is one of 02's, but for the panel's arguments and the lines
-- (DECISIONS 152).
use Rattle.std.specs.Prelude.{ℕ, zero, suc, ◌+◌, ◌*◌, ◌%◌, Bool, not, ◌&&◌, ◌||◌, List, eqb, ltb, leb, Float}
use Rattle.std.specs.Prelude.{length, get_or}
use Rattle.std.specs.Float.{nan, binary64}
use Rattle.std.specs.Float.Ieee.{of_bits, div, mul, le, to_unsigned}
use Rattle.map.specs.Numbers.{FLASH_SIZE, RAM_SIZE, SRAM_SIZE, GPIO_SIZE, FRAMEBUFFER_SIZE}
use Rattle.whole.specs.Limits.{finite, good_time, good_game, good_turbo}
use Rattle.memory.specs.Places.{place_of}
use Rattle.registers.specs.Ports.{slot_of, day_word}
use Rattle.keys.specs.Script.{waits}
use Rattle.reach.specs.Reach.{reachable}
use Rattle.state.specs.Bank.{chip_in}
use Rattle.system.specs.Refusals.{is_register}
use Rattle.session.specs.Fields.{number, part, all_below}
use Rattle.session.specs.Layout.{most_at, words_at, others_at, flags_at, panel_at, clocks_at, sound_at, flash_at}
use Rattle.session.specs.Layout.{keys_at, presses_at, events_at, ram_at, sram_at, gpio_at, fb_at, size_of}
use Rattle.session.specs.Read.{float_at, cells_in, floats_in}

-- ---- the bank's words

-- a flag is 0 or 1, and a number within its range
unfoldable pub in_ranges : List ℕ → Bool
in_ranges l = all_below (λ i. leb (get_or l i 0) (most_at i)) 51

-- an argument of the panel's command that has not come is 0
abbrev pub come : List ℕ → ℕ → Bool
come l i = ltb i (get_or l 16 0) || eqb (get_or l (12 + i) 0) 0

-- and of the lines only bits 5, 6 and 7 can be applied
unfoldable pub good_cells : List ℕ → Bool
good_cells l =
    in_ranges l && (((come l 0 && come l 1) && (come l 2 && come l 3)) && eqb (get_or l 50 0 % 32) 0)

-- times and turbo keep 01's limits; a frequency and a duty are finite
unfoldable pub good_floats : List Float → Bool
good_floats f =
    (good_time (get_or f 0 nan) && (good_game (get_or f 1 nan) && good_turbo (get_or f 2 nan)))
    && (((good_time (get_or f 3 nan) && (good_time (get_or f 4 nan) && good_time (get_or f 5 nan)))
    && (good_time (get_or f 6 nan) && (good_time (get_or f 7 nan) && good_time (get_or f 8 nan))))
    && ((good_game (get_or f 9 nan) && good_game (get_or f 10 nan))
    && ((finite (get_or f 11 nan) && finite (get_or f 12 nan))
    && (good_time (get_or f 13 nan) && (good_time (get_or f 14 nan) && good_time (get_or f 15 nan))))))

-- no timer was started after now, and nothing was set after game time
unfoldable pub in_order : List Float → Bool
in_order f =
    ((le (get_or f 3 nan) (get_or f 0 nan) && (le (get_or f 4 nan) (get_or f 0 nan) && le (get_or f 5 nan)
    (get_or f 0 nan)))
    && (le (get_or f 6 nan) (get_or f 0 nan) && (le (get_or f 7 nan) (get_or f 0 nan) && le (get_or f 8 nan)
    (get_or f 0 nan))))
    && (le (get_or f 9 nan) (get_or f 1 nan) && le (get_or f 10 nan) (get_or f 1 nan))

-- the ticks are game time's whole part, the syncs that of now times 60
unfoldable pub in_step : List ℕ → List Float → Bool
in_step l f =
    eqb (get_or l 37 0) (to_unsigned 64 (div binary64 (get_or f 1 nan) (of_bits binary64 0x3FF0_0000_0000_0000)))
    && eqb (get_or l 39 0) (to_unsigned 64 (mul binary64 (get_or f 0 nan) (of_bits binary64 0x404E_0000_0000_0000)))

-- ---- tables

-- one of the other words: a register that has no storage of its own and is stored
unfoldable pub other_word : ℕ → Bool
other_word a = (eqb (slot_of a) 76 && not (day_word a)) && (eqb (a % 4) 0 && is_register (place_of a))

-- the address in the row before; 0 before the first
unfoldable pub last_at : List ℕ → ℕ → ℕ
last_at s zero = 0
last_at s (suc j) = number s (others_at + 8 * j) 4

-- a row of the others: not zero, and of a greater address than the row before
unfoldable pub good_other : ℕ → ℕ → ℕ → Bool
good_other last a v = (not (eqb v 0) && ltb last a) && other_word a

unfoldable pub good_others : List ℕ → ℕ → Bool
good_others s n =
    all_below (λ j. good_other (last_at s j) (number s (others_at + 8 * j) 4) (number s (others_at + 8 * j + 4) 4)) n

-- a press of A, B or C that has not expired
unfoldable pub good_press : ℕ → Float → Float → Bool
good_press code start now = leb code 2 && (good_time start && waits start now)

unfoldable pub good_presses : List ℕ → ℕ → Float → ℕ → Bool
good_presses s at now k = all_below (λ j. good_press (number s (at + 9 * j) 1) (float_at s (at + 9 * j + 1)) now) k

unfoldable pub good_event : Float → Float → Float → Bool
good_event time frequency duty = good_time time && (finite frequency && finite duty)

unfoldable pub good_events : List ℕ → ℕ → ℕ → Bool
good_events s at e =
    all_below (λ j. good_event (float_at s (at + 24 * j)) (float_at s (at + 24 * j + 8))
    (float_at s (at + 24 * j + 16))) e

-- ---- all of it, with n other words, k presses and e sound events

-- the counts of the sections that have one length
unfoldable pub good_counts : List ℕ → ℕ → Bool
good_counts s n =
    (eqb (number s 0 4) 6 && (eqb (number s (flags_at n) 4) 2 && eqb (number s (panel_at n) 4) 45))
    && ((eqb (number s (clocks_at n) 4) 328 && eqb (number s (sound_at n) 4) 2)
    && (eqb (number s (flash_at n) 4) 276 && eqb (number s (keys_at n) 4) 28))

unfoldable pub good_lengths : List ℕ → ℕ → ℕ → ℕ → Bool
good_lengths s n k e =
    (eqb (number s (ram_at n k e) 4) RAM_SIZE && eqb (number s (sram_at n k e) 4) SRAM_SIZE)
    && (eqb (number s (gpio_at n k e) 4) GPIO_SIZE && eqb (number s (fb_at n k e) 4) FRAMEBUFFER_SIZE)

unfoldable pub good_bank : List ℕ → List Float → Bool
good_bank l f = (good_cells l && good_floats f) && (in_order f && in_step l f)

-- the flash's transaction is one that a run leaves
unfoldable pub good_flash : List ℕ → ℕ → List ℕ → Bool
good_flash s n l = reachable FLASH_SIZE (chip_in l).tx (part s (flash_at n + 24) 256)

unfoldable pub good_tables : List ℕ → ℕ → ℕ → ℕ → Float → Bool
good_tables s n k e now =
    good_others s n && (good_presses s (presses_at n + 4) now k && good_events s (events_at n k + 4) e)

unfoldable pub good_body : List ℕ → ℕ → ℕ → ℕ → Bool
good_body s n k e =
    (good_counts s n && good_lengths s n k e)
    && ((good_bank (cells_in s n) (floats_in s n) && good_flash s n (cells_in s n))
    && good_tables s n k e (get_or (floats_in s n) 0 nan))

-- ---- the counts of the tables

abbrev pub others_in : List ℕ → ℕ
others_in s = number s words_at 4

abbrev pub presses_in : List ℕ → ℕ
presses_in s = number s (presses_at (others_in s)) 4

abbrev pub events_in : List ℕ → ℕ
events_in s = number s (events_at (others_in s) (presses_in s)) 4

-- THE PREDICATE: no table is over-full, nothing is missing and nothing more is there, and all of it is good
unfoldable pub good_session : List ℕ → Bool
good_session s =
    leb (size_of 0 0 0) (length s)
    && (leb (others_in s) 256
    && (leb (presses_in s) 64
    && (leb (events_in s) 256
    && (eqb (length s) (size_of (others_in s) (presses_in s) (events_in s))
    && good_body s (others_in s) (presses_in s) (events_in s)))))
