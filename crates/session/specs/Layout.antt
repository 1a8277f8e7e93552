-- Where things stand in a session. The bank's words are named by their places in it (crate state, specs/Bank.antt).
use Rattle.std.specs.Prelude.{ℕ, zero, suc, ◌+◌, ◌*◌, List, [], ◌∷◌, get_or}
use Rattle.map.specs.Numbers.{RAM_SIZE, SRAM_SIZE, GPIO_SIZE, FRAMEBUFFER_SIZE}

-- ---- cells: how many bytes each takes, and the greatest number that it may hold; 0 and 0 where it is not saved

unfoldable pub widths : List ℕ
widths =
    -- the flash: mode; selected, write enable, writes, answer; first four bytes, position, mark
    0 ∷ 1 ∷ 1 ∷ 8 ∷ 1 ∷ 1 ∷ 1 ∷ 1 ∷ 1 ∷ 4 ∷ 1
    -- the panel: command; four arguments and their count; the window; column, row, half a pixel, frames
    ∷ 4 ∷ 1 ∷ 1 ∷ 1 ∷ 1 ∷ 1 ∷ 4 ∷ 4 ∷ 4 ∷ 4 ∷ 4 ∷ 4 ∷ 4 ∷ 8
    -- the timers: periods seen; pending
    ∷ 0 ∷ 0 ∷ 0 ∷ 0 ∷ 0 ∷ 0 ∷ 1 ∷ 1 ∷ 1 ∷ 1 ∷ 1 ∷ 1
    -- ticks, the day's base, syncs, converting; the RTC's base and what it shows; power off
    ∷ 8 ∷ 4 ∷ 8 ∷ 1 ∷ 8 ∷ 4 ∷ 1
    -- the ring; presses, keys that are down, lines that were applied
    ∷ 0 ∷ 0 ∷ 0 ∷ 1 ∷ 1 ∷ 1 ∷ 1 ∷ []

unfoldable pub mosts : List ℕ
mosts =
    0 ∷ 1 ∷ 1 ∷ 0xFFFFFFFFFFFFFFFF ∷ 255 ∷ 255 ∷ 255 ∷ 255 ∷ 255 ∷ 0xFFFFFFFF ∷ 1
    ∷ 256 ∷ 255 ∷ 255 ∷ 255 ∷ 255 ∷ 4 ∷ 65535 ∷ 65535 ∷ 65535 ∷ 65535 ∷ 65535 ∷ 65535 ∷ 256 ∷ 0xFFFFFFFFFFFFFFFF
    ∷ 0 ∷ 0 ∷ 0 ∷ 0 ∷ 0 ∷ 0 ∷ 1 ∷ 1 ∷ 1 ∷ 1 ∷ 1 ∷ 1
    ∷ 0xFFFFFFFFFFFFFFFF ∷ 86399 ∷ 0xFFFFFFFFFFFFFFFF ∷ 1 ∷ 0xFFFFFFFFFFFF ∷ 255 ∷ 1
    ∷ 0 ∷ 0 ∷ 0 ∷ 1 ∷ 1 ∷ 1 ∷ 255 ∷ []

abbrev pub width_at : ℕ → ℕ
width_at i = get_or widths i 0

abbrev pub most_at : ℕ → ℕ
most_at i = get_or mosts i 0

-- the bytes of n cells from the i-th on
unfoldable pub cells_long : ℕ → ℕ → ℕ
cells_long i zero = 0
cells_long i (suc n) = cells_long i n + width_at (i + n)

-- ---- sections, with n other words, k presses and e sound events

-- the timers' starts, and what is pending
abbrev pub starts_at : ℕ
starts_at = 4

abbrev pub pending_at : ℕ
pending_at = 52

-- the number of other words; the own words; the others
abbrev pub words_at : ℕ
words_at = 58

abbrev pub slots_at : ℕ
slots_at = 62

abbrev pub others_at : ℕ
others_at = 366

abbrev pub flags_at : ℕ → ℕ
flags_at n = 366 + 8 * n

abbrev pub panel_at : ℕ → ℕ
panel_at n = flags_at n + 6

abbrev pub clocks_at : ℕ → ℕ
clocks_at n = flags_at n + 55

abbrev pub sound_at : ℕ → ℕ
sound_at n = flags_at n + 387

abbrev pub flash_at : ℕ → ℕ
flash_at n = flags_at n + 407

abbrev pub keys_at : ℕ → ℕ
keys_at n = flags_at n + 687

abbrev pub presses_at : ℕ → ℕ
presses_at n = flags_at n + 719

abbrev pub events_at : ℕ → ℕ → ℕ
events_at n k = presses_at n + 4 + 9 * k

abbrev pub ram_at : ℕ → ℕ → ℕ → ℕ
ram_at n k e = events_at n k + 4 + 24 * e

abbrev pub sram_at : ℕ → ℕ → ℕ → ℕ
sram_at n k e = ram_at n k e + 4 + RAM_SIZE

abbrev pub gpio_at : ℕ → ℕ → ℕ → ℕ
gpio_at n k e = sram_at n k e + 4 + SRAM_SIZE

abbrev pub fb_at : ℕ → ℕ → ℕ → ℕ
fb_at n k e = gpio_at n k e + 4 + GPIO_SIZE

-- all of it
abbrev pub size_of : ℕ → ℕ → ℕ → ℕ
size_of n k e = fb_at n k e + 4 + FRAMEBUFFER_SIZE
