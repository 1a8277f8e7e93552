-- What the bytes of a session say, wherever it is good.
use Rattle.std.specs.Prelude.{ℕ, zero, suc, ◌+◌, ◌-◌, ◌*◌, cond, List, ltb, Float, set, replicate}
use Rattle.std.specs.Float.{binary64}
use Rattle.std.specs.Float.Ieee.{of_bits}
use Rattle.whole.specs.Forms.{nought}
use Rattle.whole.specs.Rows.{tabled}
use Rattle.session.specs.Fields.{number}
use Rattle.session.specs.Layout.{width_at, cells_long, starts_at, pending_at, slots_at, flags_at, panel_at, clocks_at}
use Rattle.session.specs.Layout.{sound_at, flash_at, keys_at}

-- the float of eight bytes
abbrev pub float_at : List ℕ → ℕ → Float
float_at s at = of_bits binary64 (number s at 8)

-- ---- runs of words of the bank: n of them, from the i-th on

unfoldable pub cells_read : List ℕ → ℕ → List ℕ → ℕ → ℕ → List ℕ
cells_read s at l i zero = l
cells_read s at l i (suc n) =
    set (cells_read s at l i n) (i + n) (number s (at + cells_long i n) (width_at (i + n)))

unfoldable pub floats_read : List ℕ → ℕ → List Float → ℕ → ℕ → List Float
floats_read s at f i zero = f
floats_read s at f i (suc n) = set (floats_read s at f i n) (i + n) (float_at s (at + 8 * n))

-- the bank's words, with n other registers; what is not saved is 0
unfoldable pub cells_in : List ℕ → ℕ → List ℕ
cells_in s n =
    let timers = cells_read s pending_at (replicate 51 0) 31 6 in
    let converting = cells_read s (flags_at n + 4) timers 40 1 in
    let off = cells_read s (flags_at n + 5) converting 43 1 in
    let panel = cells_read s (panel_at n + 4) off 11 14 in
    let clocks = cells_read s (clocks_at n + 44) panel 37 3 in
    let rtc = cells_read s (clocks_at n + 64) clocks 41 2 in
    let flash = cells_read s (flash_at n + 4) rtc 1 10 in
    cells_read s (keys_at n + 4) flash 47 4

unfoldable pub floats_in : List ℕ → ℕ → List Float
floats_in s n =
    let timers = floats_read s starts_at (replicate 16 nought) 3 6 in
    let times = floats_read s (clocks_at n + 4) timers 0 3 in
    let set = floats_read s (clocks_at n + 28) times 9 2 in
    let sound = floats_read s (sound_at n + 4) set 11 2 in
    floats_read s (keys_at n + 8) sound 13 3

-- ---- tables

unfoldable pub slots_in : List ℕ → List ℕ
slots_in s = tabled (λ i. number s (slots_at + 4 * i) 4) 76

-- of n rows from a place on the one that stands as far from the end; past the last 0
unfoldable pub place_in : List ℕ → ℕ → ℕ → ℕ → ℕ
place_in s at n i = cond (ltb i n) (number s (at + 8 * (n - 1 - i)) 4) 0

unfoldable pub places_in : List ℕ → ℕ → ℕ → List ℕ
places_in s at n = tabled (λ i. place_in s at n i) 256

-- k presses
unfoldable pub start_in : List ℕ → ℕ → ℕ → ℕ → Float
start_in s at k i = cond (ltb i k) (float_at s (at + 9 * i + 1)) nought

unfoldable pub code_in : List ℕ → ℕ → ℕ → ℕ → ℕ
code_in s at k i = cond (ltb i k) (number s (at + 9 * i) 1) 0

unfoldable pub starts_in : List ℕ → ℕ → ℕ → List Float
starts_in s at k = tabled (λ i. start_in s at k i) 64

unfoldable pub codes_in : List ℕ → ℕ → ℕ → List ℕ
codes_in s at k = tabled (λ i. code_in s at k i) 64

-- one number of each of e sound events
unfoldable pub column_at : List ℕ → ℕ → ℕ → ℕ → Float
column_at s at e i = cond (ltb i e) (float_at s (at + 24 * i)) nought

unfoldable pub column_in : List ℕ → ℕ → ℕ → List Float
column_in s at e = tabled (λ i. column_at s at e i) 256
