-- Scripted presses: 64 places, of which those below the count hold presses. A press is held for 0.15 seconds, KEY_HOLD.
use Rattle.std.specs.Prelude.{ℕ, zero, suc, ◌+◌, Bool, cond, List, ltb, leb, get_or, set, Float}
use Rattle.std.specs.Float.{nan, binary64}
use Rattle.std.specs.Float.Ieee.{of_bits, add, lt}
use Rattle.map.specs.Numbers.{BAD_KEY, BAD_TIME, DONE, KEYS_FULL}
use Rattle.whole.specs.Limits.{good_time}

-- t + KEY_HOLD
abbrev pub end_of : Float → Float
end_of t = add binary64 t (of_bits binary64 0x3FC3_3333_3333_3333)

-- time + 0.15 > now; a press that does not wait has expired
abbrev pub waits : Float → Float → Bool
waits t now = lt now (end_of t)

-- the places that hold presses: a count above 64 counts as 64
abbrev pub places_of : ℕ → ℕ
places_of count = cond (ltb count 64) count 64

-- how many of the first n presses wait
unfoldable pub waiting_in : List Float → Float → ℕ → ℕ
waiting_in starts now zero = 0
waiting_in starts now (suc n) = cond (waits (get_or starts n nan) now) (waiting_in starts now n + 1)
    (waiting_in starts now n)

-- of n places from the i-th on, the first whose press has expired; past them if there is none
unfoldable pub free_from : ℕ → ℕ → List Float → Float → ℕ
free_from zero i starts now = i
free_from (suc n) i starts now = cond (waits (get_or starts i nan) now) (free_from n (i + 1) starts now) i

unfoldable pub free_of : List Float → ℕ → Float → ℕ
free_of starts count now = free_from (places_of count) 0 starts now

-- the count once a place holds a press
unfoldable pub counted_of : ℕ → ℕ → ℕ
counted_of place count = cond (ltb place (places_of count)) (places_of count) (place + 1)

-- ---- a press

pub record Script : Type 0 where
  pub starts : List Float
  pub codes : List ℕ
  pub count : ℕ

abbrev pub script : List Float → List ℕ → ℕ → Script
script starts codes count = record { starts = starts; codes = codes; count = count }

pub record Outcome : Type 0 where
  pub refusal : ℕ
  pub script : Script

abbrev pub outcome : ℕ → Script → Outcome
outcome n s = record { refusal = n; script = s }

-- a press at a place
unfoldable pub placed : Script → ℕ → ℕ → Float → Script
placed s place code at = script (set s.starts place at) (set s.codes place code) (counted_of place s.count)

-- at the first place that has expired, or after the last
unfoldable pub put_of : Script → ℕ → Float → Float → Outcome
put_of s code at now =
    cond (ltb (free_of s.starts s.count now) 64)
    (outcome DONE (placed s (free_of s.starts s.count now) code at)) (outcome KEYS_FULL s)

-- key not 0, 1 or 2; then a time that is not good; then no place
unfoldable pub press_of : Script → ℕ → Float → Float → Outcome
press_of s key at now = cond (leb key 2) (cond (good_time at) (put_of s key at now) (outcome BAD_TIME s))
    (outcome BAD_KEY s)
