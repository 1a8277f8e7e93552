-- 01, Scripts: little-endian, a u32 count of presses, each key u8 and f64 time; a u32 count of steps, each kind u8,
-- size u8, two unused bytes, address u32, value u64.
use Rattle.std.specs.Prelude.{ℕ, zero, suc, ◌+◌, ◌-◌, ◌*◌, ◌^◌, Bool, true, not, cond, ◌&&◌, ◌||◌, List, [], ◌∷◌}
use Rattle.std.specs.Prelude.{length, eqb, ltb}
use Rattle.map.specs.Numbers.{MOST_PRESSES, MOST_STEPS, PRESS_BYTES, STEP_BYTES}
use Rattle.memory.specs.Bytes.{loaded}
use Rattle.entries.specs.declared.Entry.{Entry}
use Rattle.entries.specs.Turn.{kind_in}

-- ---- the paper's numbers

abbrev pub press_bytes : ℕ
press_bytes = PRESS_BYTES

abbrev pub step_bytes : ℕ
step_bytes = STEP_BYTES

-- the greatest counts
abbrev pub most_presses : ℕ
most_presses = MOST_PRESSES

abbrev pub most_steps : ℕ
most_steps = MOST_STEPS

-- ---- the counts

abbrev pub presses_in : List ℕ → ℕ
presses_in s = loaded s 0 4

-- behind p presses
abbrev pub steps_in : List ℕ → ℕ → ℕ
steps_in s p = loaded s (4 + press_bytes * p) 4

-- how many there are of both
abbrev pub entries_in : List ℕ → ℕ
entries_in s = presses_in s + steps_in s (presses_in s)

-- ---- 10 BadScript: a count above 4,096, a length other than 8 + 9p + 16s, or a kind outside 1 to 12

-- the kinds of n steps, the first at a place
unfoldable pub kinds_from : List ℕ → ℕ → ℕ → Bool
kinds_from s at zero = true
kinds_from s at (suc n) = kind_in (loaded s at 1) && kinds_from s (at + step_bytes) n

-- where the steps begin
abbrev pub behind_presses : ℕ → ℕ
behind_presses p = 8 + press_bytes * p

abbrev pub bad_with : List ℕ → ℕ → ℕ → Bool
bad_with s p n =
    ltb most_presses p
    || (ltb most_steps n || not (eqb (length s) (behind_presses p + step_bytes * n) && kinds_from s
    (behind_presses p) n))

unfoldable pub bad_script : List ℕ → Bool
bad_script s = bad_with s (presses_in s) (steps_in s (presses_in s))

-- ---- presses and steps

-- eight bytes
unfoldable pub wide : List ℕ → ℕ → ℕ
wide s at = loaded s at 4 + loaded s (at + 4) 4 * 2 ^ 32

abbrev pub entry : ℕ → ℕ → ℕ → ℕ → Entry
entry k n a v = record { kind = k; size = n; address = a; value = v }

-- a press has kind 0: its key is the address, the bits of its time the value
unfoldable pub press_from : List ℕ → ℕ → Entry
press_from s at = entry 0 0 (loaded s at 1) (wide s (at + 1))

abbrev pub press_at : List ℕ → ℕ → Entry
press_at s i = press_from s (4 + press_bytes * i)

unfoldable pub step_from : List ℕ → ℕ → Entry
step_from s at = entry (loaded s at 1) (loaded s (at + 1) 1) (loaded s (at + 4) 4) (wide s (at + 8))

abbrev pub step_at : List ℕ → ℕ → ℕ → Entry
step_at s p i = step_from s (behind_presses p + step_bytes * i)

-- presses first
unfoldable pub entry_at : List ℕ → ℕ → ℕ → Entry
entry_at s p i = cond (ltb i p) (press_at s i) (step_at s p (i - p))

-- n entries from entry i on
unfoldable pub entries_from : List ℕ → ℕ → ℕ → ℕ → List Entry
entries_from s p zero i = []
entries_from s p (suc n) i = entry_at s p i ∷ entries_from s p n (i + 1)

abbrev pub entries_of : List ℕ → List Entry
entries_of s = entries_from s (presses_in s) (entries_in s) 0
