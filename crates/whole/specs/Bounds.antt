-- Bounds of floats that are finite with a clear sign. A float `fin false m e` is m * 2 ^ e, and 2 ^ e is up e / down e.
use Rattle.std.specs.Prelude.{ℕ, suc, ◌*◌, ◌<◌, ◌≤◌, true, false, Float}
use Rattle.std.specs.Float.{nan, inf, fin}
use Rattle.std.specs.Float.Ieee.{up, down}

-- finite, with a clear sign
abbrev pub Clear : Float → Type 0
Clear nan = ⊥
Clear (inf s) = ⊥
Clear (fin true m e) = ⊥
Clear (fin false m e) = Unit

-- and at most n
abbrev pub AtMost : Float → ℕ → Type 0
AtMost nan n = ⊥
AtMost (inf s) n = ⊥
AtMost (fin true m e) n = ⊥
AtMost (fin false m e) n = m * up e ≤ n * down e

-- and at least 1 / n
abbrev pub AtLeast : Float → ℕ → Type 0
AtLeast nan n = ⊥
AtLeast (inf s) n = ⊥
AtLeast (fin true m e) n = ⊥
AtLeast (fin false m e) n = down e ≤ m * up e * n

-- n is its whole part: n ≤ x < n + 1
abbrev pub WholePart : Float → ℕ → Type 0
WholePart nan n = ⊥
WholePart (inf s) n = ⊥
WholePart (fin true m e) n = ⊥
WholePart (fin false m e) n = (n * down e ≤ m * up e) × (m * up e < suc n * down e)
