-- What the types say of a machine that arrays hold, and the lengths of a unit's memories.
use Rattle.std.specs.Prelude.{ℕ, ◌^◌, ◌<◌, ◌≡◌, false, List, T, Float, get_or}
use Rattle.std.specs.Float.{nan, binary64}
use Rattle.std.specs.Float.Ieee.{fits}
use Rattle.runner.specs.Script.{bad_memory}
use Rattle.state.specs.Bank.{parts_in}
use Rattle.state.specs.Packed.{cells_of, floats_of}
use Rattle.system.specs.System.{Machine}
use Rattle.session.specs.Session.{parts_of}

-- every number of a list is below n; what is past its end counts as 0
abbrev pub Below : ℕ → List ℕ → Type 0
Below n l = (i : ℕ) → get_or l i 0 < n

-- every float of a list is an f64
abbrev pub Fits : List Float → Type 0
Fits f = (i : ℕ) → T (fits binary64 (get_or f i nan))

pub record Typed (m : Machine) : Type 0 where
  -- the scalars are those that a bank's words make: each number lies within its width, there are six timers and four
  -- arguments of the panel
  pub scalars : parts_in (cells_of (parts_of m)) (floats_of (parts_of m)) ≡ parts_of m
  pub cells : Below (2 ^ 64) (cells_of (parts_of m))
  pub floats : Fits (floats_of (parts_of m))
  pub slots : Below (2 ^ 32) m.system.registers.slots
  pub addresses : Below (2 ^ 32) m.system.registers.addresses
  pub values : Below (2 ^ 32) m.system.registers.values
  pub onsets : Fits m.system.queue.onsets
  pub frequencies : Fits m.system.queue.frequencies
  pub duties : Fits m.system.queue.duties
  pub starts : Fits m.system.presses.starts

-- the memories are as long as a unit's
abbrev pub UnitLengths : Machine → Type 0
UnitLengths m = bad_memory m.ram m.sram m.gpio m.fb ≡ false
