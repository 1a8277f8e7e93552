-- What the bytes of a session hold.
use Rattle.std.specs.Prelude.{ℕ, ◌≡◌, List}
use Rattle.system.specs.System.{Machine}
use Rattle.system.specs.Limits.{WithinLimits}
use Rattle.session.specs.Session.{bytes_in}
use Rattle.keeping.specs.Typed.{Typed, UnitLengths}

-- they are those of a machine within the limits, over a unit's memories
pub record Holds (s : List ℕ) : Type 0 where
  pub machine : Machine
  pub limits : WithinLimits machine
  pub typed : Typed machine
  pub lengths : UnitLengths machine
  pub bytes : bytes_in machine ≡ s
