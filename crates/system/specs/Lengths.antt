-- Machines whose memories have the same lengths. Every operation keeps them.
use Rattle.std.specs.Prelude.{◌≡◌, length}
use Rattle.system.specs.System.{Machine}

pub record SameLengths (m n : Machine) : Type 0 where
  pub ram : length m.ram ≡ length n.ram
  pub sram : length m.sram ≡ length n.sram
  pub gpio : length m.gpio ≡ length n.gpio
  pub fb : length m.fb ≡ length n.fb
