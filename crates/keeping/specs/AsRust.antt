-- Demand 2 of flash, panel and presses from a machine on, as from one that was resumed.
use Rattle.std.specs.Prelude.{◌≡◌, List}
use Rattle.reach.specs.Reach.{FromRust}
use Rattle.panel.specs.Rust.{lcd_after_acts}
use Rattle.panel.specs.Runs as drawing
use Rattle.panel.specs.Runs.{later}
use Rattle.panel.specs.AsRust.{compact, Bytes}
use Rattle.panel.specs.Onward.{lcd_of}
use Rattle.keys.specs.declared.Keys.{Keys}
use Rattle.keys.specs.Rust as pressing
use Rattle.keys.specs.Rust.{after, Onward, SameHeld, SameEdge}
use Rattle.keys.specs.Onward.{sides_of}
use Rattle.system.specs.System.{Machine, buttons_in}
use Rattle.system.specs.Carried.{board_in, screen_in}

-- whatever comes: the states of sys.rs that stand for the flash, the panel and the presses do as these do
pub record AsRust (m : Machine) : Type 0 where
  pub flash : FromRust (board_in m)
  pub panel : (acts : List drawing.Act) → Bytes acts
      → compact (lcd_after_acts (lcd_of m.system.devices.panel m.fb) acts) ≡ later (screen_in m) acts
  pub keys : (acts : List pressing.Act) (k : Keys) → Onward m.system.devices.clocks.times.now acts
      → SameHeld (after (sides_of (buttons_in m.system) m.system.devices.clocks.times.now) acts) k
      × SameEdge (after (sides_of (buttons_in m.system) m.system.devices.clocks.times.now) acts) k
