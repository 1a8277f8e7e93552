-- What holds of the machine within the limits. Every operation keeps it, refused or not, whatever it is given. It is
-- what a session must say to be resumed, so that none that was saved within the limits is refused.
use Rattle.std.specs.Prelude.{ℕ, ◌%◌, ◌≡◌}
use Rattle.registers.specs.Words.{others_of}
use Rattle.registers.specs.Within.{Tidy, EachOther}
use Rattle.memory.specs.declared.Place.TheVariants.{Register}
use Rattle.memory.specs.Places.{place_of}
use Rattle.flash.specs.declared.Mode.TheVariants.{Rust}
use Rattle.flash.specs.Board.{Board}
use Rattle.reach.specs.Reach.{Reached}
use Rattle.panel.specs.Within.{PanelWithin}
use Rattle.clock.specs.Within.{Latched}
use Rattle.timer.specs.Canonical.{Canonical}
use Rattle.timer.specs.Within.{ToneFinite, EventsWithin}
use Rattle.keys.specs.Within.{Within}
use Rattle.time.specs.Within.{ClocksWithin}
use Rattle.system.specs.System.{Machine, buttons_in}
use Rattle.system.specs.Carried.{board_in}

-- the address of a word among the registers
pub record RegisterWord (a : ℕ) : Type 0 where
  pub register : place_of a ≡ Register
  pub aligned : a % 4 ≡ 0

-- the flash is in the Rust's mode, and selects and bytes can leave its transaction
pub record FlashWithin (b : Board) : Type 0 where
  pub mode : b.chip.mode ≡ Rust
  pub reached : Reached b

pub record WithinLimits (m : Machine) : Type 0 where
  -- the table's words stand in falling order, so that none stands twice, and its free places, which hold zeros, last
  pub registers : Tidy m.system.registers
  -- and each of them lies where a write can put it
  pub others : EachOther RegisterWord (others_of m.system.registers)
  -- time and turbo are accepted ones, game time is at most 2 ^ 31; no timer's start and no set time lies after its
  -- clock; the ticks and syncs that were signalled are the whole parts
  pub clocks : ClocksWithin m.system.devices.clocks
  -- the RTC holds bytes and puts one out, and its base was latched not after game time
  pub rtc : Latched m.system.rtc m.system.devices.latch m.system.devices.clocks.times.game
  -- frequency and duty are finite
  pub tone : ToneFinite m.system.devices.tone
  -- at most 256 events wait, and a free place holds zeros
  pub queue : Canonical m.system.queue
  -- each of them at an accepted time, with a finite tone
  pub events : EventsWithin m.system.queue
  -- every press is one of A, B or C at an accepted time, and every tap's time is an accepted one
  pub keys : Within (buttons_in m.system)
  -- the panel's arguments that have not come are 0
  pub panel : PanelWithin m.system.devices.panel
  -- the page's running AND has 256 bytes, and is one that the transaction's bytes leave
  pub flash : FlashWithin (board_in m)
