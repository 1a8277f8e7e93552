-- The same machine but for the timers' period counts and for the places that entries stand in, of which a press that
-- has expired has none: what a saved session says, and what a save and a resume at once leave.
use Rattle.std.specs.Prelude.{ℕ, ◌<◌, ◌≡◌, List, Float, get_or}
use Rattle.std.specs.Float.{nan}
use Rattle.map.specs.Numbers.{TIMER_COUNT}
use Rattle.timer.specs.declared.Timer.{Timer}
use Rattle.timer.specs.Events.{waiting}
use Rattle.timer.specs.Straight.{straightened}
use Rattle.keys.specs.Script.{places_of}
use Rattle.keys.specs.Closed.{waiting_of, closed_up}
use Rattle.time.specs.Clocks.{clock_in}
use Rattle.time.specs.Resync.{clocks_resynced}
use Rattle.state.specs.Parts as part
use Rattle.system.specs.declared.System.{System}
use Rattle.system.specs.System.{Machine, machine, system_of, presses, buttons_in}

-- by the system clock's word
unfoldable pub system_normal : System → ℕ → System
system_normal s clock =
    let b = closed_up (buttons_in s) s.devices.clocks.times.now in
    system_of s.registers s.rtc s.page
    (part.with_clocks s.devices (clocks_resynced s.registers.slots s.devices.clocks clock))
    (straightened s.queue) (presses b.starts b.codes) b.keys

unfoldable pub normal : Machine → Machine
normal m = machine (system_normal m.system (clock_in m.sram)) m.ram m.sram m.gpio m.fb

-- ---- what stays as it was

-- timer i
abbrev pub timer_in : Machine → ℕ → Timer
timer_in m i = get_or m.system.devices.clocks.timers i part.none

-- what a list has of the presses that wait, in order
abbrev pub of_waiting : {A : Type 0} → List A → A → System → List A
of_waiting l d s = waiting_of l d s.presses.starts s.devices.clocks.times.now 0 (places_of s.keys.count)

abbrev pub press_times : System → List Float
press_times s = of_waiting s.presses.starts nan s

abbrev pub press_keys : System → List ℕ
press_keys s = of_waiting s.presses.codes 0 s

-- n is m but for period counts, for the places of events and presses, and for presses that have expired
pub record CarriedOn (m n : Machine) : Type 0 where
  pub registers : n.system.registers ≡ m.system.registers
  pub rtc : n.system.rtc ≡ m.system.rtc
  pub page : n.system.page ≡ m.system.page
  pub flash : n.system.devices.flash ≡ m.system.devices.flash
  pub panel : n.system.devices.panel ≡ m.system.devices.panel
  pub latch : n.system.devices.latch ≡ m.system.devices.latch
  pub tone : n.system.devices.tone ≡ m.system.devices.tone
  pub off : n.system.devices.off ≡ m.system.devices.off
  pub times : n.system.devices.clocks.times ≡ m.system.devices.clocks.times
  pub irq : n.system.devices.clocks.irq ≡ m.system.devices.clocks.irq
  pub vsync : n.system.devices.clocks.vsync ≡ m.system.devices.clocks.vsync
  pub converting : n.system.devices.clocks.converting ≡ m.system.devices.clocks.converting
  pub started : (i : ℕ) → i < TIMER_COUNT → (timer_in n i).start ≡ (timer_in m i).start
  pub pending : (i : ℕ) → i < TIMER_COUNT → (timer_in n i).pending ≡ (timer_in m i).pending
  pub events : waiting n.system.queue ≡ waiting m.system.queue
  pub press_times : press_times n.system ≡ press_times m.system
  pub press_keys : press_keys n.system ≡ press_keys m.system
  pub live : n.system.keys.live ≡ m.system.keys.live
  pub holds : n.system.keys.holds ≡ m.system.keys.holds
  pub applied : n.system.keys.applied ≡ m.system.keys.applied
  pub ram : n.ram ≡ m.ram
  pub sram : n.sram ≡ m.sram
  pub gpio : n.gpio ≡ m.gpio
  pub fb : n.fb ≡ m.fb
