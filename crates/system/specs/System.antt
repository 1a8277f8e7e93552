-- The whole state beside the four lent memories; the state with a part replaced; and the state after a wipe.
use Rattle.std.specs.Prelude.{ℕ, false, List, Float}
use Rattle.registers.specs.declared.Registers.{Registers}
use Rattle.registers.specs.Words.{registers_of, fresh_registers}
use Rattle.flash.specs.declared.Mode.TheVariants.{Rust}
use Rattle.flash.specs.Flash.{made_in}
use Rattle.panel.specs.Lcd.{fresh_panel}
use Rattle.clock.specs.declared.Times.{Times}
use Rattle.clock.specs.Rtc.{fresh_rtc}
use Rattle.timer.specs.declared.Queue.{Queue}
use Rattle.timer.specs.Sound.{silence}
use Rattle.timer.specs.Events.{empty_queue}
use Rattle.keys.specs.declared.Keys.{Keys}
use Rattle.keys.specs.Keys.{Buttons, buttons, fresh_buttons}
use Rattle.state.specs.declared.Clocks.{Clocks}
use Rattle.time.specs.Clocks.{fresh_clocks}
use Rattle.state.specs.Parts.{times_with, devices_of}
use Rattle.state.specs.declared.Devices.{Devices}
use Rattle.state.specs.Parts as part
use Rattle.bus.specs.World as world
use Rattle.bus.specs.World.{World}
use Rattle.system.specs.declared.Presses.{Presses}
use Rattle.system.specs.declared.System.{System}

pub record Machine : Type 0 where
  pub system : System
  pub ram : List ℕ
  pub sram : List ℕ
  pub gpio : List ℕ
  pub fb : List ℕ

abbrev pub machine : System → List ℕ → List ℕ → List ℕ → List ℕ → Machine
machine s ram sram gpio fb = record { system = s; ram = ram; sram = sram; gpio = gpio; fb = fb }

-- what a write leaves, and 01's number
pub record Left : Type 0 where
  pub machine : Machine
  pub refusal : ℕ

abbrev pub left : Machine → ℕ → Left
left m n = record { machine = m; refusal = n }

-- ---- the state with a part replaced

abbrev pub system_of : Registers → List ℕ → List ℕ → Devices → Queue → Presses → Keys → System
system_of r c p d q x k = record { registers = r; rtc = c; page = p; devices = d; queue = q; presses = x; keys = k }

abbrev pub presses : List Float → List ℕ → Presses
presses t c = record { starts = t; codes = c }

-- the keys, and the presses that wait for them
abbrev pub buttons_in : System → Buttons
buttons_in s = buttons s.presses.starts s.presses.codes s.keys

abbrev pub with_slots : System → List ℕ → System
with_slots s slots =
    system_of (registers_of slots s.registers.addresses s.registers.values) s.rtc s.page s.devices
    s.queue s.presses s.keys

abbrev pub with_clocks : System → Clocks → System
with_clocks s c = system_of s.registers s.rtc s.page (part.with_clocks s.devices c) s.queue s.presses
    s.keys

abbrev pub with_times : System → Times → System
with_times s t = with_clocks s (times_with s.devices.clocks t)

abbrev pub with_keys : System → Keys → System
with_keys s k = system_of s.registers s.rtc s.page s.devices s.queue s.presses k

abbrev pub with_presses : System → Presses → System
with_presses s x = system_of s.registers s.rtc s.page s.devices s.queue x s.keys

abbrev pub with_queue : System → Queue → System
with_queue s q = system_of s.registers s.rtc s.page s.devices q s.presses s.keys

-- ---- the bus's world in it

abbrev pub world_in : Machine → World
world_in m = world.world m.system.registers m.system.rtc m.system.page m.ram m.sram m.gpio m.fb
    m.system.devices

abbrev pub with_world : Machine → World → Queue → Machine
with_world m w q =
    machine (system_of w.registers w.rtc w.page w.devices q m.system.presses m.system.keys)
    w.ram w.sram w.gpio w.fb

-- ---- after a wipe; the flash is in the Rust's mode

unfoldable pub fresh_devices : Devices
fresh_devices = devices_of (made_in Rust).chip fresh_panel fresh_clocks fresh_rtc.latch silence false

unfoldable pub fresh_system : System
fresh_system =
    system_of fresh_registers fresh_rtc.regs (made_in Rust).page fresh_devices empty_queue
    (presses fresh_buttons.starts fresh_buttons.codes) fresh_buttons.keys
