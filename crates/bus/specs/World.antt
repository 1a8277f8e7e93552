-- All that a step on the bus can change but the sound queue and the keys, and what it answers.
use Rattle.std.specs.Prelude.{ℕ, Bool, false, List}
use Rattle.map.specs.Numbers.{DONE}
use Rattle.registers.specs.declared.Registers.{Registers}
use Rattle.registers.specs.Words.{registers_of}
use Rattle.state.specs.declared.Devices.{Devices}

-- registers; the RTC's registers; the page's running AND; the four lent memories; what the devices hold beside
pub record World : Type 0 where
  pub registers : Registers
  pub rtc : List ℕ
  pub page : List ℕ
  pub ram : List ℕ
  pub sram : List ℕ
  pub gpio : List ℕ
  pub fb : List ℕ
  pub devices : Devices

abbrev pub world : Registers → List ℕ → List ℕ → List ℕ → List ℕ → List ℕ → List ℕ → Devices → World
world r rtc page ram sram gpio fb d =
    record { registers = r; rtc = rtc; page = page; ram = ram; sram = sram; gpio = gpio; fb = fb; devices = d }

-- ---- the world with a part replaced

abbrev pub with_registers : World → Registers → World
with_registers w r = world r w.rtc w.page w.ram w.sram w.gpio w.fb w.devices

-- of the registers those with storage of their own
abbrev pub with_slots : World → List ℕ → World
with_slots w slots = with_registers w (registers_of slots w.registers.addresses w.registers.values)

abbrev pub with_rtc : World → List ℕ → World
with_rtc w rtc = world w.registers rtc w.page w.ram w.sram w.gpio w.fb w.devices

abbrev pub with_page : World → List ℕ → World
with_page w page = world w.registers w.rtc page w.ram w.sram w.gpio w.fb w.devices

abbrev pub with_ram : World → List ℕ → World
with_ram w ram = world w.registers w.rtc w.page ram w.sram w.gpio w.fb w.devices

abbrev pub with_sram : World → List ℕ → World
with_sram w sram = world w.registers w.rtc w.page w.ram sram w.gpio w.fb w.devices

abbrev pub with_gpio : World → List ℕ → World
with_gpio w gpio = world w.registers w.rtc w.page w.ram w.sram gpio w.fb w.devices

abbrev pub with_fb : World → List ℕ → World
with_fb w fb = world w.registers w.rtc w.page w.ram w.sram w.gpio fb w.devices

abbrev pub with_devices : World → Devices → World
with_devices w d = world w.registers w.rtc w.page w.ram w.sram w.gpio w.fb d

-- ---- what a write answers

-- event: the tone changed, at the time that the devices have
pub record Out : Type 0 where
  pub world : World
  pub refusal : ℕ
  pub event : Bool

abbrev pub out : World → ℕ → Bool → Out
out w n e = record { world = w; refusal = n; event = e }

abbrev pub out_done : World → Out
out_done w = out w DONE false

-- ---- what a write leaves that reaches no memory and no array but the words with storage of their own

-- the answer, and the devices
pub record Wrote : Type 0 where
  pub refusal : ℕ
  pub event : Bool
  pub devices : Devices

pub record OwnOut : Type 0 where
  pub slots : List ℕ
  pub wrote : Wrote

abbrev pub own_out : List ℕ → Wrote → OwnOut
own_out slots w = record { slots = slots; wrote = w }

-- an answer without an event
abbrev pub answer : ℕ → Devices → Wrote
answer n d = record { refusal = n; event = false; devices = d }

abbrev pub own_done : List ℕ → Devices → OwnOut
own_done o d = own_out o (answer DONE d)
