-- What a write on the bus does: slow_write and mmio_write.
use Rattle.std.specs.Prelude.{ℕ, ◌-◌, ◌%◌, Bool, false, cond}
use Rattle.map.specs.Numbers.{STRAY_WRITE, BAD_SIZE}
use Rattle.registers.specs.declared.Registers.{Registers}
use Rattle.registers.specs.declared.Port.{Port}
use Rattle.registers.specs.declared.Port.TheVariants.{Select, Send, LcdControl, RtcCommand, Acts, Shows, Holds, Other}
use Rattle.registers.specs.Ports.{port_of}
use Rattle.registers.specs.Words.{Outcome, word_at, put_word}
use Rattle.memory.specs.declared.Place.{Place}
use Rattle.memory.specs.declared.Place.TheVariants.{Ram, Sram, Gpio, Register, Stray}
use Rattle.memory.specs.Places.{place_of}
use Rattle.memory.specs.Bytes.{stored_at}
use Rattle.memory.specs.Access.{good_size, merged_of, written_of}
use Rattle.panel.specs.Entries.{screen}
use Rattle.clock.specs.Rtc.{rtc_of}
use Rattle.timer.specs.declared.Queue.{Queue}
use Rattle.timer.specs.Events.{full_of}
use Rattle.state.specs.declared.Devices.{Devices}
use Rattle.state.specs.Parts.{with_flash, with_panel, with_latch}
use Rattle.time.specs.Clocks.{clock_in}
use Rattle.bus.specs.World.{World, Out, out, out_done, Wrote, OwnOut, answer}
use Rattle.bus.specs.World.{with_registers, with_slots, with_rtc, with_page, with_ram, with_sram, with_gpio, with_fb}
use Rattle.bus.specs.World.{with_devices}
use Rattle.bus.specs.Chip.{Flashed, select_written, send_written}
use Rattle.bus.specs.Rtc.{RtcDone, command_written}
use Rattle.bus.specs.Screen.{Copied, controlled}
use Rattle.bus.specs.Sounds.{noted}
use Rattle.bus.specs.Words.{word_written}

-- a word that only is stored
pub record Stored : Type 0 where
  pub registers : Registers
  pub wrote : Wrote

abbrev pub stored : Registers → Wrote → Stored
stored r w = record { registers = r; wrote = w }

abbrev pub stored_outcome : Outcome → Devices → Stored
stored_outcome o d = stored o.registers (answer o.refusal d)

unfoldable pub stored_word : Registers → Devices → ℕ → ℕ → Stored
stored_word r d word new = stored_outcome (put_word r word new) d

-- ---- an outcome in the world

abbrev pub by_flash : World → Flashed → Out
by_flash w x =
    out_done (with_devices (with_ram (with_page (with_slots w x.slots) x.left.page) x.left.ram)
    (with_flash w.devices x.left.chip))

abbrev pub by_panel : World → Copied → Out
by_panel w x = out_done (with_devices (with_fb (with_slots w x.slots) x.screen.fb)
    (with_panel w.devices x.screen.panel))

abbrev pub by_rtc : World → RtcDone → Out
by_rtc w x = out_done (with_devices (with_rtc (with_slots w x.slots) x.chip.regs)
    (with_latch w.devices x.chip.latch))

abbrev pub by_word : World → OwnOut → Out
by_word w x = out (with_devices (with_slots w x.slots) x.wrote.devices) x.wrote.refusal x.wrote.event

abbrev pub by_store : World → Stored → Out
by_store w x = out (with_devices (with_registers w x.registers) x.wrote.devices) x.wrote.refusal
    x.wrote.event

-- ---- a register

-- what a write does, by the word's port
abbrev pub written_at : Port → World → Bool → ℕ → ℕ → ℕ → ℕ → Out
written_at Select w full word old new part = by_flash w (select_written w.registers.slots w.devices.flash w.page
    w.ram new)
written_at Send w full word old new part = by_flash w (send_written w.registers.slots w.devices.flash w.page
    w.ram new)
written_at LcdControl w full word old new part =
    by_panel w (controlled w.registers w.ram w.sram w.gpio (screen w.devices.panel w.fb) new)
written_at RtcCommand w full word old new part =
    by_rtc w (command_written w.registers.slots (rtc_of w.rtc w.devices.latch) w.devices.clocks.times.game
    new)
written_at (Acts e) w full word old new part =
    by_word w (word_written e w.registers.slots w.devices (clock_in w.sram) full word old new part)
written_at (Shows v) w full word old new part = by_store w (stored_word w.registers w.devices word new)
written_at Holds w full word old new part = by_store w (stored_word w.registers w.devices word new)
written_at Other w full word old new part = by_store w (stored_word w.registers w.devices word new)

unfoldable pub port_written : World → Bool → ℕ → ℕ → ℕ → ℕ → Out
port_written w full word old new part = written_at (port_of word) w full word old new part

-- the word that an address lies in
abbrev pub word_address : ℕ → ℕ
word_address a = a - a % 4

unfoldable pub reg_written : World → Bool → ℕ → ℕ → ℕ → Out
reg_written w full a n v =
    port_written w full (word_address a) (word_at w.registers (word_address a))
    (merged_of (word_at w.registers (word_address a)) a n v) (written_of a n v)

-- ---- any address

abbrev pub write_at : Place → World → Bool → ℕ → ℕ → ℕ → Out
write_at (Ram o) w full a n v = out_done (with_ram w (stored_at w.ram o n v))
write_at (Sram o) w full a n v = out_done (with_sram w (stored_at w.sram o n v))
write_at (Gpio o) w full a n v = out_done (with_gpio w (stored_at w.gpio o n v))
write_at Register w full a n v = reg_written w full a n v
write_at Stray w full a n v = out w STRAY_WRITE false

unfoldable pub write_of : World → Bool → ℕ → ℕ → ℕ → Out
write_of w full a n v = cond (good_size n) (write_at (place_of a) w full a n v) (out w BAD_SIZE false)

-- ---- with the sound queue: an event that finds 256 waiting refuses the write, any other is put in

pub record Noted : Type 0 where
  pub out : Out
  pub queue : Queue

abbrev pub together : Out → Queue → Noted
together o q = record { out = o; queue = q }

abbrev pub notes : Queue → Out → Noted
notes q o = together o (noted q o.world.devices o.event)

unfoldable pub noted_write : World → Queue → ℕ → ℕ → ℕ → Noted
noted_write w q a n v = notes q (write_of w (full_of q.ring) a n v)
