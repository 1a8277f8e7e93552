-- What operations carry to the flash and to the panel, whichever register words brought it there.
use Rattle.std.specs.Prelude.{ℕ, ◌+◌, ◌/◌, ◌%◌, ◌^◌, ◌≤◌, ◌<◌, Bool, cond, ◌&&◌, List, [], ◌∷◌, ◌++◌, length, take, eqb}
use Rattle.std.specs.Int.Bits.{bit_and}
use Rattle.whole.specs.Words.{has}
use Rattle.registers.specs.declared.Registers.{Registers}
use Rattle.map.specs.Numbers.{FLASH_SIZE, LCD_DATA, LCD_DMA}
use Rattle.registers.specs.declared.Port.{Port}
use Rattle.registers.specs.declared.Port.TheVariants.{Select, Send, LcdControl, RtcCommand, Acts, Shows, Holds, Other}
use Rattle.registers.specs.Ports.{port_of}
use Rattle.registers.specs.Words.{own_at, word_at}
use Rattle.memory.specs.declared.Place.{Place}
use Rattle.memory.specs.declared.Place.TheVariants.{Ram, Sram, Gpio, Register, Stray}
use Rattle.memory.specs.Places.{place_of}
use Rattle.memory.specs.Access.{good_size, merged_of}
use Rattle.flash.specs.Board.{Board, board}
use Rattle.flash.specs.Steps as flash
use Rattle.flash.specs.Steps.{Step}
use Rattle.panel.specs.Entries.{Screen, screen}
use Rattle.panel.specs.Runs as panel
use Rattle.panel.specs.Runs.{Act}
use Rattle.block.specs.Block.{block_of}
use Rattle.bus.specs.Screen.{with_control}
use Rattle.bus.specs.Write.{word_address}
use Rattle.system.specs.System.{Machine}
use Rattle.system.specs.Refusals.{is_register}
use Rattle.system.specs.Steps.{
  Op,
  read,
  write,
  advance,
  next_event,
  pending,
  turbo,
  live,
  hold,
  press,
  take_event,
  counters,
  pixel,
  wipe,
  peek8,
  peek32,
  poke,
  keys_held,
  irq_wanted,
  carry_on,
  step,
}

-- the first 8 MiB of RAM
unfoldable pub array_in : List ℕ → List ℕ
array_in ram = take FLASH_SIZE ram

-- the flash's chip, the page's running AND, and its array
abbrev pub board_in : Machine → Board
board_in m = board m.system.devices.flash m.system.page (array_in m.ram)

-- the panel and the framebuffer
abbrev pub screen_in : Machine → Screen
screen_in m = screen m.system.devices.panel m.fb

-- ---- an operation, as flash and panel see it

-- a write at an address, of a size, of a value; bytes laid from an address on; a wipe; or nothing that reaches either
pub data Kind : Type 0 where
  writes : ℕ → ℕ → ℕ → Kind
  lays : ℕ → List ℕ → Kind
  wipes : Kind
  other : Kind

abbrev pub kind_of : Op → Kind
kind_of (read a n) = other
kind_of (write a n v) = writes a n v
kind_of (advance t) = other
kind_of next_event = other
kind_of pending = other
kind_of (turbo t) = other
kind_of (live k down) = other
kind_of (hold k t) = other
kind_of (press k t) = other
kind_of take_event = other
kind_of counters = other
kind_of (pixel k) = other
kind_of wipe = wipes
kind_of (peek8 a) = other
kind_of (peek32 a) = other
kind_of (poke a bytes) = lays a bytes
kind_of keys_held = other
kind_of irq_wanted = other
kind_of carry_on = other

-- ---- a word that is written

-- a write that is not refused for its size, at a register
unfoldable pub lands : ℕ → ℕ → Bool
lands a n = good_size n && is_register (place_of a)

-- what the word becomes
abbrev pub merged_in : Machine → ℕ → ℕ → ℕ → ℕ
merged_in m a n v = merged_of (word_at m.system.registers (word_address a)) a n v

-- what a write to a port carries to the flash: a select or a deselect, by bit 6; or the low byte
abbrev pub flash_at : Port → ℕ → List Step
flash_at Select new = flash.cs (has new 0x40) ∷ []
flash_at Send new = flash.byte (new % 256) ∷ []
flash_at LcdControl new = []
flash_at RtcCommand new = []
flash_at (Acts e) new = []
flash_at (Shows v) new = []
flash_at Holds new = []
flash_at Other new = []

unfoldable pub flash_word : ℕ → ℕ → List Step
flash_word word new = flash_at (port_of word) new

-- one data byte or two, the high one first
unfoldable pub data_sent : Bool → ℕ → List Act
data_sent one w =
    cond one
    (panel.input (panel.byte (w % 256)) ∷ [])
    (panel.input (panel.byte (w / 256 % 256)) ∷ panel.input (panel.byte (w % 256)) ∷ [])

-- as many bytes as the framebuffer has, from the address in LCD-DMA on, unless that is 0
unfoldable pub copy_sent : Registers → List ℕ → List ℕ → List ℕ → ℕ → List Act
copy_sent r ram sram gpio n =
    cond (eqb (own_at r.slots LCD_DMA) 0) []
    (panel.input (panel.copy (block_of r ram sram gpio (own_at r.slots LCD_DMA) n)) ∷ [])

-- bits 4 to 7: 0x80 a command, 0xA0 data, 0xD0 a DMA
unfoldable pub act_sent : Registers → List ℕ → List ℕ → List ℕ → ℕ → ℕ → List Act
act_sent r ram sram gpio n val =
    cond (eqb (bit_and val 0xF0) 0x80) (panel.order (own_at r.slots LCD_DATA % 256) ∷ [])
    (cond (eqb (bit_and val 0xF0) 0xA0) (data_sent (has val 0x2000) (own_at r.slots LCD_DATA))
    (cond (eqb (bit_and val 0xF0) 0xD0) (copy_sent r ram sram gpio n) []))

-- and to the panel: its control word, stored, acts where bit 0 is set
abbrev pub panel_at : Port → Machine → ℕ → List Act
panel_at Select m new = []
panel_at Send m new = []
panel_at LcdControl m new =
    cond (has new 1) (act_sent (with_control m.system.registers new) m.ram m.sram m.gpio (length m.fb)
    new) []
panel_at RtcCommand m new = []
panel_at (Acts e) m new = []
panel_at (Shows v) m new = []
panel_at Holds m new = []
panel_at Other m new = []

unfoldable pub panel_word : Machine → ℕ → ℕ → List Act
panel_word m word new = panel_at (port_of word) m new

-- ---- what one operation carries, and what a run of them carries

abbrev pub flash_by : Machine → Kind → List Step
flash_by m (writes a n v) = cond (lands a n) (flash_word (word_address a) (merged_in m a n v)) []
flash_by m (lays a bytes) = []
flash_by m wipes = []
flash_by m other = []

abbrev pub panel_by : Machine → Kind → List Act
panel_by m (writes a n v) = cond (lands a n) (panel_word m (word_address a) (merged_in m a n v)) []
panel_by m (lays a bytes) = []
panel_by m wipes = []
panel_by m other = []

abbrev pub flash_steps : Machine → Op → List Step
flash_steps m o = flash_by m (kind_of o)

abbrev pub panel_acts : Machine → Op → List Act
panel_acts m o = panel_by m (kind_of o)

-- each read off the machine as it is then
unfoldable pub flash_carried : Machine → List Op → List Step
flash_carried m [] = []
flash_carried m (o ∷ os) = flash_steps m o ++ flash_carried (step m o).machine os

unfoldable pub panel_carried : Machine → List Op → List Act
panel_carried m [] = []
panel_carried m (o ∷ os) = panel_acts m o ++ panel_carried (step m o).machine os

-- ---- what the flash answers in a run

-- its answer, which SPIFC-ANSWER reads, for each byte of these steps
abbrev pub answers_at : List Step → ℕ → List ℕ
answers_at [] answer = []
answers_at (flash.cs on ∷ xs) answer = answers_at xs answer
answers_at (flash.byte b ∷ xs) answer = answer ∷ answers_at xs answer

-- the answer after each operation that carries a byte
unfoldable pub flash_answers : Machine → List Op → List ℕ
flash_answers m [] = []
flash_answers m (o ∷ os) = answers_at (flash_steps m o) (step m o).machine.system.devices.flash.rx ++ flash_answers
    (step m o).machine os

-- ---- operations that leave the flash's array to its chip

-- not in the first 8 MiB of RAM
abbrev pub Past : Place → Type 0
Past (Ram o) = FLASH_SIZE ≤ o
Past (Sram o) = Unit {0}
Past (Gpio o) = Unit {0}
Past Register = Unit {0}
Past Stray = Unit {0}

abbrev pub ApartBy : Kind → Type 0
ApartBy (writes a n v) = Past (place_of a)
ApartBy (lays a bytes) = (i : ℕ) → i < length bytes → Past (place_of ((a + i) % 2 ^ 32))
ApartBy wipes = ⊥
ApartBy other = Unit {0}

abbrev pub Apart : List Op → Type 0
Apart [] = Unit {0}
Apart (o ∷ os) = ApartBy (kind_of o) × Apart os

-- ---- operations without a wipe

abbrev pub UnwipedBy : Kind → Type 0
UnwipedBy (writes a n v) = Unit {0}
UnwipedBy (lays a bytes) = Unit {0}
UnwipedBy wipes = ⊥
UnwipedBy other = Unit {0}

abbrev pub Unwiped : List Op → Type 0
Unwiped [] = Unit {0}
Unwiped (o ∷ os) = UnwipedBy (kind_of o) × Unwiped os
