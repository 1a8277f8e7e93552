-- What a read on the bus answers, and what it leaves in the registers: slow_read and mmio_read.
use Rattle.std.specs.Prelude.{ℕ, ◌+◌, ◌*◌, ◌%◌, ◌^◌, cond, List, get_or}
use Rattle.std.specs.Int.Bits.{bit_and}
use Rattle.map.specs.Numbers.{TIMER_BASE, TIMER_STEP, SPI2_STATUS, CLOCK_SWITCH, DONE, BAD_SIZE}
use Rattle.whole.specs.Words.{has}
use Rattle.registers.specs.declared.Registers.{Registers}
use Rattle.registers.specs.declared.Effect.{Effect}
use Rattle.registers.specs.declared.Effect.TheVariants.{TimerControl, DayField, Sound, LcdStatus, Tick, AdcControl}
use Rattle.registers.specs.declared.Effect.TheVariants.{Power, SpiSend}
use Rattle.registers.specs.declared.View.{View}
use Rattle.registers.specs.declared.View.TheVariants.{TimerCounter, SpiAnswer, RtcReady, RtcOut, FlashStatus}
use Rattle.registers.specs.declared.View.TheVariants.{FlashAnswer, ClockStatus, Pending, PendingFiq}
use Rattle.registers.specs.declared.Port.{Port}
use Rattle.registers.specs.declared.Port.TheVariants.{Select, Send, LcdControl, RtcCommand, Acts, Shows, Holds, Other}
use Rattle.registers.specs.Ports.{port_of, timer_of, field_of}
use Rattle.registers.specs.Words.{own_at, own_with, word_at}
use Rattle.memory.specs.declared.Place.{Place}
use Rattle.memory.specs.declared.Place.TheVariants.{Ram, Sram, Gpio, Register, Stray}
use Rattle.memory.specs.Places.{place_of}
use Rattle.memory.specs.Bytes.{loaded}
use Rattle.memory.specs.Access.{good_size, cut_of}
use Rattle.timer.specs.Timers.{control_of, counter_of}
use Rattle.clock.specs.Day as clock
use Rattle.clock.specs.Day.{tod_of}
use Rattle.state.specs.declared.Clocks.{Clocks}
use Rattle.state.specs.declared.Devices.{Devices}
use Rattle.state.specs.Parts.{none}
use Rattle.time.specs.Irq.{pending_of}
use Rattle.time.specs.Clocks.{clock_in}
use Rattle.bus.specs.Answers.{Got}
use Rattle.bus.specs.Write.{word_address}

-- 2 if bit 15 of the clock switch is set, else 1
unfoldable pub status_of : List ℕ → ℕ
status_of slots = cond (has (own_at slots CLOCK_SWITCH) 0x8000) 2 1

unfoldable pub day_read : Clocks → ℕ → ℕ
day_read c field = clock.field_of (tod_of c.irq c.times.game) field % 2 ^ 32

abbrev pub timer_read : Clocks → ℕ → ℕ → ℕ
timer_read c n old = control_of (get_or c.timers n none) old

-- the control word of a timer; its reload word is 8 after it
abbrev pub base_of : ℕ → ℕ
base_of n = TIMER_BASE + n * TIMER_STEP

unfoldable pub counter_read : List ℕ → Clocks → ℕ → ℕ → ℕ → ℕ
counter_read slots c clock n old =
    counter_of (get_or c.timers n none) c.times.now clock (own_at slots (base_of n)) (own_at slots (base_of n + 8)) old

-- ---- what a word reads as, before shifting, and what the words with storage of their own then are

pub record Given : Type 0 where
  pub slots : List ℕ
  pub value : ℕ

abbrev pub given : List ℕ → ℕ → Given
given slots v = record { slots = slots; value = v }

-- of the words that act when they are written, timer control and time of day read otherwise than stored; old: what
-- the word holds
abbrev pub acting_value : Effect → Clocks → ℕ → ℕ → ℕ
acting_value TimerControl c word old = timer_read c (timer_of word) old
acting_value DayField c word old = day_read c (field_of word)
acting_value Sound c word old = old
acting_value LcdStatus c word old = old
acting_value Tick c word old = old
acting_value AdcControl c word old = old
acting_value Power c word old = old
acting_value SpiSend c word old = old

-- what the second SPI answered reads as stored, and its reading clears the low three bits of its status
abbrev pub view_of : View → List ℕ → Devices → ℕ → ℕ → ℕ → Given
view_of TimerCounter slots d clock word old = given slots (counter_read slots d.clocks clock (timer_of word) old)
view_of SpiAnswer slots d clock word old = given
    (own_with slots SPI2_STATUS (bit_and (own_at slots SPI2_STATUS) 0xFFFFFFF8)) old
view_of RtcReady slots d clock word old = given slots 1
view_of RtcOut slots d clock word old = given slots d.latch.out
view_of FlashStatus slots d clock word old = given slots (bit_and old 0xFFFFFFF7)
view_of FlashAnswer slots d clock word old = given slots d.flash.rx
view_of ClockStatus slots d clock word old = given slots (status_of slots)
view_of Pending slots d clock word old = given slots (pending_of slots d.clocks.timers)
view_of PendingFiq slots d clock word old = given slots 0

-- by the word's port
abbrev pub read_by : Port → List ℕ → Devices → ℕ → ℕ → ℕ → Given
read_by Select slots d clock word old = given slots old
read_by Send slots d clock word old = given slots old
read_by LcdControl slots d clock word old = given slots old
read_by RtcCommand slots d clock word old = given slots old
read_by (Acts e) slots d clock word old = given slots (acting_value e d.clocks word old)
read_by (Shows v) slots d clock word old = view_of v slots d clock word old
read_by Holds slots d clock word old = given slots old
read_by Other slots d clock word old = given slots old

unfoldable pub word_read : List ℕ → Devices → ℕ → ℕ → ℕ → Given
word_read slots d clock word old = read_by (port_of word) slots d clock word old

-- the part of a word that an access reaches
abbrev pub cut_given : Given → ℕ → ℕ → Given
cut_given x a n = given x.slots (cut_of x.value a n)

unfoldable pub reg_read : Registers → List ℕ → Devices → ℕ → ℕ → Given
reg_read r sram d a n = cut_given (word_read r.slots d (clock_in sram) (word_address a)
    (word_at r (word_address a))) a n

pub record ReadOut : Type 0 where
  pub slots : List ℕ
  pub got : Got

abbrev pub got : List ℕ → Got → ReadOut
got slots x = record { slots = slots; got = x }

abbrev pub reads : Given → ReadOut
reads x = got x.slots (record { refusal = DONE; value = x.value })

abbrev pub read_at : Place → Registers → List ℕ → List ℕ → List ℕ → Devices → ℕ → ℕ → ReadOut
read_at (Ram o) r ram sram gpio d a n = reads (given r.slots (loaded ram o n))
read_at (Sram o) r ram sram gpio d a n = reads (given r.slots (loaded sram o n))
read_at (Gpio o) r ram sram gpio d a n = reads (given r.slots (loaded gpio o n))
read_at Register r ram sram gpio d a n = reads (reg_read r sram d a n)
read_at Stray r ram sram gpio d a n = reads (given r.slots 0)

unfoldable pub read_of : Registers → List ℕ → List ℕ → List ℕ → Devices → ℕ → ℕ → ReadOut
read_of r ram sram gpio d a n = cond (good_size n) (read_at (place_of a) r ram sram gpio d a n)
    (got r.slots (record { refusal = BAD_SIZE; value = 0 }))
