-- The words that act and reach no memory: those arms of mmio_write.
use Rattle.std.specs.Prelude.{ℕ, Bool, ◌||◌, List}
use Rattle.std.specs.Int.Bits.{bit_and, bit_or, bit_xor}
use Rattle.map.specs.Numbers.{SPI2_SEND, SPI2_STATUS, SPI2_ANSWER, SPI2_IDLE, ADC_CONTROL, ADC_RESULT}
use Rattle.whole.specs.Words.{lacks}
use Rattle.registers.specs.declared.Effect.{Effect}
use Rattle.registers.specs.declared.Effect.TheVariants.{TimerControl, DayField, Sound, LcdStatus, Tick, AdcControl}
use Rattle.registers.specs.declared.Effect.TheVariants.{Power, SpiSend}
use Rattle.registers.specs.Ports.{timer_of, field_of}
use Rattle.registers.specs.Words.{own_at, own_with}
use Rattle.clock.specs.declared.Adc.{Adc}
use Rattle.clock.specs.Adc.{written_of}
use Rattle.clock.specs.Day.{set_of}
use Rattle.state.specs.Parts.{irq_with, converting_with, with_clocks, with_off}
use Rattle.state.specs.declared.Devices.{Devices}
use Rattle.bus.specs.World.{OwnOut, own_done}
use Rattle.bus.specs.Sounds.{sound_written, timer_written}

-- bit 0 clear powers off
abbrev pub powered_by : Devices → ℕ → Devices
powered_by d new = with_off d (d.off || lacks new 1)

abbrev pub idle : List ℕ → List ℕ
idle slots = own_with slots SPI2_STATUS (bit_or (own_at slots SPI2_STATUS) 1)

-- what is sent to the second SPI is answered at once
unfoldable pub spi_sent : List ℕ → ℕ → List ℕ
spi_sent slots new = idle (own_with (own_with slots SPI2_SEND new) SPI2_ANSWER SPI2_IDLE)

abbrev pub adc_set : Devices → Bool → Devices
adc_set d x = with_clocks d (converting_with d.clocks x)

abbrev pub adc_after : Adc → List ℕ → Devices → OwnOut
adc_after x slots d = own_done (own_with slots ADC_CONTROL x.control) (adc_set d x.converting)

unfoldable pub adc_written : List ℕ → Devices → ℕ → ℕ → OwnOut
adc_written slots d old new =
    adc_after (written_of (record { converting = d.clocks.converting; control = old; result = own_at slots ADC_RESULT })
    new) slots d

unfoldable pub day_set : Devices → ℕ → ℕ → Devices
day_set d field new = with_clocks d (irq_with d.clocks (set_of d.clocks.irq d.clocks.times.game field new))

-- What a write to a word that acts leaves. old: what the word holds; new: the merged word; part: the bits that were
-- written. LcdStatus clears the ones of the merged word, Tick those that were written.
abbrev pub word_written : Effect → List ℕ → Devices → ℕ → Bool → ℕ → ℕ → ℕ → ℕ → OwnOut
word_written TimerControl slots d clock full word old new part =
    timer_written slots d clock full (timer_of word) word old new
word_written DayField slots d clock full word old new part = own_done slots (day_set d (field_of word) new)
word_written Sound slots d clock full word old new part = sound_written slots d d clock full word new
word_written LcdStatus slots d clock full word old new part = own_done
    (own_with slots word (bit_and old (bit_xor new 0xFFFFFFFF))) d
word_written Tick slots d clock full word old new part = own_done
    (own_with slots word (bit_and old (bit_xor part 0xFFFFFFFF))) d
word_written AdcControl slots d clock full word old new part = adc_written slots d old new
word_written Power slots d clock full word old new part = own_done (own_with slots word new) (powered_by d new)
word_written SpiSend slots d clock full word old new part = own_done (spi_sent slots new) d
