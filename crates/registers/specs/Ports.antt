-- The register map: the words that are more than stored, and the port behind each. What a write does or is refused,
-- what a read gives, and what is carried to flash and panel goes by the port.
use Rattle.std.specs.Prelude.{ℕ, zero, suc, ◌+◌, ◌-◌, ◌*◌, ◌/◌, ◌%◌, Bool, cond, ◌||◌, List, [], ◌∷◌, ◌++◌, get_or}
use Rattle.std.specs.Prelude.{eqb, ltb}
use Rattle.map.specs.Numbers.{
  TIMER_BASE,
  TIMER_STEP,
  SOUND_TIMER,
  RTC_IRQ_BASE,
  RTC_SECONDS,
  RTC_MINUTES,
  RTC_HOURS,
  RTC_IRQ_STATUS,
  RTC_IRQ_ENABLE,
  SPI2_SEND,
  SPI2_STATUS,
  SPI2_ANSWER,
  RTC_ADDRESS,
  RTC_DATA,
  RTC_COMMAND,
  RTC_READY,
  RTC_OUT,
  ADC_CONTROL,
  ADC_RESULT,
  SPIFC_SELECT,
  SPIFC_STATUS,
  SPIFC_SEND,
  SPIFC_ANSWER,
  CLOCK_SWITCH,
  CLOCK_STATUS,
  POWER_REG,
  INTC_PENDING,
  INTC_PENDING_FIQ,
  INTC_MASK,
  INTC_DISABLE,
  LCD_CONTROL,
  LCD_DATA,
  LCD_ENABLE,
  LCD_STATUS,
  LCD_DMA,
}
use Rattle.registers.specs.declared.Effect.TheVariants.{TimerControl, DayField, Sound, LcdStatus, Tick}
use Rattle.registers.specs.declared.Effect.TheVariants.{AdcControl, Power, SpiSend}
use Rattle.registers.specs.declared.View.TheVariants.{
  TimerCounter,
  SpiAnswer,
  RtcReady,
  RtcOut,
  FlashStatus,
  FlashAnswer,
  ClockStatus,
  Pending,
  PendingFiq,
}
use Rattle.registers.specs.declared.Port.{Port}
use Rattle.registers.specs.declared.Port.TheVariants.{Select, Send, LcdControl, RtcCommand, Acts, Shows, Holds}
use Rattle.registers.specs.declared.Port.TheVariants.{Other}

-- a word, and its port
pub record Row : Type 0 where
  pub word : ℕ
  pub port : Port

abbrev pub row : ℕ → Port → Row
row a p = record { word = a; port = p }

-- the words with storage of their own, besides the timers', in the order of their slots
unfoldable pub named_rows : List Row
named_rows =
    row RTC_IRQ_STATUS (Acts Tick)
    ∷ row RTC_IRQ_ENABLE Holds
    ∷ row SPI2_SEND (Acts SpiSend)
    ∷ row SPI2_STATUS Holds
    ∷ row SPI2_ANSWER (Shows SpiAnswer)
    ∷ row RTC_ADDRESS Holds
    ∷ row RTC_DATA Holds
    ∷ row RTC_COMMAND RtcCommand
    ∷ row RTC_READY (Shows RtcReady)
    ∷ row RTC_OUT (Shows RtcOut)
    ∷ row ADC_CONTROL (Acts AdcControl)
    ∷ row ADC_RESULT Holds
    ∷ row SPIFC_SELECT Select
    ∷ row SPIFC_STATUS (Shows FlashStatus)
    ∷ row SPIFC_SEND Send
    ∷ row SPIFC_ANSWER (Shows FlashAnswer)
    ∷ row CLOCK_SWITCH Holds
    ∷ row CLOCK_STATUS (Shows ClockStatus)
    ∷ row POWER_REG (Acts Power)
    ∷ row INTC_PENDING (Shows Pending)
    ∷ row INTC_PENDING_FIQ (Shows PendingFiq)
    ∷ row INTC_MASK Holds
    ∷ row INTC_DISABLE Holds
    ∷ row LCD_CONTROL LcdControl
    ∷ row LCD_DATA Holds
    ∷ row LCD_ENABLE Holds
    ∷ row LCD_STATUS (Acts LcdStatus)
    ∷ row LCD_DMA Holds
    ∷ []

abbrev pub words_in : List Row → List ℕ
words_in [] = []
words_in (x ∷ xs) = x.word ∷ words_in xs

abbrev pub ports_in : List Row → List Port
ports_in [] = []
ports_in (x ∷ xs) = x.port ∷ ports_in xs

-- ---- slots

-- n words from an address on
unfoldable pub words_from : ℕ → ℕ → List ℕ
words_from zero a = []
words_from (suc n) a = a ∷ words_from n (a + 4)

abbrev pub named_words : List ℕ
named_words = words_in named_rows

-- the 48 timer words from TIMER-BASE, eight to a timer, then the 28 named ones
unfoldable pub own_words : List ℕ
own_words = words_from 48 TIMER_BASE ++ named_words

-- where a key first stands in a list, or the list's length
unfoldable pub index : List ℕ → ℕ → ℕ
index [] k = 0
index (x ∷ xs) k = cond (eqb x k) 0 (suc (index xs k))

-- the slot of a word in its own storage: 0 to 75, or 76 where it has none
unfoldable pub slot_of : ℕ → ℕ
slot_of a = index own_words a

-- and the word of a slot
abbrev pub slot_word : ℕ → ℕ
slot_word s = get_or own_words s 0

-- ---- ports

-- the timers' words by their slots. Of a timer's eight the first is its control, the fifth its counter; the third and
-- the fourth are reload and compare, which the buzzer follows at SOUND-TIMER
abbrev pub timer_port : ℕ → Port
timer_port s =
    cond (eqb (s % 8) 0) (Acts TimerControl)
    (cond (eqb (s % 8) 4) (Shows TimerCounter)
    (cond (eqb s (8 * SOUND_TIMER + 2) || eqb s (8 * SOUND_TIMER + 3)) (Acts Sound) Holds))

unfoldable pub port_at : ℕ → Port
port_at s = cond (ltb s 48) (timer_port s) (get_or (ports_in named_rows) (s - 48) Other)

-- seconds, minutes and hours, which are never stored
unfoldable pub day_word : ℕ → Bool
day_word a = eqb a RTC_SECONDS || eqb a RTC_MINUTES || eqb a RTC_HOURS

-- the port of a word
unfoldable pub port_of : ℕ → Port
port_of a = cond (day_word a) (Acts DayField) (port_at (slot_of a))

-- the timer that a word of the timers' is of
abbrev pub timer_of : ℕ → ℕ
timer_of a = (a - TIMER_BASE) / TIMER_STEP

-- the field that a word of the time of day has: 0 seconds, 1 minutes, 2 hours
abbrev pub field_of : ℕ → ℕ
field_of a = (a - RTC_IRQ_BASE) / 4
