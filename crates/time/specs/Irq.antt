-- Interrupts: irq_lines, pending_irq, irq_wanted.
use Rattle.std.specs.Prelude.{ℕ, ◌-◌, ◌/◌, ◌%◌, ◌^◌, Bool, cond, not, ◌&&◌, List, ◌==◌, slice_index_or}
use Rattle.state.specs.Each.{any_of}
use Rattle.map.specs.Numbers.{TIMER_COUNT, RTC_IRQ_STATUS, RTC_IRQ_ENABLE, ADC_CONTROL, INTC_MASK, INTC_DISABLE}
use Rattle.map.specs.Numbers.{LCD_ENABLE, LCD_STATUS, RTC_IRQ, TIMER_IRQ, LCD_IRQ, ADC_IRQ}
use Rattle.whole.specs.Words.{has, lacks}
use Rattle.registers.specs.Words.{own_at}
use Rattle.timer.specs.declared.Timer.{Timer}
use Rattle.clock.specs.Adc.{line_of}
use Rattle.state.specs.Parts.{none}

abbrev pub pending_at : List Timer → ℕ → Bool
pending_at ts n = (slice_index_or ts n none).pending

-- ---- the four lines

-- the SoC clock's status and enable words
unfoldable pub rtc_line : List ℕ → Bool
rtc_line slots = has (own_at slots RTC_IRQ_STATUS) (own_at slots RTC_IRQ_ENABLE)

-- any of the six
unfoldable pub timer_line : List Timer → Bool
timer_line ts = any_of (λ n. pending_at ts n) 0 TIMER_COUNT

-- the panel's status and enable words
unfoldable pub lcd_line : List ℕ → Bool
lcd_line slots = has (own_at slots LCD_STATUS) (own_at slots LCD_ENABLE)

unfoldable pub adc_line : List ℕ → Bool
adc_line slots = line_of (own_at slots ADC_CONTROL)

-- ---- the first that is raised and not masked

-- n is masked by bit 32 - n
abbrev pub unmasked : ℕ → ℕ → Bool
unmasked mask n = mask / 2 ^ (32 - n) % 2 == 0

abbrev pub first_of : ℕ → Bool → Bool → Bool → Bool → ℕ
first_of mask rtc timer lcd adc =
    cond (rtc && unmasked mask RTC_IRQ) RTC_IRQ (cond (timer && unmasked mask TIMER_IRQ) TIMER_IRQ
    (cond (lcd && unmasked mask LCD_IRQ) LCD_IRQ (cond (adc && unmasked mask ADC_IRQ) ADC_IRQ 0)))

unfoldable pub pending_of : List ℕ → List Timer → ℕ
pending_of slots ts = first_of (own_at slots INTC_MASK) (rtc_line slots) (timer_line ts) (lcd_line slots)
    (adc_line slots)

unfoldable pub wanted_of : List ℕ → List Timer → Bool
wanted_of slots ts = lacks (own_at slots INTC_DISABLE) 1 && not (pending_of slots ts == 0)
