-- The ADC, as document 000 has it: adc_write_ctrl, adc_advance, adc_irq_line.
use Rattle.std.specs.Prelude.{ℕ, Bool, false, cond, ◌&&◌, ◌||◌, ◌==◌, bit_and, bit_or}
use Rattle.map.specs.Numbers.{ADC_BATTERY}
use Rattle.whole.specs.Words.{has, lacks}
use Rattle.clock.specs.declared.Adc.{Adc}

abbrev pub fresh_adc : Adc
fresh_adc = record { converting = false; control = 0; result = 0 }

-- `new & !0x80B0`; a bit 15 that was set and is not written keeps bits 15 and 7
unfoldable pub stored_of : ℕ → ℕ → ℕ
stored_of new old =
    cond (has old 0x8000 && lacks new 0x8000) (bit_or (bit_and new 0xFFFF_7F4F) (bit_and old 0x8080))
    (bit_and new 0xFFFF_7F4F)

-- a bit 14 that was clear and is set starts a conversion
abbrev pub written_of : Adc → ℕ → Adc
written_of adc new = record {
  converting = adc.converting || (has new 0x4000 && lacks adc.control 0x4000);
  control = stored_of new adc.control;
  result = adc.result;
}

-- its result is the battery's
unfoldable pub converted_of : Adc → Adc
converted_of adc = cond adc.converting
    (record { converting = false; control = bit_or adc.control 0x8080; result = ADC_BATTERY }) adc

abbrev pub line_of : ℕ → Bool
line_of control = bit_and control 0x8040 == 0x8040
