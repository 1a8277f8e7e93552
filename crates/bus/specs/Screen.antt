-- The panel's control word: lcd_write_ctrl and lcd_dma.
use Rattle.std.specs.Prelude.{ℕ, ◌/◌, ◌%◌, Bool, cond, List, length, eqb}
use Rattle.std.specs.Int.Bits.{bit_and, bit_or}
use Rattle.map.specs.Numbers.{LCD_CONTROL, LCD_DATA, LCD_STATUS, LCD_DMA}
use Rattle.whole.specs.Words.{has}
use Rattle.registers.specs.declared.Registers.{Registers}
use Rattle.registers.specs.Words.{own_at, own_with, registers_of}
use Rattle.panel.specs.Entries.{Screen}
use Rattle.panel.specs.Runs.{byte, copy, screen_after_command, screen_after_input}
use Rattle.block.specs.Block.{block_of}

-- one data byte or two, the high one first
unfoldable pub fed_word : Screen → Bool → ℕ → Screen
fed_word t one word = cond one (screen_after_input t (byte (word % 256)))
    (screen_after_input (screen_after_input t (byte (word / 256 % 256))) (byte (word % 256)))

pub record Copied : Type 0 where
  pub slots : List ℕ
  pub screen : Screen

abbrev pub copied : List ℕ → Screen → Copied
copied slots t = record { slots = slots; screen = t }

-- the whole framebuffer from the address in LCD-DMA, unless that is 0; it sets bit 6 of LCD-STATUS
unfoldable pub dma_done : Registers → List ℕ → List ℕ → List ℕ → Screen → Copied
dma_done r ram sram gpio t =
    cond (eqb (own_at r.slots LCD_DMA) 0) (copied r.slots t)
    (copied (own_with r.slots LCD_STATUS (bit_or (own_at r.slots LCD_STATUS) 0x40))
    (screen_after_input t (copy (block_of r ram sram gpio (own_at r.slots LCD_DMA) (length t.fb)))))

-- bits 4 to 7: 0x80 a command, 0xA0 data, 0xD0 a DMA
unfoldable pub act_result : Registers → List ℕ → List ℕ → List ℕ → Screen → ℕ → Copied
act_result r ram sram gpio t val =
    cond (eqb (bit_and val 0xF0) 0x80) (copied r.slots (screen_after_command t (own_at r.slots LCD_DATA % 256)))
    (cond (eqb (bit_and val 0xF0) 0xA0) (copied r.slots (fed_word t (has val 0x2000) (own_at r.slots LCD_DATA)))
    (cond (eqb (bit_and val 0xF0) 0xD0) (dma_done r ram sram gpio t) (copied r.slots t)))

-- `val & !1`, once it has acted
abbrev pub quieted : Copied → ℕ → Copied
quieted c val = copied (own_with c.slots LCD_CONTROL (bit_and val 0xFFFFFFFE)) c.screen

-- the registers with the control word stored
abbrev pub with_control : Registers → ℕ → Registers
with_control r val = registers_of (own_with r.slots LCD_CONTROL val) r.addresses r.values

unfoldable pub controlled : Registers → List ℕ → List ℕ → List ℕ → Screen → ℕ → Copied
controlled r ram sram gpio t val =
    cond (has val 1) (quieted (act_result (with_control r val) ram sram gpio t val) val)
    (copied (with_control r val).slots t)
