-- The branches of the definitions, each with the facts that lead to it.
use Prim.Native.Nat.{ℕ, ◌/◌, ◌%◌, ◌<◌}
use mathlib.Core.Path.{◌≡◌, refl, sym, ap, ◌∙◌}
use mathlib.Core.Bool.{Bool, true, false, not, cond}
use mathlib.Core.List.{List}
use mathlib.Core.Logic.{◌≢◌}
use native.Mathlib.Omega.{arith}
use lib.Bits.{bit_and, bit_or}
use lib.ListN.{length, get_or}
use lib.Ieee.{Float}
use borrow.Author.Tests.{eq-eqb, ne_eqb}
use Rattle.map.specs.Numbers.{BAD_SIZE}
use Rattle.map.specs.Numbers.{SPI2_SEND, SPI2_STATUS, SPI2_ANSWER, SPI2_IDLE, RTC_ADDRESS, RTC_DATA, RTC_COMMAND}
use Rattle.map.specs.Numbers.{SPIFC_SELECT, SPIFC_SEND, LCD_CONTROL, LCD_DATA, LCD_STATUS, LCD_DMA}
use Rattle.whole.specs.Words.{has}
use Rattle.whole.proofs.Choice.{of_not}
use Rattle.registers.specs.declared.Registers.{Registers}
use Rattle.registers.specs.Words.{own_at, own_with, word_at}
use Rattle.registers.specs.Ports.{slot_of, slot_word}
use Rattle.registers.proofs.Own.{slot_hit, own_word}
use Rattle.memory.specs.declared.Place.{Place}
use Rattle.memory.specs.declared.Place.TheVariants.{Ram, Sram, Gpio, Register, Stray}
use Rattle.memory.specs.Places.{place_of}
use Rattle.memory.specs.Bytes.{loaded}
use Rattle.memory.specs.Access.{good_size, cut_of}
use Rattle.panel.specs.Entries.{Screen, screen}
use Rattle.panel.specs.Lcd.{frame_counted}
use Rattle.panel.specs.Runs.{byte, screen_after_command, screen_after_input}
use Rattle.clock.specs.declared.Rtc.{Rtc}
use Rattle.clock.specs.Rtc.{commanded_of}
use Rattle.flash.specs.declared.Chip.{Chip}
use Rattle.panel.specs.declared.Panel.{Panel}
use Rattle.state.specs.declared.Devices.{Devices}
use Rattle.time.specs.Clocks.{clock_in}
use Rattle.bus.specs.Chip.{Chipped, flashed, selected_over, sent_over, select_written, send_written}
use Rattle.bus.specs.Rtc.{rtc_done, command_written}
use Rattle.block.specs.Block.{block_of}
use Rattle.bus.specs.Screen.{fed_word, Copied, copied, dma_done, act_result, quieted, controlled}
use Rattle.bus.specs.Words.{spi_sent}
use Rattle.bus.specs.Write.{word_address}
use Rattle.bus.specs.Answers.{Got}
use Rattle.bus.specs.Read.{word_read, Given, given, cut_given, reg_read, got, reads, read_at}
use Rattle.bus.specs.Inner.{other_value, sized_got}
use Rattle.bus.specs.Read.{read_of}
use Rattle.bus.proofs.Values.{other_reads}

-- ---- a word with a device behind it

module _ (slots : List ℕ) {slots₁ : List ℕ} where
  pub select_stored : (f : Chip) (page ram : List ℕ) (new : ℕ) {c : Chipped} {on : Bool}
      → slots₁ ≡ own_with slots SPIFC_SELECT new → on ≡ has new 0x40
      → c ≡ selected_over f page ram on → flashed slots₁ c ≡ select_written slots f page ram new
  unfolding select_written
  select_stored f page ram new e k h = rw (e, h, k)

  pub send_stored : (f : Chip) (page ram : List ℕ) (new : ℕ) {c : Chipped} {b : ℕ}
      → slots₁ ≡ own_with slots SPIFC_SEND new
      → b ≡ new % 256
      → c ≡ sent_over f page ram b → flashed slots₁ c ≡ send_written slots f page ram new
  unfolding send_written
  send_stored f page ram new e k h = rw (e, h, k)

  pub command_done : (r : Rtc) (game : Float) (new : ℕ) {x y : ℕ} {s : Rtc} → slots₁ ≡ own_with slots RTC_COMMAND new
      → x ≡ own_at slots₁ RTC_ADDRESS
      → y ≡ own_at slots₁ RTC_DATA → s ≡ commanded_of r game x y new → rtc_done slots₁ s ≡ command_written slots r
      game new
  unfolding command_written
  command_done r game new e hx hy h = rw (h, hx, hy, e)

pub spi_done : (slots : List ℕ) (new : ℕ) {a b d : List ℕ} {x : ℕ} → a ≡ own_with slots SPI2_SEND new
    → b ≡ own_with a SPI2_ANSWER SPI2_IDLE
    → x ≡ own_at b SPI2_STATUS → d ≡ own_with b SPI2_STATUS (bit_or x 1) → d ≡ spi_sent slots new
unfolding spi_sent
spi_done slots new e f h g = rw (g, h, f, e)

-- ---- the panel

module _ (s : Screen) (one : Bool) (word : ℕ) where
  pub feed_one : {b : ℕ} {t : Screen} → one ≡ true → b ≡ word % 256 → t ≡ screen_after_input s (byte b)
      → t ≡ fed_word s one word
  unfolding fed_word
  feed_one h e k = rw (h, k, e)

  pub feed_two : {a b : ℕ} {t u : Screen} → one ≡ false → a ≡ word / 256 % 256 → t ≡ screen_after_input s (byte a)
      → b ≡ word % 256 → u ≡ screen_after_input t (byte b)
      → u ≡ fed_word s one word
  unfolding fed_word
  feed_two {t = t} h e k e' k' =
      rw h
      (k' ∙ ap (λ (b : ℕ). screen_after_input t (byte b)) e'
      ∙ ap (λ (z : Screen). screen_after_input z (byte (word % 256)))
      (k ∙ ap (λ (a : ℕ). screen_after_input s (byte a)) e))

module _ (r : Registers) (ram sram gpio : List ℕ) (t : Screen) where
  pub dma_none : {a : ℕ} → a ≡ own_at r.slots LCD_DMA → a ≡ 0 → copied r.slots t ≡ dma_done r ram sram gpio t
  unfolding dma_done
  dma_none e h = rw (← e, eq-eqb _ _ h)

  pub dma_done_lem : {a x : ℕ} {slots₁ fb : List ℕ} {p : Panel} → a ≡ own_at r.slots LCD_DMA → a ≢ 0
      → fb ≡ block_of r ram sram gpio a (length t.fb)
      → x ≡ own_at r.slots LCD_STATUS → slots₁ ≡ own_with r.slots LCD_STATUS (bit_or x 0x40)
      → p ≡ frame_counted t.panel
      → copied slots₁ (screen p fb) ≡ dma_done r ram sram gpio t
  unfolding dma_done
  dma_done_lem e h i j k l = rw (← e, ne_eqb _ _ h, k, j, i, l)

  module _ (val : ℕ) {x : ℕ} (e : x ≡ own_at r.slots LCD_DATA) where
    pub act_command : {b : ℕ} {p : Panel} → bit_and val 0xF0 ≡ 0x80 → b ≡ x % 256
        → screen p t.fb ≡ screen_after_command t b → copied r.slots (screen p t.fb)
        ≡ act_result r ram sram gpio t val
    unfolding act_result
    act_command h i j = rw (h, ← e, ← i) (ap (λ (u : Screen). copied r.slots u) j)

    pub act_data : {one : Bool} {u : Screen} → bit_and val 0xF0 ≡ 0xA0 → one ≡ has val 0x2000 → u ≡ fed_word t one x
        → copied r.slots u ≡ act_result r ram sram gpio t val
    unfolding act_result
    act_data h i j = rw (h, ← e, ← i, ← j)

  module _ (val : ℕ) where
    pub act_dma : {c : Copied} → bit_and val 0xF0 ≡ 0xD0 → c ≡ dma_done r ram sram gpio t
        → c ≡ act_result r ram sram gpio t val
    unfolding act_result
    act_dma h i = rw h i

    pub act_none : bit_and val 0xF0 ≢ 0x80 → bit_and val 0xF0 ≢ 0xA0 → bit_and val 0xF0 ≢ 0xD0
        → copied r.slots t ≡ act_result r ram sram gpio t val
    unfolding act_result
    act_none h i j = rw (ne_eqb _ _ h, ne_eqb _ _ i, ne_eqb _ _ j)

    pub control_idle : {slots₁ : List ℕ} → slots₁ ≡ own_with r.slots LCD_CONTROL val → has val 1 ≡ false
        → copied slots₁ t ≡ controlled r ram sram gpio t val
    unfolding controlled
    control_idle e h = rw (h, e)

    pub control_act : {slots₁ slots₂ slots₃ : List ℕ} {u : Screen} → slots₁ ≡ own_with r.slots LCD_CONTROL val
        → has val 1 ≡ true
        → copied slots₂ u ≡ act_result (record { slots = slots₁; addresses = r.addresses; values = r.values })
        ram sram gpio t val
        → slots₃ ≡ own_with slots₂ LCD_CONTROL (bit_and val 0xFFFFFFFE)
        → copied slots₃ u ≡ controlled r ram sram gpio t val
    unfolding controlled
    control_act {slots₁} {slots₂} {slots₃} {u} e h i j =
        rw (h, j)
        (ap (λ (c : Copied). quieted c val) i ∙ ap
        (λ (o : List ℕ). quieted (act_result (record { slots = o; addresses = r.addresses; values = r.values })
        ram sram gpio t val) val) e)

-- ---- reads

module _ (r : Registers) (s : List ℕ) (d : Devices) (a n : ℕ) where
  pub reg_own : {slots₁ : List ℕ} {v x slot : ℕ} → slot ≡ slot_of (word_address a) → slot < 76
      → given slots₁ v ≡ word_read r.slots d (clock_in s) (slot_word slot) (get_or r.slots slot 0)
      → x ≡ cut_of v a n → given slots₁ x ≡ reg_read r s d a n
  unfolding reg_read own_at
  reg_own {slots₁} {v} {slot = slot} e h k l =
      let less : slot_of (word_address a) < 76 = omega arith in
      let w : slot_word slot ≡ word_address a = ap slot_word e ∙ slot_hit (word_address a) less in
      let o : get_or r.slots slot 0 ≡ word_at r (word_address a) = ap (λ (z : ℕ). get_or r.slots z 0) e ∙ sym
      (own_word r (word_address a) less) in
      rw l (ap (λ (z : Given). cut_given z a n) k ∙ rw (w, o))

  pub reg_other : {v x : ℕ} → slot_of (word_address a) ≡ 76 → v ≡ other_value r d.clocks (word_address a)
      → x ≡ cut_of v a n
      → given r.slots x ≡ reg_read r s d a n
  unfolding reg_read
  reg_other e h l = rw (l, h, other_reads r d (clock_in s) (word_address a) e)

-- what is read of a memory, by its size
sized_reads : (slots : List ℕ) (b : Bool) (x y : Got) → got slots (cond b x y) ≡ cond b (got slots x) (got slots y)
sized_reads slots true x y = refl
sized_reads slots false x y = refl

module _ (r : Registers) (ram sram gpio : List ℕ) (d : Devices) (a n : ℕ) {p : Place} (f : p ≡ place_of a) where
  pub read_ram : {o : ℕ} {x : Got} → p ≡ Ram o → x ≡ sized_got n (loaded ram o n)
      → got r.slots x ≡ read_of r ram sram gpio d a n
  unfolding read_of
  read_ram k l = rw (l, ← f, k) (sized_reads r.slots (good_size n) _ _)

  pub read_sram : {o : ℕ} {x : Got} → p ≡ Sram o → x ≡ sized_got n (loaded sram o n)
      → got r.slots x ≡ read_of r ram sram gpio d a n
  unfolding read_of
  read_sram k l = rw (l, ← f, k) (sized_reads r.slots (good_size n) _ _)

  pub read_gpio : {o : ℕ} {x : Got} → p ≡ Gpio o → x ≡ sized_got n (loaded gpio o n)
      → got r.slots x ≡ read_of r ram sram gpio d a n
  unfolding read_of
  read_gpio k l = rw (l, ← f, k) (sized_reads r.slots (good_size n) _ _)

  module _ {good : Bool} (e : good ≡ good_size n) where
    pub read_size : {x : Got} → not good ≡ true → x ≡ record { refusal = BAD_SIZE; value = 0 }
        → got r.slots x ≡ read_of r ram sram gpio d a n
    unfolding read_of
    read_size h k = rw (k, ← e, of_not good true h)

    module _ (h : not good ≡ false) where
      located : read_of r ram sram gpio d a n ≡ read_at p r ram sram gpio d a n
      unfolding read_of
      located = rw (← e, of_not good false h, ← f)

      pub read_register : {slots₁ : List ℕ} {x : ℕ} → p ≡ Register → given slots₁ x ≡ reg_read r sram d a n
          → reads (given slots₁ x) ≡ read_of r ram sram gpio d a n
      read_register k l = rw (located, k) (ap reads l)

      pub read_stray : p ≡ Stray → reads (given r.slots 0) ≡ read_of r ram sram gpio d a n
      read_stray k = rw (located, k)
