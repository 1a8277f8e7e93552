-- No operation changes the length of a memory.
use Prim.Native.Nat.{ℕ, ◌+◌, ◌%◌, ◌^◌}
use mathlib.Core.Path.{◌≡◌, refl, sym, ap, ◌∙◌}
use mathlib.Core.Bool.{Bool, true, false, cond}
use mathlib.Core.List.{List, [], ◌∷◌, ◌++◌}
use lib.Bits.{bit_and}
use lib.Dec.{eqb}
use lib.Ieee.{Float}
use lib.ListN.{length, take, drop, length-append, length-replicate, take-append-drop}
use Rattle.std.specs.Prelude.{Err, None, Ok, Some}
use Rattle.map.specs.Numbers.{FLASH_SIZE, LCD_DATA, LCD_DMA}
use Rattle.whole.specs.Words.{has}
use Rattle.whole.proofs.Words.{either}
use Rattle.registers.specs.declared.Registers.{Registers}
use Rattle.registers.specs.Words.{own_at}
use Rattle.memory.specs.declared.Place.{Place}
use Rattle.memory.specs.declared.Place.TheVariants.{Ram, Sram, Gpio, Register, Stray}
use Rattle.memory.specs.Places.{place_of}
use Rattle.memory.proofs.Stored.{store_length}
use Rattle.flash.specs.declared.Chip.{Chip}
use Rattle.flash.specs.Steps.{cs, byte}
use Rattle.flash.specs.Run as flash
use Rattle.flash.proofs.Long.{step_long}
use Rattle.panel.specs.Lcd.{MaybeByte}
use Rattle.panel.specs.declared.Panel.{Panel}
use Rattle.panel.specs.declared.Pen.{Pen}
use Rattle.panel.specs.Lcd.{inked_by, inked, code_of, painted}
use Rattle.panel.specs.Entries.{Screen}
use Rattle.panel.specs.Runs.{screen_after_command}
use Rattle.panel.proofs.Touch.{put_length}
use Rattle.clock.specs.Times.{Moved}
use Rattle.clock.specs.Times.{moved_of}
use Rattle.keys.specs.declared.Held.{Held}
use Rattle.keys.specs.Lines.{Lines, wanted, sync_of}
use Rattle.time.specs.Advance as move
use Rattle.bus.specs.World.{Out}
use Rattle.bus.specs.Chip.{board_of, selected_over, sent_over, select_written, send_written}
use Rattle.block.proofs.Table.{table_long}
use Rattle.block.specs.Block.{Plain, plain, poked_at, poked_of, laid_from, laid_of, block_of}
use Rattle.bus.specs.Screen.{Copied, copied, fed_word, dma_done, act_result, controlled}
use Rattle.bus.specs.Write.{stored_word, word_address, reg_written}
use Rattle.time.specs.Clocks.{clock_in}
use Rattle.bus.proofs.Branches.{by_write, by_port}
use Rattle.system.specs.declared.System.{System}
use Rattle.system.specs.System.{Machine, world_in}
use Rattle.system.specs.Calls.{writing, write_of, advance_of, wiped_of}
use Rattle.system.specs.Steps.{Op, read, write, advance, next_event, pending, turbo, live, hold, press}
use Rattle.system.specs.Steps.{take_event, counters, pixel, wipe}
use Rattle.system.specs.Steps.{peek8, peek32, poke, keys_held, irq_wanted, carry_on, step, with_system, by_poke}
use Rattle.system.specs.Normal.{normal}
use Rattle.system.specs.Lengths.{SameLengths}

-- ---- the flash's part of RAM

part_length : (k : ℕ) (l m : List ℕ) → length l ≡ length (take k m) → length (l ++ drop k m) ≡ length m
part_length k l m e =
    length-append l (drop k m) ∙ ap (λ (n : ℕ). n + length (drop k m)) e ∙ sym (length-append (take k m) (drop k m)) ∙
    ap length (take-append-drop k m)

module _ (c : Chip) (page ram : List ℕ) where
  select_length : (on : Bool) → length (selected_over c page ram on).ram ≡ length ram
  unfolding selected_over
  select_length on = part_length FLASH_SIZE (flash.after_step (board_of c page ram) (cs on)).array ram
      (step_long (board_of c page ram) (cs on))

  send_length : (b : ℕ) → length (sent_over c page ram b).ram ≡ length ram
  unfolding sent_over
  send_length b = part_length FLASH_SIZE (flash.after_step (board_of c page ram) (byte b)).array ram
      (step_long (board_of c page ram) (byte b))

-- ---- the pixels

ink_length : (h : MaybeByte) (fb : List ℕ) (p : Pen) (b : ℕ) → length (inked_by h fb p b) ≡ length fb
ink_length None fb p b = refl
ink_length (Some h) fb p b = put_length fb p.x p.y h b

paint_length : (p : Panel) (fb : List ℕ) (b : ℕ) → length (painted p fb b) ≡ length fb
unfolding painted inked
paint_length p fb b =
    either (λ (l : List ℕ). length l ≡ length fb) (eqb (code_of p.cmd) 0x2C) (inked fb p.pen b) fb
    (ink_length p.pen.half fb p.pen b) refl

fed_length : (t : Screen) (one : Bool) (word : ℕ) → length (fed_word t one word).fb ≡ length t.fb
unfolding fed_word
fed_length t true word = paint_length t.panel t.fb _
fed_length t false word = paint_length _ _ _ ∙ paint_length t.panel t.fb _

module _ (r : Registers) (ram sram gpio : List ℕ) (t : Screen) where
  abbrev SamePixels : Copied → Type 0
  SamePixels x = length x.screen.fb ≡ length t.fb

  dma_length : SamePixels (dma_done r ram sram gpio t)
  unfolding dma_done block_of
  dma_length = either SamePixels (eqb (own_at r.slots LCD_DMA) 0) _ _ refl (table_long _ 0 (length t.fb))

  acted_length : (val : ℕ) → SamePixels (act_result r ram sram gpio t val)
  unfolding act_result
  acted_length val = by (eqb (bit_and val 0xF0) 0x80) (eqb (bit_and val 0xF0) 0xA0) (eqb (bit_and val 0xF0) 0xD0)
    where
      by : (a b c : Bool) → SamePixels (cond a (copied r.slots (screen_after_command t (own_at
          r.slots LCD_DATA % 256)))
          (cond b (copied r.slots (fed_word t (has val 0x2000) (own_at r.slots LCD_DATA)))
          (cond c (dma_done r ram sram gpio t) (copied r.slots t))))
      by true b c = refl
      by false true c = fed_length t (has val 0x2000) (own_at r.slots LCD_DATA)
      by false false true = dma_length
      by false false false = refl

controlled_length : (r : Registers) (ram sram gpio : List ℕ) (t : Screen) (val : ℕ)
    → length (controlled r ram sram gpio t val).screen.fb ≡ length t.fb
unfolding controlled
controlled_length r ram sram gpio t val =
    either (λ (x : Copied). length x.screen.fb ≡ length t.fb) (has val 1) _ _
    (acted_length _ ram sram gpio t val) refl

-- ---- a write

same_memories : (m : Machine) (s : System) → SameLengths (with_system m s) m
same_memories m s = record { ram = refl; sram = refl; gpio = refl; fb = refl }

write_lengths : (m : Machine) (a n v : ℕ) → SameLengths (write_of m a n v).machine m
unfolding write_of reg_written select_written send_written stored_word
write_lengths m a n v =
    by_write Kept (world_in m) _ a n v (λ g. same_memories m _)
    (λ o g e. record { ram = store_length m.ram o n v; sram = refl; gpio = refl; fb = refl })
    (λ o g e. record { ram = refl; sram = store_length m.sram o n v; gpio = refl; fb = refl })
    (λ o g e. record { ram = refl; sram = refl; gpio = store_length m.gpio o n v; fb = refl })
    (λ g e. by_port Kept (world_in m) _ (word_address a) _ _ _
    (λ e. record { ram = select_length _ _ m.ram _; sram = refl; gpio = refl; fb = refl })
    (λ e. record { ram = send_length _ _ m.ram _; sram = refl; gpio = refl; fb = refl })
    (λ e. record {
      ram = refl;
      sram = refl;
      gpio = refl;
      fb = controlled_length m.system.registers m.ram
          m.sram m.gpio _ _;
    })
    (λ e. same_memories m _) (λ x e. same_memories m _) (λ p e s. same_memories m _))
    (λ g e. same_memories m _)
  where
    Kept : Out → Type 0
    Kept x = SameLengths (writing m x).machine m

-- ---- an advance

sync_length : (gpio : List ℕ) (applied : ℕ) (h : Held) → length (sync_of gpio applied h).gpio ≡ length gpio
unfolding sync_of
sync_length gpio applied h =
    either (λ (l : Lines). length l.gpio ≡ length gpio) (eqb (wanted h) applied) _ _ refl
    (store_length gpio 0x20 4 _)

advance_length : (m : Machine) (to : Float) → length (advance_of m.system m.sram m.gpio to).gpio ≡ length
    m.gpio
unfolding advance_of move.advance_of move.by_move move.moved_to
advance_length m to = by (moved_of m.system.devices.clocks.times to)
  where
    by : (x : Moved) → length (move.by_move m.system.registers.slots m.gpio m.system.presses.starts
        m.system.presses.codes
        m.system.devices.clocks m.system.keys (clock_in m.sram) x).gpio ≡ length m.gpio
    by (Ok t) = sync_length m.gpio _ _
    by (Err r) = refl

-- ---- a poke

module _ (m : Machine) where
  abbrev Poked : Plain → Type 0
  Poked p = SameLengths (by_poke m p).machine m

  poked_lengths : (place : Place) (p : Plain) (b : ℕ) → Poked p → Poked (poked_at place p b)
  poked_lengths (Ram o) p b w = record {
    ram = store_length p.ram o 1 b ∙ w.ram;
    sram = w.sram;
    gpio = w.gpio;
    fb = refl;
  }
  poked_lengths (Sram o) p b w = record {
    ram = w.ram;
    sram = store_length p.sram o 1 b ∙ w.sram;
    gpio = w.gpio;
    fb = refl;
  }
  poked_lengths (Gpio o) p b w = record {
    ram = w.ram;
    sram = w.sram;
    gpio = store_length p.gpio o 1 b ∙ w.gpio;
    fb = refl;
  }
  poked_lengths Register p b w = w
  poked_lengths Stray p b w = w

  laid_lengths : (p : Plain) (a i : ℕ) (bytes : List ℕ) → Poked p → Poked (laid_from p a i bytes)
  unfolding laid_from poked_of
  laid_lengths p a i [] w = w
  laid_lengths p a i (b ∷ bytes) w =
      laid_lengths (poked_of p ((a + i) % 2 ^ 32) b) a (i + 1) bytes (poked_lengths (place_of ((a + i) % 2 ^ 32)) p b w)

-- ---- every operation

pub step_lengths : (m : Machine) (o : Op) → SameLengths (step m o).machine m
unfolding step laid_of wiped_of normal
step_lengths m (read a n) = same_memories m _
step_lengths m (write a n v) = write_lengths m a n v
step_lengths m (advance t) = record { ram = refl; sram = refl; gpio = advance_length m t; fb = refl }
step_lengths m next_event = same_memories m _
step_lengths m pending = same_memories m _
step_lengths m (turbo t) = same_memories m _
step_lengths m (live k down) = same_memories m _
step_lengths m (hold k t) = same_memories m _
step_lengths m (press k t) = same_memories m _
step_lengths m take_event = same_memories m _
step_lengths m counters = same_memories m _
step_lengths m (pixel k) = same_memories m _
step_lengths m wipe = record {
  ram = length-replicate (length m.ram) 0;
  sram = length-replicate (length m.sram) 0;
  gpio = length-replicate (length m.gpio) 0;
  fb = length-replicate (length m.fb) 0;
}
step_lengths m (peek8 a) = same_memories m _
step_lengths m (peek32 a) = same_memories m _
step_lengths m (poke a bytes) = laid_lengths m (plain m.ram m.sram m.gpio) a 0 bytes
    (same_memories m m.system)
step_lengths m keys_held = same_memories m _
step_lengths m irq_wanted = same_memories m _
step_lengths m carry_on = same_memories m _
