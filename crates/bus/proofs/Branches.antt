-- What holds of every branch of a write holds of the write: each branch with the facts that lead to it.
use Prim.Native.Nat.{ℕ}
use mathlib.Core.Path.{◌≡◌, refl, sym, ap, ◌∙◌}
use mathlib.Core.Bool.{Bool, true, false, cond}
use mathlib.Core.List.{List}
use mathlib.Core.Logic.{◌≢◌}
use lib.ListN.{get_or}
use lib.Bits.{bit_and, bit_xor}
use lib.Dec.{eqb}
use borrow.Author.Tests.{eqb-true, eqb-false}
use Rattle.std.specs.Prelude.{Err, None, Ok, Some}
use Rattle.map.specs.declared.refusals.Refusal.{Refusal}
use Rattle.map.specs.declared.refusals.Refusal.TheVariants.{SoundFull}
use Rattle.map.specs.Numbers.{DONE, SOUND_FULL}
use Rattle.whole.proofs.Choice.{by_cond}
use Rattle.memory.specs.declared.Place.{Place}
use Rattle.memory.specs.declared.Place.TheVariants.{Ram, Sram, Gpio, Register, Stray}
use Rattle.memory.specs.Places.{place_of}
use Rattle.memory.specs.Bytes.{stored_at}
use Rattle.memory.specs.Access.{good_size}
use Rattle.panel.specs.Entries.{screen}
use Rattle.clock.specs.Rtc.{rtc_of}
use Rattle.timer.specs.declared.Tone.{Tone}
use Rattle.timer.specs.declared.Written.{Written}
use Rattle.timer.specs.Sound.{Sounded, sounded_of, differ_of}
use Rattle.timer.specs.Timers.{written_of}
use Rattle.registers.specs.declared.Effect.{Effect}
use Rattle.registers.specs.declared.Effect.TheVariants.{TimerControl, DayField, Sound, LcdStatus, Tick, AdcControl}
use Rattle.registers.specs.declared.Effect.TheVariants.{Power, SpiSend}
use Rattle.registers.specs.declared.View.{View}
use Rattle.registers.specs.declared.Port.{Port}
use Rattle.registers.specs.declared.Port.TheVariants.{Select, Send, LcdControl, RtcCommand, Acts, Shows, Holds, Other}
use Rattle.registers.specs.Ports.{port_of, timer_of, field_of}
use Rattle.registers.specs.Words.{own_with}
use Rattle.state.specs.Parts.{none, with_tone}
use Rattle.state.specs.declared.Devices.{Devices}
use Rattle.bus.specs.World.{World, Out, out, out_done, OwnOut, own_out, answer, own_done}
use Rattle.bus.specs.Chip.{select_written, send_written}
use Rattle.bus.specs.Rtc.{command_written}
use Rattle.bus.specs.Screen.{controlled}
use Rattle.bus.specs.Sounds.{timer_set, sound_of, sounding, sound_written, timer_written}
use Rattle.bus.specs.Words.{powered_by, spi_sent, adc_written, day_set, word_written}
use Rattle.bus.specs.World.{with_ram, with_sram, with_gpio}
use Rattle.bus.specs.Write.{stored_word, by_flash, by_panel, by_rtc, by_word, by_store, written_at, port_written}
use Rattle.bus.specs.Write.{reg_written, write_at, write_of}
use Rattle.time.specs.Clocks.{clock_in}

-- ---- a test

by_equal : {A : Type 0} (P : A → Type 0) (i k : ℕ) (x y : A) → (i ≡ k → P x) → (i ≢ k → P y) → P (cond (eqb i k) x y)
by_equal P i k x y f g = by_cond P (eqb i k) x y (λ e. f (eqb-true i k e)) (λ e. g (eqb-false i k e))

-- ---- the buzzer

-- a refusal is for want of room
abbrev refusal_in : Sounded → Refusal
refusal_in (Err r) = r
refusal_in (Ok x) = SoundFull

full_alone : (slots : List ℕ) (tone : Tone) (clock : ℕ) (full : Bool) (word v : ℕ) (r : Refusal)
    → sound_of slots tone clock full word v ≡ Err r → r ≡ SoundFull
unfolding sound_of sounded_of
full_alone slots tone clock full word v r e = sym (ap refusal_in e) ∙ by (differ_of _ tone) full _
  where
    by : (a b : Bool) (new : Tone) → refusal_in (cond a (cond b (Err SoundFull) (Ok (Some new))) (Ok None)) ≡ SoundFull
    by true true new = refl
    by true false new = refl
    by false b new = refl

-- ---- the ports whose words are only stored

abbrev pub Stores : Port → Type 0
Stores Select = ⊥
Stores Send = ⊥
Stores LcdControl = ⊥
Stores RtcCommand = ⊥
Stores (Acts e) = ⊥
Stores (Shows v) = Unit {0}
Stores Holds = Unit {0}
Stores Other = Unit {0}

pub by_stores : (P : Port → Type 0) → ((v : View) → P (Shows v)) → P Holds → P Other → (p : Port) → Stores p → P p
by_stores P shows holds other Select s = absurd s
by_stores P shows holds other Send s = absurd s
by_stores P shows holds other LcdControl s = absurd s
by_stores P shows holds other RtcCommand s = absurd s
by_stores P shows holds other (Acts e) s = absurd s
by_stores P shows holds other (Shows v) s = shows v
by_stores P shows holds other Holds s = holds
by_stores P shows holds other Other s = other

-- ---- any address

pub by_write : (P : Out → Type 0) (w : World) (full : Bool) (a n v : ℕ) → (good_size n ≡ false → P (out w 9 false))
    → ((o : ℕ) → good_size n ≡ true → place_of a ≡ Ram o → P (out_done (with_ram w (stored_at w.ram o n v))))
    → ((o : ℕ) → good_size n ≡ true → place_of a ≡ Sram o → P (out_done (with_sram w (stored_at w.sram o n v))))
    → ((o : ℕ) → good_size n ≡ true → place_of a ≡ Gpio o → P (out_done (with_gpio w (stored_at w.gpio o n v))))
    → (good_size n ≡ true → place_of a ≡ Register → P (reg_written w full a n v))
    → (good_size n ≡ true → place_of a ≡ Stray → P (out w 6 false))
    → P (write_of w full a n v)
unfolding write_of
by_write P w full a n v bad ram sram gpio register stray =
    by_cond P (good_size n) (write_at (place_of a) w full a n v) (out w 9 false) (λ g. at g (place_of a) refl) bad
  where
    at : good_size n ≡ true → (p : Place) → place_of a ≡ p → P (write_at p w full a n v)
    at g (Ram o) e = ram o g e
    at g (Sram o) e = sram o g e
    at g (Gpio o) e = gpio o g e
    at g Register e = register g e
    at g Stray e = stray g e

-- ---- a register

module _ (P : Out → Type 0) (w : World) (full : Bool) (word old new part : ℕ) where
  pub by_port : (port_of word ≡ Select
      → P (by_flash w (select_written w.registers.slots w.devices.flash w.page w.ram new)))
      → (port_of word ≡ Send
      → P (by_flash w (send_written w.registers.slots w.devices.flash w.page w.ram new)))
      → (port_of word ≡ LcdControl
      → P (by_panel w (controlled w.registers w.ram w.sram w.gpio (screen w.devices.panel w.fb) new)))
      → (port_of word ≡ RtcCommand
      → P (by_rtc w (command_written w.registers.slots (rtc_of w.rtc w.devices.latch)
      w.devices.clocks.times.game new)))
      → ((e : Effect) → port_of word ≡ Acts e
      → P (by_word w (word_written e w.registers.slots w.devices (clock_in w.sram) full word old new part)))
      → ((p : Port) → port_of word ≡ p → Stores p → P (by_store w (stored_word w.registers w.devices word new)))
      → P (port_written w full word old new part)
  unfolding port_written
  by_port select send panel rtc acts stores = at (port_of word) refl
    where
      at : (p : Port) → port_of word ≡ p → P (written_at p w full word old new part)
      at Select e = select e
      at Send e = send e
      at LcdControl e = panel e
      at RtcCommand e = rtc e
      at (Acts x) e = acts x e
      at (Shows v) e = stores (Shows v) e tt
      at Holds e = stores Holds e tt
      at Other e = stores Other e tt

-- ---- a word that acts

module _ (P : OwnOut → Type 0) (slots : List ℕ) (d : Devices) (clock : ℕ) (full : Bool) where
  pub by_word_lem : (e : Effect) (word old new part : ℕ)
      → (e ≡ TimerControl → P (timer_written slots d clock full (timer_of word) word old new))
      → P (own_done slots (day_set d (field_of word) new))
      → P (sound_written slots d d clock full word new)
      → P (own_done (own_with slots word (bit_and old (bit_xor new 0xFFFFFFFF))) d)
      → P (own_done (own_with slots word (bit_and old (bit_xor part 0xFFFFFFFF))) d)
      → P (adc_written slots d old new)
      → P (own_done (own_with slots word new) (powered_by d new))
      → P (own_done (spi_sent slots new) d)
      → P (word_written e slots d clock full word old new part)
  by_word_lem TimerControl word old new part timer day sound lcd tick adc power spi = timer refl
  by_word_lem DayField word old new part timer day sound lcd tick adc power spi = day
  by_word_lem Sound word old new part timer day sound lcd tick adc power spi = sound
  by_word_lem LcdStatus word old new part timer day sound lcd tick adc power spi = lcd
  by_word_lem Tick word old new part timer day sound lcd tick adc power spi = tick
  by_word_lem AdcControl word old new part timer day sound lcd tick adc power spi = adc
  by_word_lem Power word old new part timer day sound lcd tick adc power spi = power
  by_word_lem SpiSend word old new part timer day sound lcd tick adc power spi = spi

  pub by_sound : (next : Devices) (word v : ℕ) → (sound_of slots d.tone clock full word v ≡ Err SoundFull
      → P (own_out slots (answer SOUND_FULL d)))
      → (sound_of slots d.tone clock full word v ≡ (Ok None) → P (own_done (own_with slots word v) next))
      → ((tone : Tone) → sound_of slots d.tone clock full word v ≡ Ok (Some tone)
      → P (own_out (own_with slots word v) (record { refusal = DONE; event = true; devices = with_tone next tone })))
      → P (sound_written slots d next clock full word v)
  unfolding sound_written
  by_sound next word v refused same change = go (sound_of slots d.tone clock full word v) refl
    where
      go : (x : Sounded) → sound_of slots d.tone clock full word v ≡ x → P (sounding x slots d next word v)
      go (Err r) e = let f : r ≡ SoundFull = full_alone slots d.tone clock full word v r e in
          rw f (refused (e ∙ ap Err f))
      go (Ok None) e = same e
      go (Ok (Some tone)) e = change tone e

  -- x: what the write makes of the timer and of its control word
  pub by_timer : (n word old new : ℕ) (x : Written) → written_of (get_or d.clocks.timers n none)
      d.clocks.times.now new old ≡ x
      → (n ≡ 4 → P (sound_written slots d (timer_set d n x.timer) clock full word x.control))
      → (n ≢ 4 → P (own_done (own_with slots word x.control) (timer_set d n x.timer)))
      → P (timer_written slots d clock full n word old new)
  unfolding timer_written
  by_timer n word old new x e sound plain = rw e (by_equal P n 4 _ _ sound plain)
