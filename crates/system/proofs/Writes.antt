-- A write keeps the limits, whatever its address, its size and its value.
use Prim.Native.Nat.{ℕ, ◌^◌, ◌<◌}
use mathlib.Core.Path.{◌≡◌, refl, sym, ap, subst, ◌∙◌}
use mathlib.Core.Bool.{Bool, true, false, cond}
use mathlib.Core.List.{List}
use native.Mathlib.Omega.{arith}
use lib.ListN.{length, get_or}
use lib.Bits.{bit_and}
use lib.Dec.{eqb}
use Rattle.std.specs.Prelude.{Err, None, Ok, Some}
use Rattle.map.specs.declared.refusals.Refusal.TheVariants.{SoundFull}
use Rattle.whole.specs.Words.{has}
use Rattle.whole.proofs.Words.{either}
use Rattle.map.specs.Numbers.{SOUND_CONTROL, SOUND_RELOAD, SOUND_COMPARE, LCD_DMA}
use Rattle.registers.specs.declared.Registers.{Registers}
use Rattle.registers.specs.declared.Effect.{Effect}
use Rattle.registers.specs.declared.Port.TheVariants.{Acts}
use Rattle.registers.specs.Ports.{port_of, timer_of}
use Rattle.registers.proofs.Slots.{port_timer}
use Rattle.registers.specs.Words.{registers_of, own_at, own_with, others_of, word_at}
use Rattle.registers.specs.Within.{Tidy, EachOther}
use Rattle.registers.proofs.Own.{own_length}
use Rattle.registers.proofs.Tidy.{tidy_put}
use Rattle.registers.proofs.Every.{each_put}
use Rattle.memory.specs.declared.Place.TheVariants.{Register}
use Rattle.memory.specs.Places.{place_of}
use Rattle.memory.specs.Access.{merged_of, written_of}
use Rattle.memory.proofs.Stored.{load_fits}
use Rattle.memory.proofs.Aligned.{word_register}
use Rattle.flash.specs.declared.Chip.{Chip}
use Rattle.panel.specs.declared.Panel.{Panel}
use Rattle.panel.specs.Entries.{Screen}
use Rattle.panel.specs.Within.{PanelWithin}
use Rattle.panel.proofs.Limits.{later_within}
use Rattle.timer.specs.declared.Tone.{Tone}
use Rattle.timer.specs.declared.Queue.{Queue}
use Rattle.timer.specs.Canonical.{Canonical}
use Rattle.timer.specs.Events.{full_of}
use Rattle.timer.specs.Timers as timers
use Rattle.timer.specs.Sound.{tone_of, differ_of, sounded_of}
use Rattle.timer.specs.Within.{ToneWithin, ToneFinite, EventsWithin}
use Rattle.timer.proofs.Tones.{tone_within, within_finite}
use Rattle.timer.proofs.Tidy.{put_canonical}
use Rattle.timer.proofs.Finite.{put_events}
use Rattle.clock.specs.Within.{Latched}
use Rattle.clock.specs.Rtc.{rtc_of}
use Rattle.clock.proofs.RtcLimits.{commands_latched}
use Rattle.state.specs.declared.Clocks.{Clocks}
use Rattle.time.specs.Within.{ClocksWithin}
use Rattle.time.proofs.Limits.{timer_within, day_within, adc_within}
use Rattle.state.specs.Parts.{none, devices_of, with_clocks}
use Rattle.state.specs.declared.Devices.{Devices}
use Rattle.bus.specs.World.{World, Out, OwnOut}
use Rattle.bus.specs.Chip.{select_written, send_written}
use Rattle.bus.specs.Rtc.{command_written}
use Rattle.bus.specs.Screen.{Copied, copied, dma_done, act_result, controlled}
use Rattle.bus.specs.Sounds.{timer_set, sound_of, sound_written, timer_written}
use Rattle.bus.specs.Words.{spi_sent, adc_written, day_set, word_written}
use Rattle.bus.specs.Write.{stored_word, word_address, reg_written}
use Rattle.time.specs.Clocks.{clock_in}
use Rattle.bus.specs.Write as write
use Rattle.bus.proofs.Branches.{by_write, by_port, by_word_lem, by_sound, by_timer}
use Rattle.bus.specs.Sounds.{sound_now, noted}
use Rattle.system.specs.System.{Machine, world_in}
use Rattle.system.specs.Calls.{write_of}
use Rattle.system.specs.Carried.{screen_in, writes, panel_by}
use Rattle.system.specs.Limits.{RegisterWord, WithinLimits}
use Rattle.system.proofs.Kept.{own_tidy}
use Rattle.system.proofs.PanelCarries.{panel_write}
use Rattle.system.proofs.FlashKept.{write_flash}

-- what a write on the bus can reach of the limits, beside the panel's and the flash's
record BusWithin (r : Registers) (c : List ℕ) (d : Devices) : Type 0 where
  registers : Tidy r
  others : EachOther RegisterWord (others_of r)
  clocks : ClocksWithin d.clocks
  rtc : Latched c d.latch d.clocks.times.game
  tone : ToneFinite d.tone

-- ---- the panel's words keep their number

module _ (r : Registers) (ram sram gpio : List ℕ) (t : Screen) where
  abbrev SameLength : Copied → Type 0
  SameLength x = length x.slots ≡ length r.slots

  dma_length : SameLength (dma_done r ram sram gpio t)
  unfolding dma_done
  dma_length = either SameLength (eqb (own_at r.slots LCD_DMA) 0) _ _ refl (own_length r.slots _ _)

  acted_length : (val : ℕ) → SameLength (act_result r ram sram gpio t val)
  unfolding act_result
  acted_length val = by (eqb (bit_and val 0xF0) 0x80) (eqb (bit_and val 0xF0) 0xA0) (eqb (bit_and val 0xF0) 0xD0) _ _
    where
      by : (a b c : Bool) (x y : Screen)
          → SameLength (cond a (copied r.slots x)
          (cond b (copied r.slots y) (cond c (dma_done r ram sram gpio t) (copied r.slots t))))
      by true b c x y = refl
      by false true c x y = refl
      by false false true x y = dma_length
      by false false false x y = refl

controlled_length : (r : Registers) (ram sram gpio : List ℕ) (t : Screen) (val : ℕ)
    → length (controlled r ram sram gpio t val).slots ≡
    length r.slots
unfolding controlled
controlled_length r ram sram gpio t val =
    either (λ (x : Copied). length x.slots ≡ length r.slots) (has val 1) _ _
    (own_length _ _ _ ∙ acted_length _ ram sram gpio t val ∙ own_length r.slots _ _) (own_length r.slots _ _)

-- ---- the tone of a change is one that timer 4's words give, so its duty is held within 0.05 and 0.95

pub changed_held : (slots : List ℕ) (state tone : Tone) (clock : ℕ) (full : Bool) (word v : ℕ) → clock < 2 ^ 32
    → sound_of slots state clock full word v ≡ Ok (Some tone)
    → ToneWithin tone
unfolding sound_of sounded_of
changed_held slots state tone clock full word v h e = by (differ_of new state) full e
  where
    new : Tone
    new =
        tone_of clock (cond (eqb word SOUND_CONTROL) v (own_at slots SOUND_CONTROL))
        (cond (eqb word SOUND_RELOAD) v (own_at slots SOUND_RELOAD))
        (cond (eqb word SOUND_COMPARE) v (own_at slots SOUND_COMPARE))

    by : (a b : Bool) → cond a (cond b (Err SoundFull) (Ok (Some new))) (Ok None) ≡ Ok (Some tone) → ToneWithin tone
    by true false e = let same : new ≡ tone = cc in subst ToneWithin same (tone_within clock _ _ _ h)
    by true true e = absurd (let z : ◌≡◌ {A = ℕ} 0 1 = cc in omega arith)
    by false b e = absurd (let z : ◌≡◌ {A = ℕ} 0 1 = cc in omega arith)

-- ---- a write on the bus

module _ (r : Registers) (rtc : List ℕ) (d : Devices) (w : BusWithin r rtc d) where
  abbrev Kept : List ℕ → Devices → Type 0
  Kept slots e = BusWithin (registers_of slots r.addresses r.values) rtc e

  -- neither clocks nor RTC nor tone change
  apart : (slots : List ℕ) (f : Chip) (p : Panel) (off : Bool) → length slots ≡ length r.slots
      → Kept slots (devices_of f p d.clocks d.latch d.tone off)
  apart slots f p off e = record {
    registers = own_tidy r slots w.registers e;
    others = w.others;
    clocks = w.clocks;
    rtc = w.rtc;
    tone = w.tone;
  }

  -- of the clocks all but game time may change
  clocked : (slots : List ℕ) (k : Clocks) → length slots ≡ length r.slots → k.times ≡ d.clocks.times
      → ClocksWithin k
      → Kept slots (with_clocks d k)
  clocked slots k e t h = record {
    registers = own_tidy r slots w.registers e;
    others = w.others;
    clocks = h;
    rtc = rw t w.rtc;
    tone = w.tone;
  }

  module _ (clock : ℕ) (full : Bool) (small : clock < 2 ^ 32) where
    abbrev SaidKept : OwnOut → Type 0
    SaidKept x = Kept x.slots x.wrote.devices

    sound_kept : (next : Devices) (word v : ℕ) → Kept (own_with r.slots word v) next
        → SaidKept (sound_written r.slots d next clock full word v)
    sound_kept next word v h =
        by_sound SaidKept r.slots d clock full next word v (λ e. w) (λ e. h)
        (λ tone e. record {
          registers = h.registers;
          others = h.others;
          clocks = h.clocks;
          rtc = h.rtc;
          tone = within_finite tone (changed_held r.slots d.tone tone clock full word v small e);
        })

    timer_kept : (n word old new : ℕ) → n < 6 → SaidKept (timer_written r.slots d clock full n word old new)
    timer_kept n word old new h =
        let x = timers.written_of (get_or d.clocks.timers n none) d.clocks.times.now new old in
        let next : Kept (own_with r.slots word x.control) (timer_set d n x.timer) =
        clocked _ _ (own_length r.slots _ _) refl (timer_within d.clocks w.clocks n new old h) in
        by_timer SaidKept r.slots d clock full n word old new x refl (λ e. sound_kept _ word x.control next)
        (λ e. next)

    word_kept : (e : Effect) (word old new part : ℕ) → port_of word ≡ Acts e
        → SaidKept (word_written e r.slots d clock full word old new part)
    unfolding day_set adc_written spi_sent
    word_kept e word old new part p =
        by_word_lem SaidKept r.slots d clock full e word old new part
        (λ k. timer_kept (timer_of word) word old new (port_timer word (p ∙ ap Acts k)))
        (clocked _ _ refl refl (day_within d.clocks w.clocks _ new))
        (sound_kept d word new (apart _ _ _ _ (own_length r.slots _ _)))
        (apart _ _ _ _ (own_length r.slots _ _))
        (apart _ _ _ _ (own_length r.slots _ _))
        (clocked _ _ (own_length r.slots _ _) refl (adc_within d.clocks w.clocks _))
        (apart _ _ _ _ (own_length r.slots _ _))
        (apart _ _ _ _ (own_length _ _ _ ∙ own_length _ _ _ ∙ own_length r.slots _ _))

abbrev WorldKept : Out → Type 0
WorldKept x = BusWithin x.world.registers x.world.rtc x.world.devices

-- the word that a register's address lies in
word_placed : (a : ℕ) → place_of a ≡ Register → RegisterWord (word_address a)
word_placed a e = record { register = word_register a e; aligned = omega arith }

reg_kept : (w : World) (full : Bool) (a n v : ℕ) → place_of a ≡ Register
    → BusWithin w.registers w.rtc w.devices → WorldKept (reg_written w full a n v)
unfolding reg_written select_written send_written command_written stored_word
reg_kept w full a n v here h =
    let r = w.registers in
    let old = word_at r (word_address a) in
    let new = merged_of old a n v in
    by_port WorldKept w full (word_address a) old new (written_of a n v)
    (λ e. apart r w.rtc w.devices h _ _ _ _ (own_length r.slots _ _))
    (λ e. apart r w.rtc w.devices h _ _ _ _ (own_length r.slots _ _))
    (λ e. apart r w.rtc w.devices h _ _ _ _ (controlled_length r w.ram w.sram w.gpio _ new))
    (λ e. record {
      registers = own_tidy r _ h.registers (own_length r.slots _ _);
      others = h.others;
      clocks = h.clocks;
      rtc = commands_latched (rtc_of w.rtc w.devices.latch) w.devices.clocks.times.game _ _ new h.rtc
          h.clocks.times.game_limit;
      tone = h.tone;
    })
    (λ x e. word_kept r w.rtc w.devices h (clock_in w.sram) full (load_fits w.sram 0x90A4 4) x
    (word_address a) old new (written_of a n v) e)
    (λ p e s. record {
      registers = tidy_put r (word_address a) new h.registers;
      others = each_put RegisterWord r (word_address a) new h.registers (word_placed a here) h.others;
      clocks = h.clocks;
      rtc = h.rtc;
      tone = h.tone;
    })

write_kept : (w : World) (full : Bool) (a n v : ℕ) → BusWithin w.registers w.rtc w.devices
    → WorldKept (write.write_of w full a n v)
write_kept w full a n v h =
    by_write WorldKept w full a n v (λ g. h) (λ o g e. h) (λ o g e. h) (λ o g e. h) (λ g e. reg_kept w full a n v e h)
    (λ g e. h)

-- ---- a write of the machine

module _ (m : Machine) (w : WithinLimits m) where
  -- the queue after a write: its event, if there is one, is of now and of the tone
  abbrev Noted : Queue → Type 0
  Noted q = Canonical q × EventsWithin q

  note_kept : (d : Devices) (b : Bool) → ClocksWithin d.clocks → ToneFinite d.tone
      → Noted (noted m.system.queue d b)
  note_kept d true c t = (
    put_canonical m.system.queue (sound_now d) w.queue,
    put_events m.system.queue (sound_now d) w.queue w.events
        (record { time = c.times.now_good; frequency = t.frequency; duty = t.duty }),
  )
  note_kept d false c t = (w.queue, w.events)

  pub write_limits : (a n v : ℕ) → WithinLimits (write_of m a n v).machine
  unfolding write_of
  write_limits a n v =
      let full = full_of m.system.queue.ring in
      let x = write.write_of (world_in m) full a n v in
      let h : WorldKept x =
      write_kept (world_in m) full a n v (record {
        registers = w.registers;
        others = w.others;
        clocks = w.clocks;
        rtc = w.rtc;
        tone = w.tone;
      }) in
      let q = note_kept x.world.devices x.event h.clocks h.tone in
      record {
        registers = h.registers;
        others = h.others;
        clocks = h.clocks;
        rtc = h.rtc;
        tone = h.tone;
        queue = q.0;
        events = q.1;
        keys = w.keys;
        panel = subst (λ (s : Screen). PanelWithin s.panel) (sym (panel_write m full a n v))
            (later_within (screen_in m) (panel_by m (writes a n v)) w.panel);
        flash = write_flash (world_in m) full a n v w.flash;
      }
