-- The branches of the words that act, over the bank's parts, each with the facts that lead to it; and what is left
-- beside the devices.
use Prim.Native.Nat.{ℕ, ◌/◌, ◌<◌}
use mathlib.Core.Path.{◌≡◌, refl, sym, ap, ◌∙◌}
use mathlib.Core.Bool.{Bool, true, false}
use mathlib.Core.List.{List}
use mathlib.Core.Logic.{◌≢◌}
use lib.Ieee.{Float}
use borrow.Author.Tests.{eq-eqb, ne_eqb}
use lib.Bits.{bit_and, bit_xor}
use lib.ListN.{get_or, set}
use Rattle.std.specs.Prelude.{Err, None, Ok, Some}
use Rattle.map.specs.declared.refusals.Refusal.{Refusal}
use Rattle.map.specs.Refusals.{code_of}
use Rattle.whole.proofs.Answered.{code_not_done}
use Rattle.map.specs.Numbers.{DONE, ADC_CONTROL, ADC_RESULT}
use Rattle.registers.specs.Words.{own_at, own_with}
use Rattle.registers.specs.declared.Effect.{Effect}
use Rattle.registers.specs.declared.Effect.TheVariants.{TimerControl, Sound, LcdStatus, Tick, AdcControl, Power}
use Rattle.registers.specs.declared.Effect.TheVariants.{SpiSend}
use Rattle.registers.specs.declared.Port.TheVariants.{Acts}
use Rattle.registers.specs.Ports.{slot_word, port_at}
use Rattle.registers.proofs.Slots.{slot_timer_of, timers}
use Rattle.bus.proofs.Slots.{slot_stored}
use Rattle.clock.specs.declared.Times.{Times}
use Rattle.clock.specs.declared.RtcIrq.{RtcIrq}
use Rattle.clock.specs.declared.Adc.{Adc}
use Rattle.clock.specs.Adc as adc
use Rattle.clock.specs.Day.{set_of}
use Rattle.timer.specs.declared.Timer.{Timer}
use Rattle.timer.specs.declared.Tone.{Tone}
use Rattle.timer.specs.declared.Written.{Written}
use Rattle.timer.specs.Sound.{Sounded}
use Rattle.timer.specs.Timers.{written_of}
use Rattle.state.specs.declared.Devices.{Devices}
use Rattle.state.specs.declared.Parts.{Parts}
use Rattle.state.specs.Bank.{parts_in}
use Rattle.state.specs.Packed.{StaysPacked}
use Rattle.state.specs.Parts.{none, devices_put, timer_put, tone_put, irq_put, converting_put}
use Rattle.bus.specs.Answers.{WriteAnswer}
use Rattle.bus.specs.World.{OwnOut, own_out, answer}
use Rattle.bus.specs.Sounds.{timer_set, sound_of, sounding, sound_written, timer_written}
use Rattle.bus.specs.Words.{powered_by, spi_sent, adc_after, adc_written, day_set, word_written}
use Rattle.bus.specs.Inner.{Only, Rest, wrote_of, without_event}

-- ---- beside the devices

pub only_same : (x : Parts) → Only x x
only_same x = record { ring = refl; keys = refl }

pub only_put : {x y : Parts} {d : Devices} → y ≡ devices_put x d → Only x y
only_put e = record { ring = ap (λ (z : Parts). z.ring) e; keys = ap (λ (z : Parts). z.keys) e }

pub only_then : {x y z : Parts} → Only x y → Only y z → Only x z
only_then a b = record { ring = b.ring ∙ a.ring; keys = b.keys ∙ a.keys }

pub devices_put_lem : (x : Parts) {y : Parts} {d : Devices} → y ≡ devices_put x d → y.devices ≡ d
devices_put_lem x e = ap (λ (z : Parts). z.devices) e

pub done_number : {r : WriteAnswer} → r ≡ without_event DONE → r.refusal ≡ DONE
done_number h = ap (λ (z : WriteAnswer). z.refusal) h

pub quiet : {r : WriteAnswer} {n : ℕ} → r ≡ without_event n → r.event ≡ false
quiet h = ap (λ (z : WriteAnswer). z.event) h

-- a part was put, or none
module _ {r : WriteAnswer} {l : List ℕ} {f : List Float} where
  pub rest_put : {l' : List ℕ} {f' : List Float} → r.refusal ≡ DONE → Only (parts_in l f) (parts_in l' f')
      → StaysPacked l f l' f' → Rest r l f l' f'
  rest_put h o k = record { only = o; packed = k; still = λ g. absurd (g h) }

  pub rest_none : r.event ≡ false → Rest r l f l f
  rest_none h = record { only = only_same _; packed = λ k. k; still = λ g. (h, refl, refl) }

-- ---- sound

module _ (slots : List ℕ) (x : Parts) (clock : ℕ) (full : Bool) (word v : ℕ) {tone : Tone} {s : Sounded} (t : tone ≡
    x.devices.tone)
    (e : s ≡ sound_of slots tone clock full word v) where
  here : s ≡ sound_of slots x.devices.tone clock full word v
  here = e ∙ ap (λ (z : Tone). sound_of slots z clock full word v) t

  pub sound_full_lem : (n : Refusal) {r : WriteAnswer} → s ≡ Err n → r ≡ without_event (code_of n)
      → own_out slots (wrote_of r x.devices) ≡ sound_written slots x.devices x.devices clock full word v
  unfolding sound_written
  sound_full_lem n h k = rw (k, ← here, h)

  pub sound_same : {slots₁ : List ℕ} {r : WriteAnswer} → s ≡ (Ok None) → slots₁ ≡ own_with slots word v
      → r ≡ without_event DONE
      → own_out slots₁ (wrote_of r x.devices) ≡ sound_written slots x.devices x.devices clock full word v
  unfolding sound_written
  sound_same h i k = rw (k, ← here, h, i)

  pub sound_change : {slots₁ : List ℕ} {y : Parts} {to : Tone} → s ≡ Ok (Some to) → slots₁ ≡ own_with slots word v
      → y ≡ tone_put x to
      → own_out slots₁ (record { refusal = DONE; event = true; devices = y.devices }) ≡ sound_written slots x.devices
      x.devices clock full word v
  unfolding sound_written
  sound_change h i j = rw (← here, h, i, j)

-- what was stored with the devices as they were, with a timer put behind it
module _ (slots : List ℕ) (d : Devices) (n : ℕ) (t : Timer) (word v : ℕ) where
  abbrev timed : OwnOut → OwnOut
  timed s = own_out s.slots (record {
    refusal = s.wrote.refusal;
    event = s.wrote.event;
    devices = timer_set
        s.wrote.devices n t;
  })

  refused_first : (x : Sounded) → (sounding x slots d d word v).wrote.refusal ≢ DONE
      → sounding x slots d d word v ≡ sounding x slots d (timer_set d n t) word v
  refused_first (Err r) h = refl
  refused_first (Ok None) h = absurd (h refl)
  refused_first (Ok (Some tone)) h = absurd (h refl)

  done_first : (x : Sounded) → (sounding x slots d d word v).wrote.refusal ≡ DONE
      → timed (sounding x slots d d word v) ≡ sounding x slots d (timer_set d n t) word v
  done_first (Err r) h = absurd (code_not_done r h)
  done_first (Ok None) h = refl
  done_first (Ok (Some tone)) h = refl

-- ---- the timers' control words

module _ (slots : List ℕ) (x : Parts) (clock : ℕ) (full : Bool) (n word old new : ℕ) {t : Timer} {times : Times} {w :
    Written}
    (a : t ≡ get_or x.devices.clocks.timers n none) (b : times ≡ x.devices.clocks.times) (e : w ≡ written_of t
    times.now new old) where
  written : w ≡ written_of (get_or x.devices.clocks.timers n none) x.devices.clocks.times.now new old
  written =
      e ∙ ap (λ (z : Timer). written_of z times.now new old) a
      ∙ ap (λ (z : Times). written_of (get_or x.devices.clocks.timers n none) z.now new old) b

  module _ (h : n ≡ 4) {slots₁ : List ℕ} {d : Devices} {r : WriteAnswer}
      (k : own_out slots₁ (wrote_of r d) ≡ sound_written slots x.devices x.devices clock full word
      w.control) where
    abbrev sounded : Sounded
    sounded = sound_of slots x.devices.tone clock full word w.control

    number : r.refusal ≡ (sound_written slots x.devices x.devices clock full word w.control).wrote.refusal
    number = ap (λ (z : OwnOut). z.wrote.refusal) k

    pub timer_refused : r.refusal ≢ DONE
        → own_out slots₁ (wrote_of r d) ≡ timer_written slots x.devices clock full n word old new
    unfolding timer_written sound_written
    timer_refused g =
        rw (← written, eq-eqb _ _ h)
        (k ∙ refused_first slots x.devices n w.timer word w.control sounded (λ z. g (number ∙ z)))

    pub timer_sounds : {next : Devices} → r.refusal ≡ DONE → next ≡ timer_set d 4 w.timer
        → own_out slots₁ (wrote_of r next) ≡ timer_written slots x.devices clock full n word old new
    unfolding timer_written sound_written
    timer_sounds g p =
        rw (← written, eq-eqb _ _ h, p, ← h)
        (ap (timed slots x.devices n w.timer word w.control) k
        ∙ done_first slots x.devices n w.timer word w.control sounded (sym number ∙ g))

  pub timer_plain : {slots₁ : List ℕ} {y : Parts} {r : WriteAnswer} → n ≢ 4 → slots₁ ≡ own_with slots word w.control
      → y ≡ timer_put x n w.timer → r ≡ without_event DONE
      → own_out slots₁ (wrote_of r y.devices) ≡ timer_written slots x.devices clock full n word old new
  unfolding timer_written
  timer_plain h i j k = rw (← written, ne_eqb _ _ h, k, j, i)

-- ---- the words that act

pub adc_done : (slots : List ℕ) (x : Parts) (old new : ℕ) {on : Bool} {z : Adc} {v : ℕ} {slots₁ : List ℕ} {y : Parts}
    → on ≡ x.devices.clocks.converting
    → v ≡ own_at slots ADC_RESULT → z ≡ adc.written_of (record { converting = on; control = old; result = v }) new
    → slots₁ ≡ own_with slots ADC_CONTROL z.control → y ≡ converting_put x z.converting
    → own_out slots₁ (answer DONE y.devices) ≡ adc_written slots x.devices old new
unfolding adc_written
adc_done slots x old new {v = v} o e h i j =
    rw (i, j)
    (ap (λ (b : Adc). adc_after b slots x.devices)
    (h ∙ ap (λ (b : Bool). adc.written_of (record { converting = b; control = old; result = v }) new) o
    ∙ ap (λ (b : ℕ). adc.written_of (record {
      converting = x.devices.clocks.converting;
      control = old;
      result = b;
    }) new) e))

pub day_put : (x : Parts) (field new : ℕ) {times : Times} {irq next : RtcIrq} {y : Parts}
    → times ≡ x.devices.clocks.times → irq ≡ x.devices.clocks.irq
    → next ≡ set_of irq times.game field new → y ≡ irq_put x next → y ≡ devices_put x (day_set x.devices field new)
unfolding day_set
day_put x field new {times} {irq} a b e h =
    h ∙ ap (λ (z : RtcIrq). irq_put x z)
    (e ∙ ap (λ (z : RtcIrq). set_of z times.game field new) b ∙ ap (λ (z : Times). set_of x.devices.clocks.irq
    z.game field new) a)

-- a word that acts, by its slot; e is what it does
module _ (slots : List ℕ) (x : Parts) (clock : ℕ) (full : Bool) (s old new part : ℕ) (h : s < 76) {e : Effect} where
  pub word_control : {y : OwnOut} {l : ℕ} → port_at s ≡ Acts e → e ≡ TimerControl → l ≡ clock
      → y ≡ timer_written slots x.devices l full (s / 8) (slot_word s) old new
      → y ≡ word_written e slots x.devices clock full (slot_word s) old new part
  word_control p k j i = rw (k, slot_timer_of s h (ap timers (p ∙ ap Acts k)), ← j) i

  pub word_sounds : {y : OwnOut} {l : ℕ} → e ≡ Sound → l ≡ clock
      → y ≡ sound_written slots x.devices x.devices l full (slot_word s) new
      → y ≡ word_written e slots x.devices clock full (slot_word s) old new part
  word_sounds k j i = rw (k, ← j) i

  module _ {slots₁ : List ℕ} {r : WriteAnswer} (z : r ≡ without_event DONE) where
    pub word_lcd : e ≡ LcdStatus → slots₁ ≡ set slots s (bit_and old (bit_xor new 0xFFFFFFFF))
        → own_out slots₁ (wrote_of r x.devices) ≡ word_written e slots x.devices clock full (slot_word s) old new part
    word_lcd k l = rw (k, z, l, slot_stored s h slots (bit_and old (bit_xor new 0xFFFFFFFF)))

    pub word_tick : e ≡ Tick → slots₁ ≡ set slots s (bit_and old (bit_xor part 0xFFFFFFFF))
        → own_out slots₁ (wrote_of r x.devices) ≡ word_written e slots x.devices clock full (slot_word s) old new part
    word_tick k l = rw (k, z, l, slot_stored s h slots (bit_and old (bit_xor part 0xFFFFFFFF)))

    pub word_adc : {d : Devices} → e ≡ AdcControl → own_out slots₁ (answer DONE d)
        ≡ adc_written slots x.devices old new
        → own_out slots₁ (wrote_of r d) ≡ word_written e slots x.devices clock full (slot_word s) old new part
    word_adc k l = rw (k, z) l

    pub word_power : {y : Parts} → e ≡ Power → slots₁ ≡ set slots s new → y ≡ devices_put x (powered_by x.devices new)
        → own_out slots₁ (wrote_of r y.devices) ≡ word_written e slots x.devices clock full (slot_word s) old new part
    word_power k l m = rw (k, z, l, m, slot_stored s h slots new)

    pub word_spi : e ≡ SpiSend → slots₁ ≡ spi_sent slots new
        → own_out slots₁ (wrote_of r x.devices) ≡ word_written e slots x.devices clock full (slot_word s) old new part
    word_spi k l = rw (k, z, l)
