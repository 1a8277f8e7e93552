-- A register write is refused with 4 or 5 exactly where 01 says so, by the words alone.
use Prim.Native.Nat.{ℕ, ◌<◌}
use mathlib.Core.Path.{◌≡◌, refl, sym, ap, subst, ◌∙◌}
use mathlib.Core.Bool.{Bool, true, false, cond, not, true≢false, ◌&&◌}
use mathlib.Core.Logic.{inl, inr}
use native.Mathlib.Omega.{arith}
use lib.Bits.{bit_and}
use lib.Dec.{eqb, lit<}
use borrow.Author.Tests.{eq-eqb, ne_eqb, eqb-true, eqb-false}
use Rattle.std.specs.Prelude.{Err, None, Ok, Some}
use Rattle.map.specs.declared.refusals.Refusal.TheVariants.{SoundFull}
use Rattle.map.specs.Numbers.{DONE, SOUND_TIMER, SOUND_CONTROL, SOUND_RELOAD, SOUND_COMPARE}
use Rattle.registers.specs.declared.Registers.{Registers}
use Rattle.registers.specs.declared.Effect.{Effect}
use Rattle.registers.specs.declared.Effect.TheVariants.{TimerControl, DayField, Sound, LcdStatus, Tick, AdcControl}
use Rattle.registers.specs.declared.Effect.TheVariants.{Power, SpiSend}
use Rattle.registers.specs.declared.Port.{Port}
use Rattle.registers.specs.declared.Port.TheVariants.{Select, Send, LcdControl, RtcCommand, Acts, Shows, Holds, Other}
use Rattle.registers.specs.Ports.{named_rows, words_from, own_words, index, slot_of, slot_word, port_at}
use Rattle.registers.specs.Ports.{day_word, port_of, timer_of}
use Rattle.registers.specs.Words.{unstored, word_at, put_word}
use Rattle.registers.specs.Within.{Tidy, non_zero, Full}
use Rattle.whole.proofs.Choice.{both, by_test, of_not}
use Rattle.registers.proofs.Own.{slot_hit, by_slot}
use Rattle.registers.proofs.Slots.{every, at_each, port_slot, port_none, port_own, has_slot, slot_no_day}
use Rattle.registers.proofs.Count.{full_exactly}
use Rattle.timer.specs.Timers.{written_of}
use Rattle.timer.specs.Sound.{differ_of, sounded_of}
use Rattle.state.specs.declared.Devices.{Devices}
use Rattle.bus.specs.World.{OwnOut}
use Rattle.bus.specs.Sounds.{sound_of, sounding, sound_written}
use Rattle.bus.specs.Words.{adc_written, word_written}
use Rattle.bus.proofs.Branches.{by_timer}
use Rattle.bus.proofs.Slots.{day_unstored}
use Rattle.system.specs.Refusals.{no_room, sound_word, stored_of, tone_then, adds_event}
use Rattle.system.proofs.Unchanged.{StoreNumber, put_number}

-- ---- room for a word

module _ (r : Registers) (word new : ℕ) where
  room_full : no_room r word new ≡ true → Full r word new
  unfolding no_room
  room_full h =
      let e = both _ _ h in
      let d = both _ _ e.0 in
      let c = both _ _ d.0 in
      let b = both _ _ c.0 in
      record {
        value = eqb-false new 0 (of_not (eqb new 0) true b.0);
        word = eqb-true (word_at r word) 0 b.1;
        other = record { slot = eqb-true (slot_of word) 76 c.1; stored = of_not (unstored word) true d.1 };
        most = eqb-true (non_zero r.values) 256 e.1;
      }

  full_room : Full r word new → no_room r word new ≡ true
  unfolding no_room
  full_room f =
      rw (
        ne_eqb new 0 f.value,
        eq-eqb (word_at r word) 0 f.word,
        eq-eqb (slot_of word) 76 f.other.slot,
        f.other.stored,
        eq-eqb (non_zero r.values) 256 f.most,
      )

  -- a word with storage of its own, or one that is never stored, needs none
  pub room_own : slot_of word < 76 → no_room r word new ≡ false
  room_own less = by_test (no_room r word new) (λ t. absurd (omega (arith, less, (room_full t).other.slot))) (λ f. f)

  room_never : unstored word ≡ true → no_room r word new ≡ false
  room_never u = by_test (no_room r word new) (λ t. absurd (true≢false (sym u ∙ (room_full t).other.stored))) (λ f. f)

  pub put_order : Tidy r → (put_word r word new).refusal ≡ cond (no_room r word new) 4 0
  put_order tidy =
      let exactly = full_exactly r word new tidy in
      by_test (no_room r word new)
      (λ t. rw t (exactly.1 (room_full t)))
      (λ f. rw f (by f (put_number r word new)))
    where
      by : no_room r word new ≡ false → StoreNumber (put_word r word new).refusal → (put_word r word new).refusal ≡ DONE
      by f (inl z) = z
      by f (inr e) = absurd (true≢false (sym (full_room ((full_exactly r word new tidy).0 e)) ∙ f))

-- ---- the words that the sound follows, by their ports

-- control, reload and compare of one timer; of a control word, which timer it is of decides
abbrev followed_by : Effect → ℕ → Bool
followed_by TimerControl n = eqb n SOUND_TIMER
followed_by DayField n = false
followed_by Sound n = true
followed_by LcdStatus n = false
followed_by Tick n = false
followed_by AdcControl n = false
followed_by Power n = false
followed_by SpiSend n = false

abbrev control_by : Effect → ℕ → Bool
control_by TimerControl n = eqb n SOUND_TIMER
control_by DayField n = false
control_by Sound n = false
control_by LcdStatus n = false
control_by Tick n = false
control_by AdcControl n = false
control_by Power n = false
control_by SpiSend n = false

-- a test of the effect, of no other port
abbrev pub on_effect : (Effect → ℕ → Bool) → Port → ℕ → Bool
on_effect f Select n = false
on_effect f Send n = false
on_effect f LcdControl n = false
on_effect f RtcCommand n = false
on_effect f (Acts e) n = f e n
on_effect f (Shows v) n = false
on_effect f Holds n = false
on_effect f Other n = false

abbrev same : Bool → Bool → Bool
same true b = b
same false b = not b

same_is : (a b : Bool) → same a b ≡ true → a ≡ b
same_is true true h = refl
same_is true false h = sym h
same_is false true h = h
same_is false false h = refl

all_followed : every (λ s. same (sound_word (slot_word s)) (on_effect followed_by (port_at s)
    (timer_of (slot_word s)))) 76 ≡
    true
unfolding port_at own_words words_from named_rows
all_followed = refl

all_controls : every (λ s. same (eqb (slot_word s) SOUND_CONTROL)
    (on_effect control_by (port_at s) (timer_of (slot_word s)))) 76 ≡ true
unfolding port_at own_words words_from named_rows
all_controls = refl

-- a test of words that passes none without a slot and is decided in each slot by the port
module _ (t : ℕ → Bool) (f : Effect → ℕ → Bool)
    (each : every (λ s. same (t (slot_word s)) (on_effect f (port_at s) (timer_of (slot_word s)))) 76 ≡ true)
    (outside : (word : ℕ) → slot_of word ≡ 76 → t word ≡ false) (no_field : (n : ℕ) → f DayField n ≡ false) where
  by_effect : (word : ℕ) → t word ≡ on_effect f (port_of word) (timer_of word)
  by_effect word =
      by_slot word
      (λ less. let w : slot_word (slot_of word) ≡ word = slot_hit word less in
      let e = same_is _ _ (at_each (λ s. same (t (slot_word s)) (on_effect f (port_at s) (timer_of (slot_word s))))
      76 each
      (slot_of word) less) in
      subst (λ (a : ℕ). t a ≡ on_effect f (port_of a) (timer_of a)) w
      (e ∙ ap (λ (p : Port). on_effect f p (timer_of (slot_word (slot_of word))))
      (sym (port_slot (slot_of word) less))))
      (λ none. outside word none ∙ sym (ap (λ (p : Port). on_effect f p (timer_of word)) (port_none word none) ∙ field
      (day_word word)))
    where
      field : (b : Bool) → on_effect f (cond b (Acts DayField) Other) (timer_of word) ≡ false
      field true = no_field (timer_of word)
      field false = refl

-- a word without a slot is none of a timer's
else : (word k : ℕ) → slot_of k < 76 → slot_of word ≡ 76 → eqb word k ≡ false
else word k less none = ne_eqb word k (λ e. let z = ap slot_of e in omega arith)

sound_port : (word : ℕ) → sound_word word ≡ on_effect followed_by (port_of word) (timer_of word)
unfolding slot_of own_words words_from named_rows index
sound_port =
    by_effect sound_word followed_by all_followed
    (λ word none. rw (
      else word SOUND_CONTROL (lit< tt) none,
      else word SOUND_RELOAD (lit< tt) none,
      else word
          SOUND_COMPARE (lit< tt) none,
    ))
    (λ n. refl)

control_port : (word : ℕ) → eqb word SOUND_CONTROL ≡ on_effect control_by (port_of word) (timer_of word)
unfolding slot_of own_words words_from named_rows index
control_port = by_effect (λ a. eqb a SOUND_CONTROL) control_by all_controls
    (λ word none. else word SOUND_CONTROL (lit< tt) none) (λ n. refl)

-- the time of day's words are never stored
day_never : (word : ℕ) → port_of word ≡ Acts DayField → unstored word ≡ true
day_never word e =
    by_slot word
    (λ less. absurd (slot_no_day (slot_of word) less (sym (port_slot (slot_of word) less) ∙ ap port_of
    (slot_hit word less) ∙ e)))
    (λ none. by_test (day_word word) (λ t. day_unstored word t)
    (λ f. absurd (true≢false (sym (ap acting e) ∙ ap acting (port_none word none) ∙ closed (day_word word) f))))
  where
    acting : Port → Bool
    acting p = on_effect (λ x n. true) p 0

    closed : (b : Bool) → b ≡ false → acting (cond b (Acts DayField) Other) ≡ false
    closed true h = h
    closed false h = refl

module _ (r : Registers) (d : Devices) (clock : ℕ) (full : Bool) (word new : ℕ) where
  -- 4, 5 or 0, by the words
  abbrev pub word_number : ℕ
  word_number = cond (no_room r word new) 4 (cond (adds_event r.slots d.tone clock word new && full) 5 0)

  pub adds_none : sound_word word ≡ false → adds_event r.slots d.tone clock word new ≡ false
  unfolding adds_event
  adds_none h = rw h

  pub number_none : no_room r word new ≡ false → sound_word word ≡ false → 0 ≡ word_number
  number_none h k = rw (h, adds_none k)

  sound_order : (next : Devices) (v : ℕ) → slot_of word < 76 → sound_word word ≡ true → v ≡ stored_of word new
      → (sound_written r.slots d next clock full word v).wrote.refusal ≡ word_number
  unfolding sound_written sound_of sounded_of adds_event
  sound_order next v less follows e = rw (room_own r word new less, follows, e)
      (by (differ_of (tone_then r.slots clock word new) d.tone) full)
    where
      by : (a b : Bool) → ◌≡◌ {A = ℕ} (sounding (cond a (cond b (Err SoundFull) (Ok (Some (tone_then r.slots clock
          word new)))) (Ok None)) r.slots d next word (stored_of word new)).wrote.refusal
          (cond (a && b) 5 0)
      by true true = refl
      by true false = refl
      by false b = refl

  module _ (old part : ℕ) where
    abbrev Ordered : Effect → Type 0
    Ordered e = (word_written e r.slots d clock full word old new part).wrote.refusal ≡ word_number

    -- a word that has its own storage, and that the sound does not follow
    silent : (e : Effect) → port_of word ≡ Acts e → has_slot (Acts e) ≡ true → followed_by e (timer_of word) ≡ false
        → 0 ≡ word_number
    silent e p h k =
        number_none (room_own r word new (port_own word (ap has_slot p ∙ h)))
        (sound_port word ∙ ap (λ (q : Port). on_effect followed_by q (timer_of word)) p ∙ k)

    -- a control word
    timer_order : port_of word ≡ Acts TimerControl → Ordered TimerControl
    unfolding written_of
    timer_order p =
        let less : slot_of word < 76 = port_own word (ap has_slot p) in
        by_timer (λ (x : OwnOut). x.wrote.refusal ≡ word_number) r.slots d clock full (timer_of word) word old new _
        refl
        (λ four. sound_order _ _ less
        (sound_port word ∙ ap (λ (q : Port). on_effect followed_by q (timer_of word)) p ∙ eq-eqb _ _ four)
        (sym (stored_control (control_port word ∙ ap (λ (q : Port). on_effect control_by q (timer_of word)) p ∙ eq-eqb _
        _ four))))
        (λ other. silent TimerControl p refl (ne_eqb _ _ other))
      where
        stored_control : eqb word SOUND_CONTROL ≡ true → stored_of word new ≡ bit_and new 0xFFFF7FFF
        stored_control e = rw e

    -- reload or compare
    followed : port_of word ≡ Acts Sound → Ordered Sound
    followed p =
        sound_order d new (port_own word (ap has_slot p))
        (sound_port word ∙ ap (λ (q : Port). on_effect followed_by q (timer_of word)) p)
        (sym (stored (control_port word ∙ ap (λ (q : Port). on_effect control_by q (timer_of word)) p)))
      where
        stored : eqb word SOUND_CONTROL ≡ false → stored_of word new ≡ new
        stored e = rw e

    pub word_order : (e : Effect) → port_of word ≡ Acts e → Ordered e
    unfolding adc_written
    word_order TimerControl p = timer_order p
    word_order DayField p =
        number_none (room_never r word new (day_never word p))
        (sound_port word ∙ ap (λ (q : Port). on_effect followed_by q (timer_of word)) p)
    word_order Sound p = followed p
    word_order LcdStatus p = silent LcdStatus p refl refl
    word_order Tick p = silent Tick p refl refl
    word_order AdcControl p = silent AdcControl p refl refl
    word_order Power p = silent Power p refl refl
    word_order SpiSend p = silent SpiSend p refl refl

-- a port that is none that acts is none that the sound follows
pub port_silent : (word : ℕ) → on_effect (λ e n. true) (port_of word) 0 ≡ false → sound_word word ≡ false
port_silent word h = sound_port word ∙ by (port_of word) h
  where
    by : (p : Port) → on_effect (λ e n. true) p 0 ≡ false → on_effect followed_by p (timer_of word) ≡ false
    by Select h = refl
    by Send h = refl
    by LcdControl h = refl
    by RtcCommand h = refl
    by (Acts e) h = absurd (true≢false h)
    by (Shows v) h = refl
    by Holds h = refl
    by Other h = refl
