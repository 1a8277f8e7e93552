-- The branches of a write, over the bank's parts, each with the facts that lead to it; and the event that it makes.
use Prim.Native.Nat.{ℕ, ◌<◌, ◌≤◌}
use mathlib.Core.Path.{◌≡◌, refl, sym, ap, ◌∙◌}
use mathlib.Core.Bool.{Bool, true, false, not, cond}
use mathlib.Core.List.{List}
use lib.Ieee.{Float}
use native.Mathlib.Omega.{arith}
use lib.Dec.{eqb}
use lib.ListN.{get_or, set}
use Rattle.map.specs.Numbers.{DONE, STRAY_WRITE, BAD_SIZE}
use Rattle.whole.proofs.Choice.{of_not}
use Rattle.registers.specs.declared.Registers.{Registers}
use Rattle.registers.specs.declared.Effect.{Effect}
use Rattle.registers.specs.declared.Effect.TheVariants.{DayField}
use Rattle.registers.specs.declared.Port.{Port}
use Rattle.registers.specs.declared.Port.TheVariants.{Select, Send, LcdControl, RtcCommand, Acts, Other}
use Rattle.registers.specs.declared.Spot.{Spot}
use Rattle.registers.specs.declared.Spot.TheVariants.{Own, Never, Present, Absent}
use Rattle.registers.specs.Words.{own_at, own_with, unstored, place, Others, others, put_present}
use Rattle.registers.specs.Words.{OtherOutcome}
use Rattle.registers.specs.Words.{other_outcome}
use Rattle.registers.specs.Ports.{slot_of, slot_word, day_word, port_of, field_of}
use Rattle.registers.specs.Words.{put_absent, registers_of, others_of, other_spot, word_in, word_at, beside, put_in}
use Rattle.registers.specs.Words.{put_word}
use Rattle.registers.proofs.Cases.{spot_other}
use Rattle.registers.proofs.Own.{slot_hit, own_word, own_put}
use Rattle.registers.proofs.Slots.{slot_back, port_none}
use Rattle.registers.proofs.Stays.{unstored_word}
use Rattle.memory.specs.declared.Place.{Place}
use Rattle.memory.specs.declared.Place.TheVariants.{Ram, Sram, Gpio, Register, Stray}
use Rattle.memory.specs.Places.{place_of}
use Rattle.memory.specs.Bytes.{stored_at}
use Rattle.memory.specs.Access.{good_size, merged_of, written_of}
use Rattle.flash.specs.declared.Chip.{Chip}
use Rattle.panel.specs.declared.Panel.{Panel}
use Rattle.panel.specs.Entries.{screen}
use Rattle.clock.specs.declared.Latch.{Latch}
use Rattle.clock.specs.declared.Times.{Times}
use Rattle.clock.specs.Rtc.{rtc_of}
use Rattle.timer.specs.declared.Ring.{Ring}
use Rattle.timer.specs.declared.Tone.{Tone}
use Rattle.timer.specs.Events.{queue_of, full_of, put_of, PutOutcome}
use Rattle.state.specs.declared.Devices.{Devices}
use Rattle.state.specs.declared.Parts.{Parts}
use Rattle.state.specs.Bank.{parts_in}
use Rattle.state.specs.Packed.{StaysPacked, Answered}
use Rattle.state.specs.Parts.{devices_put, sent_with, flash_put, sent_put, panel_put, latch_put, ring_put}
use Rattle.time.specs.Clocks.{clock_in}
use Rattle.bus.specs.Answers.{WriteAnswer}
use Rattle.bus.specs.World.{World, world, Out, out, out_done, OwnOut, answer}
use Rattle.bus.specs.Chip.{Flashed, flashed, chipped, select_written, send_written}
use Rattle.bus.specs.Rtc.{RtcDone, rtc_done, command_written}
use Rattle.bus.specs.Screen.{Copied, copied, controlled}
use Rattle.bus.specs.Sounds.{noted}
use Rattle.bus.specs.Words.{day_set, word_written}
use Rattle.bus.specs.Write.{Stored, stored, stored_outcome, stored_word, by_flash, by_panel, by_rtc, by_word}
use Rattle.bus.specs.Inner.{other_written}
use Rattle.bus.specs.Write.{by_store, written_at, port_written, word_address, reg_written}
use Rattle.bus.specs.Inner.{sized_put, sized_number}
use Rattle.bus.specs.Write.{write_at, write_of, together, noted_write}
use Rattle.bus.specs.Bank.{out_of}
use Rattle.bus.specs.Inner.{Rest, wrote_of, without_event}
use Rattle.bus.proofs.Branches.{Stores, by_stores}
use Rattle.bus.proofs.Slots.{slot_stored, day_unstored}
use Rattle.bus.proofs.Parts.{sent_alone}

-- ---- a word that has no storage of its own

module _ (r : Registers) (x : Parts) (word : ℕ) (none : slot_of word ≡ 76) where
  past : 76 ≤ slot_of word
  past = omega arith

  put_as : {y : Spot} (v : ℕ) → y ≡ other_spot r.addresses word → put_word r word v ≡ put_in r y word v
  unfolding put_word
  put_as v e = rw (← spot_other r.addresses word (slot_of word) refl past, ← e)

  word_as : {y : Spot} → y ≡ other_spot r.addresses word → word_at r word ≡ word_in r.slots r.values y
  unfolding word_at
  word_as e = rw (← spot_other r.addresses word (slot_of word) refl past, ← e)

  module _ {b : Bool} (e : b ≡ day_word word) (a n v : ℕ) where
    pub other_day : {t : WriteAnswer} {y : Parts} {f new : ℕ} → b ≡ true → t ≡ without_event DONE
        → new ≡ merged_of 0 a n v
        → f ≡ field_of word → y ≡ devices_put x (day_set x.devices f new)
        → stored r (wrote_of t y.devices) ≡ other_written r x.devices word (merged_of (word_at r word) a n v)
    unfolding other_written
    other_day l k h g j =
        rw (unstored_word r word (day_unstored word (sym e ∙ l)), ← e, l, k, j, h, g)

    module _ (l : b ≡ false) {y : Spot} (h : y ≡ other_spot r.addresses word) where
      other_put : {z : Stored}
          → z ≡ stored_outcome (put_in r y word (merged_of (word_in r.slots r.values y) a n v)) x.devices
          → z ≡ other_written r x.devices word (merged_of (word_at r word) a n v)
      unfolding other_written stored_word
      other_put k = rw (← e, l, word_as h, put_as (merged_of (word_in r.slots r.values y) a n v) h) k

      pub other_none : {t : WriteAnswer} → t ≡ without_event DONE → y ≡ Never
          → stored r (wrote_of t x.devices) ≡ other_written r x.devices word (merged_of (word_at r word) a n v)
      other_none k m = other_put (rw (m, k))

      pub other_put_present : {t : WriteAnswer} {old new : ℕ} {p q : List ℕ} (i : ℕ) → t ≡ without_event DONE
          → y ≡ Present i
          → old ≡ get_or r.values i 0 → new ≡ merged_of old a n v
          → others p q ≡ put_present (others_of r) i new
          → stored (registers_of r.slots p q) (wrote_of t x.devices) ≡ other_written r x.devices word (merged_of
          (word_at r word) a n v)
      other_put_present i k m o w j =
          other_put (rw (m, k, ← o, ← w) (ap (λ (z : Others). stored (registers_of r.slots z.addresses
          z.values) (answer DONE x.devices)) j))

      pub other_put_absent : {t : WriteAnswer} {new : ℕ} {p q : List ℕ} (i b : ℕ) → y ≡ Absent i
          → new ≡ merged_of 0 a n v
          → other_outcome b (others p q) ≡ put_absent (others_of r) i word new → t ≡ without_event b
          → stored (registers_of r.slots p q) (wrote_of t x.devices) ≡ other_written r x.devices word (merged_of
          (word_at r word) a n v)
      other_put_absent i b m w j k =
          other_put (rw (m, k, ← w) (ap (λ (z : OtherOutcome). stored_outcome (beside r.slots z) x.devices) j))

      -- an other word has no slot
      pub other_own : {s : ℕ} → y ≡ Own s → ⊥
      unfolding other_spot
      other_own {s} m = by (unstored word) (eqb (get_or r.addresses (place r.addresses word) 0) word) (sym m ∙ h)
        where
          by : (b c : Bool) → Own s ≡ cond b Never (cond c (Present (place r.addresses word)) (Absent (place
              r.addresses word))) → ⊥
          by true c g = let z : ◌≡◌ {A = ℕ} 0 1 = cc in omega arith
          by false true g = let z : ◌≡◌ {A = ℕ} 0 1 = cc in omega arith
          by false false g = let z : ◌≡◌ {A = ℕ} 0 1 = cc in omega arith

-- ---- a word that is written

module _ (r : Registers) (rtc page ram sram gpio fb : List ℕ) (x : Parts) (full : Bool) (word old new part : ℕ) where
  abbrev before : World
  before = world r rtc page ram sram gpio fb x.devices

  module _ {t : WriteAnswer} {y : Parts} {slots₁ : List ℕ} (k : t ≡ without_event DONE) where
    pub port_select : {f chip : Chip} {page₁ ram₁ : List ℕ} → port_of word ≡ Select → chip ≡ x.devices.flash
        → flashed slots₁ (chipped f page₁ ram₁) ≡ select_written r.slots chip page ram new → y ≡ flash_put x f
        → out_of (world (registers_of slots₁ r.addresses r.values) rtc page₁ ram₁ sram gpio fb y.devices) t
        ≡ port_written before full word old new part
    unfolding port_written
    port_select h a i e = rw (h, k, e) (ap (λ (z : Flashed). by_flash before z)
        (i ∙ ap (λ (z : Chip). select_written r.slots z page ram new) a))

    -- a transfer changes the answer and the transaction alone
    pub port_send : {f chip : Chip} {page₁ ram₁ : List ℕ} → port_of word ≡ Send → chip ≡ x.devices.flash
        → flashed slots₁ (chipped f page₁ ram₁) ≡ send_written r.slots chip page ram new
        → y ≡ sent_put x f.rx f.tx
        → out_of (world (registers_of slots₁ r.addresses r.values) rtc page₁ ram₁ sram gpio fb y.devices) t
        ≡ port_written before full word old new part
    unfolding port_written
    port_send {f} {chip} h a i e =
        let same : f ≡ sent_with x.devices.flash f.rx f.tx = sent_alone r.slots chip page ram new i
        ∙ ap (λ (z : Chip). sent_with z f.rx f.tx) a in
        rw (h, k, e ∙ ap (λ (z : Chip). flash_put x z) (sym same))
        (ap (λ (z : Flashed). by_flash before z) (i ∙ ap (λ (z : Chip). send_written r.slots z page ram new) a))

    pub port_panel : {q panel : Panel} {fb₁ : List ℕ} → port_of word ≡ LcdControl → panel ≡ x.devices.panel
        → copied slots₁ (screen q fb₁) ≡ controlled r ram sram gpio (screen panel fb) new → y ≡ panel_put x q
        → out_of (world (registers_of slots₁ r.addresses r.values) rtc page ram sram gpio fb₁ y.devices) t
        ≡ port_written before full word old new part
    unfolding port_written
    port_panel h a i e = rw (h, k, e) (ap (λ (z : Copied). by_panel before z)
        (i ∙ ap (λ (z : Panel). controlled r ram sram gpio (screen z fb) new) a))

    pub port_rtc : {l latch : Latch} {times : Times} {rtc₁ : List ℕ} → port_of word ≡ RtcCommand
        → latch ≡ x.devices.latch → times ≡ x.devices.clocks.times
        → rtc_done slots₁ (rtc_of rtc₁ l) ≡ command_written r.slots (rtc_of rtc latch) times.game new
        → y ≡ latch_put x l
        → out_of (world (registers_of slots₁ r.addresses r.values) rtc₁ page ram sram gpio fb y.devices) t
        ≡ port_written before full word old new part
    unfolding port_written
    port_rtc {times = times} h a b i e =
        rw (h, k, e)
        (ap (λ (z : RtcDone). by_rtc before z)
        (i ∙ ap (λ (z : Latch). command_written r.slots (rtc_of rtc z) times.game new) a
        ∙ ap (λ (z : Times). command_written r.slots (rtc_of rtc x.devices.latch) z.game new) b))

module _ (w : World) (full : Bool) (word old new part : ℕ) where
  pub port_acts : {x : OwnOut} (e : Effect) → port_of word ≡ Acts e
      → x ≡ word_written e w.registers.slots w.devices (clock_in w.sram) full word old new part
      → by_word w x ≡ port_written w full word old new part
  unfolding port_written
  port_acts e h k = rw h (ap (by_word w) k)

  -- one that has no storage of its own
  pub port_other : slot_of word ≡ 76 → {x : Stored} → x ≡ other_written w.registers w.devices word new
      → by_store w x ≡ port_written w full word old new part
  unfolding port_written other_written
  port_other none e = rw (e, port_none word none) (by (day_word word))
    where
      by : (b : Bool) → by_store w (cond b (stored w.registers (answer DONE (day_set w.devices (field_of word) new)))
          (stored_word w.registers w.devices word new))
          ≡ written_at (cond b (Acts DayField) Other) w full word old new part
      by true = refl
      by false = refl

-- one that is only stored, by its slot
pub port_holds : (w : World) (full : Bool) (s old new part : ℕ) (p : Port) → s < 76 → port_of (slot_word s) ≡ p →
    Stores p
    → {slots₁ : List ℕ} {t : WriteAnswer} → (slots₁ ≡ set w.registers.slots s new) × (t ≡ without_event DONE)
    → out_of (world (registers_of slots₁ w.registers.addresses w.registers.values) w.rtc w.page w.ram
    w.sram
    w.gpio w.fb w.devices) t ≡ port_written w full (slot_word s) old new part
unfolding port_written stored_word
port_holds w full s old new part p h e b (i, k) =
    let less : slot_of (slot_word s) < 76 = omega (arith, slot_back s h) in
    let put = own_put w.registers (slot_word s) new less in
    rw (e, i, k, slot_stored s h w.registers.slots new)
    (by_stores (λ (q : Port). out_done (world (registers_of (own_with w.registers.slots (slot_word s) new)
    w.registers.addresses
    w.registers.values) w.rtc w.page w.ram w.sram w.gpio w.fb w.devices)
    ≡ written_at q w full (slot_word s) old new part) (λ v. rw put) (rw put) (rw put) p b)

module _ (w : World) (full : Bool) (a n v : ℕ) {s : ℕ} (e : s ≡ slot_of (word_address a)) where
  pub reg_merged : {old new part : ℕ} {x : Out} → s < 76 → old ≡ get_or w.registers.slots s 0
      → new ≡ merged_of old a n v
      → part ≡ written_of a n v → x ≡ port_written w full (slot_word s) old new part → x ≡ reg_written w full a n v
  unfolding reg_written own_at
  reg_merged {old} l h k j i =
      let less : slot_of (word_address a) < 76 = omega arith in
      let o : old ≡ word_at w.registers (word_address a)
      = h ∙ ap (λ (z : ℕ). get_or w.registers.slots z 0) e ∙ sym (own_word w.registers (word_address a) less) in
      let word : slot_word s ≡ word_address a = ap slot_word e ∙ slot_hit (word_address a) less in
      rw (← o, ← k, ← j, ← word) i

  pub reg_else : {x : Stored} → slot_of (word_address a) ≡ 76
      → x ≡ other_written w.registers w.devices (word_address a) (merged_of (word_at w.registers (word_address a))
      a n v)
      → by_store w x ≡ reg_written w full a n v
  unfolding reg_written
  reg_else none i = port_other w full (word_address a) _ _ _ none i

-- ---- any address

-- a memory is stored, or nothing is and the number is 9
sized_out : (b : Bool) (w : List ℕ → World) (l m : List ℕ)
    → out (w (cond b l m)) (cond b 0 9) false ≡ cond b (out_done (w l)) (out (w m) 9 false)
sized_out true w l m = refl
sized_out false w l m = refl

module _ (r : Registers) (rtc page ram sram gpio fb : List ℕ) (d : Devices) (full : Bool) (a n v : ℕ) where
  abbrev there : World
  there = world r rtc page ram sram gpio fb d

  module _ {q : Place} (f : q ≡ place_of a) where
    -- a memory, by the size
    module _ {t : WriteAnswer} {o : ℕ} {l : List ℕ} (j : t ≡ without_event (sized_number n)) where
      pub write_ram : q ≡ Ram o → l ≡ sized_put ram o n v → out_of (world r rtc page l sram gpio fb d) t
          ≡ write_of there full a n v
      unfolding write_of
      write_ram k i =
          rw (j, i, ← f, k) (sized_out (good_size n) (λ (z : List ℕ). world r rtc page z sram gpio fb d)
          (stored_at ram o n v) ram)

      pub write_sram : q ≡ Sram o → l ≡ sized_put sram o n v → out_of (world r rtc page ram l gpio fb d) t
          ≡ write_of there full a n v
      unfolding write_of
      write_sram k i =
          rw (j, i, ← f, k) (sized_out (good_size n) (λ (z : List ℕ). world r rtc page ram z gpio fb d)
          (stored_at sram o n v) sram)

      pub write_gpio : q ≡ Gpio o → l ≡ sized_put gpio o n v → out_of (world r rtc page ram sram l fb d) t
          ≡ write_of there full a n v
      unfolding write_of
      write_gpio k i =
          rw (j, i, ← f, k) (sized_out (good_size n) (λ (z : List ℕ). world r rtc page ram sram z fb d)
          (stored_at gpio o n v) gpio)

    module _ {good : Bool} (e : good ≡ good_size n) where
      pub write_size : {t : WriteAnswer} → not good ≡ true → t ≡ without_event BAD_SIZE
          → out_of there t ≡ write_of there full a n v
      unfolding write_of
      write_size h k = rw (← e, of_not good true h, k)

      module _ (h : not good ≡ false) where
        placed : write_of there full a n v ≡ write_at q there full a n v
        unfolding write_of
        placed = rw (← e, of_not good false h, ← f)

        pub write_register : {z : Out} → q ≡ Register → z ≡ reg_written there full a n v → z ≡ write_of there full a n v
        write_register k i = rw (placed, k) i

        pub write_stray : {t : WriteAnswer} → q ≡ Stray → t ≡ without_event STRAY_WRITE
            → out_of there t ≡ write_of there full a n v
        write_stray k i = rw (placed, k, i)

-- ---- the event

pub noted_put : (a f u : List Float) (x : Parts) {event : Bool} {a₁ f₁ u₁ : List Float} {ring : Ring} {times : Times}
    {tone : Tone} {to : ℕ} {q : Ring} {y : Parts} → event ≡ true
    → ring ≡ x.ring → times ≡ x.devices.clocks.times → tone ≡ x.devices.tone
    → record { refusal = to; queue = queue_of a₁ f₁ u₁ q } ≡ put_of (queue_of a f u ring) (record {
      time = times.now;
      frequency = tone.frequency;
      duty = tone.duty;
    })
    → y ≡ ring_put x q
    → (queue_of a₁ f₁ u₁ y.ring ≡ noted (queue_of a f u x.ring) x.devices event) × (y ≡ ring_put x y.ring)
noted_put a f u x {event} {a₁} {f₁} {u₁} {ring} {times} {tone} {to} {q} {y} h i j k e z =
    let z₁ : y.ring ≡ q = ap (λ (w : Parts). w.ring) z in (
      rw (h, z₁) (ap (λ (o : PutOutcome). o.queue) e
          ∙ ap (λ (w : Ring). (put_of (queue_of a f u w) (record {
            time = times.now;
            frequency = tone.frequency;
            duty
                = tone.duty;
          })).queue) i
          ∙ ap (λ (w : Times). (put_of (queue_of a f u x.ring) (record {
            time = w.now;
            frequency = tone.frequency;
            duty = tone.duty;
          })).queue) j
          ∙ ap (λ (w : Tone). (put_of (queue_of a f u x.ring) (record {
            time = x.devices.clocks.times.now;
            frequency = w.frequency;
            duty = w.duty;
          })).queue) k),
      z ∙ ap (λ (w : Ring). ring_put x w) (sym z₁),
    )

pub noted_none : (a f u : List Float) (x : Parts) {event : Bool} → event ≡ false
    → (queue_of a f u x.ring ≡ noted (queue_of a f u x.ring) x.devices event) × (x ≡ ring_put x x.ring)
noted_none a f u x h = (rw h, refl)

-- ---- the whole

module _ (r : Registers) (rtc page ram sram gpio fb : List ℕ) (l : List ℕ) (v : List Float) (a f u : List Float)
    (addr size value : ℕ) where
  pub write_noted : {r₁ : Registers} {rtc₁ page₁ ram₁ sram₁ gpio₁ fb₁ : List ℕ} {l₁ l₂ : List ℕ} {v₁ : List Float}
      {ring : Ring} {full : Bool} {t : WriteAnswer} {a₁ f₁ u₁ : List Float}
      → ring ≡ (parts_in l v).ring → full ≡ full_of ring
      → (out_of (world r₁ rtc₁ page₁ ram₁ sram₁ gpio₁ fb₁ (parts_in l₁ v₁).devices) t
      ≡ write_of (world r rtc page ram sram gpio fb (parts_in l v).devices) full addr size value)
      × Rest t l v l₁ v₁
      → (queue_of a₁ f₁ u₁ (parts_in l₂ v₁).ring ≡ noted (queue_of a f u (parts_in l₁ v₁).ring) (parts_in l₁
      v₁).devices t.event)
      × (parts_in l₂ v₁ ≡ ring_put (parts_in l₁ v₁) (parts_in l₂ v₁).ring) × StaysPacked l₁ v₁ l₂ v₁ × (t.event ≡ false
      → l₂ ≡ l₁)
      → (together (out_of (world r₁ rtc₁ page₁ ram₁ sram₁ gpio₁ fb₁ (parts_in l₂ v₁).devices) t)
      (queue_of a₁ f₁ u₁ (parts_in l₂ v₁).ring)
      ≡ noted_write (world r rtc page ram sram gpio fb (parts_in l v).devices) (queue_of a f u (parts_in l v).ring)
      addr size value)
      × ((parts_in l₂ v₁).keys ≡ (parts_in l v).keys) × Answered t.refusal l v l₂ v₁
  unfolding noted_write
  write_noted {r₁} {rtc₁} {page₁} {ram₁} {sram₁} {gpio₁} {fb₁} {l₁} {l₂} {v₁} {ring} {full} {t} i j w n =
      let e : out_of (world r₁ rtc₁ page₁ ram₁ sram₁ gpio₁ fb₁ (parts_in l₁ v₁).devices) t
      ≡ write_of (world r rtc page ram sram gpio fb (parts_in l v).devices) (full_of (parts_in l v).ring) addr size
      value
      = w.0 ∙ ap (λ (b : Bool). write_of (world r rtc page ram sram gpio fb (parts_in l v).devices) b addr size value)
      (j ∙ ap (λ (o : Ring). full_of o) i) in
      let d : (parts_in l₂ v₁).devices ≡ (parts_in l₁ v₁).devices = ap (λ (o : Parts). o.devices) n.1 in (
        rw (← e, n.0, d, w.1.only.ring),
        ap (λ (o : Parts). o.keys) n.1 ∙ w.1.only.keys,
        record {
          packed = λ k. n.2 (w.1.packed k);
          still = λ h. let z = w.1.still h in (n.3 z.0 ∙ z.1, z.2);
        },
      )
