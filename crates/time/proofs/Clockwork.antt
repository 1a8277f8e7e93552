-- Time over the bank.
use Rattle.std.proofs.Common.{◌≡◌, ℕ, zero, suc, ◌+◌, ◌<◌, Bool, true, false, cond, not, ltb, List, [], ◌∷◌, get_or}
use Rattle.std.proofs.Common.{set, sym, refl, ap, ◌∙◌, arith, ltb-true, lt-ltb, eq-eqb}
use mathlib.Core.Bool.{false≢true}
use lib.Bits.{bit_and, bit_or}
use lib.Ieee.{Float, nan}
use Rattle.std.specs.Prelude.{Err, Ok}
use Rattle.map.specs.declared.refusals.Refusal.{Refusal}
use Rattle.map.specs.Refusals.{code_of}
use Rattle.map.specs.Numbers.{DONE, TIMER_COUNT, ADC_CONTROL, ADC_RESULT, LCD_STATUS, RTC_IRQ_STATUS}
use Rattle.registers.specs.Words.{own_at, own_with}
use Rattle.registers.specs.Ports.{slot_of}
use Rattle.clock.specs.declared.Times.{Times}
use Rattle.clock.specs.declared.RtcIrq.{RtcIrq}
use Rattle.clock.specs.declared.Signal.{Signal}
use Rattle.clock.specs.declared.Ticked.{Ticked}
use Rattle.clock.specs.declared.Adc.{Adc}
use Rattle.clock.specs.Times.{Moved}
use Rattle.clock.specs.Times.{moved_of}
use Rattle.clock.specs.Sources.{signal_of, vsync_of, tick_of, ticked_of}
use Rattle.clock.specs.Adc.{converted_of}
use Rattle.keys.specs.declared.Held.{Held}
use Rattle.keys.specs.declared.Keys.{Keys}
use Rattle.keys.specs.Live.{held_of}
use Rattle.keys.specs.Lines.{lines, sync_of}
use Rattle.timer.specs.declared.Timer.{Timer}
use Rattle.timer.specs.Timers.{advanced_of, resynced_of}
use Rattle.time.specs.Clocks.{clock_in, control_word, reload_word}
use Rattle.time.specs.Advance as move
use Rattle.time.specs.Advance.{timer_after, timers_after, synced_of, converted_in, ticked_in, devices_of, Outcome}
use Rattle.time.specs.Advance.{outcome, moved_to, by_move, advance_of}
use Rattle.time.specs.Resync.{timers_resynced, clocks_resynced}
use Rattle.state.specs.declared.Clocks.{Clocks}
use Rattle.state.specs.declared.Parts.{Parts}
use Rattle.state.specs.Parts.{none, timers_put, timer_put, times_put, vsync_put, converting_put, irq_put, applied_put}
use Rattle.state.specs.Parts.{clocks_put}
use Rattle.state.specs.Each.{list_of}
use Rattle.state.specs.Bank.{times_in, timer_in, timers_in, clocks_in, parts_in}
use Rattle.state.specs.Packed.{timer_floats}
use Rattle.state.proofs.Puts.{timer_got}
use Rattle.time.specs.Bank.{MovedBank, moved_bank, moves_of}
use Rattle.time.specs.Inner.{Went, went, synced_put, converted_put, ticked_put, went_of}

-- ---- where nothing happens the same values would be put back, which changes nothing

put_same : {A : Type 0} (l : List A) (i : ℕ) (d : A) → set l i (get_or l i d) ≡ l
put_same [] i d = refl
put_same (x ∷ xs) zero d = refl
put_same (x ∷ xs) (suc i) d = ap (λ (z : List _). x ∷ z) (put_same xs i d)

own_same : (slots : List ℕ) (a : ℕ) {v : ℕ} → v ≡ own_at slots a → slots ≡ own_with slots a v
unfolding own_at own_with
own_same slots a e = sym (ap (λ (z : ℕ). own_with slots a z) e ∙ put_same slots (slot_of a) 0)

-- no more periods than were seen leave the status alone
signal_still : (n seen status bit : ℕ) {s : Signal} → s ≡ signal_of n seen status bit → s.seen ≡ seen
    → s.status ≡ status
unfolding signal_of
signal_still n seen status bit e h =
    ap (λ (z : Signal). z.status) e ∙ by (ltb seen n) refl (ap (λ (z : Signal). z.seen) (sym e) ∙ h)
  where
    either : Bool → Signal
    either b = cond b (record { seen = n; status = bit_or status bit }) (record { seen = seen; status = status })

    by : (b : Bool) → ltb seen n ≡ b → (either b).seen ≡ seen → (either b).status ≡ status
    by true l z = let m : seen < n = ltb-true seen n l in absurd (omega arith)
    by false l z = refl

-- ---- the timers

pub timer_stepped : (slots l : List ℕ) (f : List Float) (n : ℕ) (now : Float) (clock : ℕ) {control reload : ℕ}
    {t r : Timer} {y : Parts}
    → control ≡ control_word slots n → reload ≡ reload_word slots n → t ≡ get_or (timers_in l f) n none
    → r ≡ advanced_of t now clock control reload → y ≡ timer_put (parts_in l f) n r
    → y ≡ timer_put (parts_in l f) n (timer_after slots n (get_or (timers_in l f) n none) now clock)
unfolding timer_after
timer_stepped slots l f n now clock c d e h i = rw (i, h, e, c, d)

-- a timer that does not run
pub timer_stays : (slots l : List ℕ) (f : List Float) (n : ℕ) (now : Float) (clock : ℕ) {control : ℕ}
    → control ≡ control_word slots n → bit_and control 0x2000 ≡ 0
    → parts_in l f ≡ timer_put (parts_in l f) n (timer_after slots n (get_or (timers_in l f) n none) now clock)
unfolding advanced_of
timer_stays slots l f n now clock {control} c h =
    let t : Timer = get_or (timers_in l f) n none in
    timer_stepped slots l f n now clock {reload = reload_word slots n} {t = t} {r = t} c refl refl (rw (eq-eqb _ _ h))
    (ap (λ (z : List Timer). timers_put (parts_in l f) z) (sym (put_same (timers_in l f) n none)))

-- timer n by a step of its own, and the six one after the other
abbrev pub stepped : (ℕ → Timer → Timer) → Parts → ℕ → Parts
stepped s x n = timer_put x n (s n (get_or x.devices.clocks.timers n none))

timers_by : (s : ℕ → Timer → Timer) (l : List ℕ) (f : List Float) {a b c d e g : Parts}
    → a ≡ stepped s (parts_in l f) 0 → b ≡ stepped s a 1 → c ≡ stepped s b 2 → d ≡ stepped s c 3 → e ≡ stepped s d 4
    → g ≡ stepped s e 5
    → g ≡ timers_put (parts_in l f) (list_of (λ n. s n (get_or (timers_in l f) n none)) 0 TIMER_COUNT)
timers_by s l f h i j k m n = rw (n, m, k, j, i, h)

abbrev pub advancing : List ℕ → Float → ℕ → ℕ → Timer → Timer
advancing slots now clock n t = timer_after slots n t now clock

pub timers_stepped : (slots l : List ℕ) (f : List Float) (now : Float) (clock : ℕ) {a b c d e g : Parts}
    → a ≡ stepped (advancing slots now clock) (parts_in l f) 0 → b ≡ stepped (advancing slots now clock) a 1
    → c ≡ stepped (advancing slots now clock) b 2 → d ≡ stepped (advancing slots now clock) c 3
    → e ≡ stepped (advancing slots now clock) d 4 → g ≡ stepped (advancing slots now clock) e 5
    → g ≡ timers_put (parts_in l f) (timers_after slots (timers_in l f) now clock)
unfolding timers_after
timers_stepped slots l f now clock h i j k m n = timers_by (advancing slots now clock) l f h i j k m n

-- ---- the timers counted anew

pub timer_resynced : (slots l : List ℕ) (f : List Float) (n : ℕ) (now : Float) (clock : ℕ) {control reload : ℕ}
    {t r : Timer} {y : Parts}
    → control ≡ control_word slots n → reload ≡ reload_word slots n → t ≡ get_or (timers_in l f) n none
    → r ≡ resynced_of t now clock control reload → y ≡ timer_put (parts_in l f) n r
    → y ≡ timer_put (parts_in l f) n
    (resynced_of (get_or (timers_in l f) n none) now clock (control_word slots n) (reload_word slots n))
timer_resynced slots l f n now clock c d e h i = rw (i, h, e, c, d)

-- its start is put back as it was
pub start_same : (l : List ℕ) (f : List Float) (n : ℕ) (now : Float) (clock control reload : ℕ) {t r : Timer}
    {g : List Float} → n < TIMER_COUNT → t ≡ get_or (timers_in l f) n none → r ≡ resynced_of t now clock control reload
    → g ≡ timer_floats f n r → g ≡ f
unfolding resynced_of timer_floats timer_in
start_same l f n now clock control reload less e h i =
    rw (i, h, e, ← timer_got l f n less, lt-ltb n TIMER_COUNT less) (put_same f (3 + n) nan)

abbrev pub resyncing : List ℕ → Float → ℕ → ℕ → Timer → Timer
resyncing slots now clock n t = resynced_of t now clock (control_word slots n) (reload_word slots n)

pub timers_resynced_lem : (slots l : List ℕ) (f : List Float) (now : Float) (clock : ℕ) {a b c d e g : Parts}
    → a ≡ stepped (resyncing slots now clock) (parts_in l f) 0 → b ≡ stepped (resyncing slots now clock) a 1
    → c ≡ stepped (resyncing slots now clock) b 2 → d ≡ stepped (resyncing slots now clock) c 3
    → e ≡ stepped (resyncing slots now clock) d 4 → g ≡ stepped (resyncing slots now clock) e 5
    → g ≡ timers_put (parts_in l f) (timers_resynced slots (timers_in l f) now clock)
unfolding timers_resynced
timers_resynced_lem slots l f now clock h i j k m n = timers_by (resyncing slots now clock) l f h i j k m n

pub clocks_resynced_lem : (slots l : List ℕ) (f : List Float) (sram : List ℕ) {times : Times} {clock : ℕ} {y : Parts}
    → times ≡ times_in f → clock ≡ clock_in sram
    → y ≡ timers_put (parts_in l f) (timers_resynced slots (timers_in l f) times.now clock)
    → y ≡ clocks_put (parts_in l f) (clocks_resynced slots (clocks_in l f) (clock_in sram))
unfolding clocks_resynced
clocks_resynced_lem slots l f sram e c h = rw (h, c, e)

module _ (slots : List ℕ) (x : Parts) where
  pub vsync_went : (now : Float) {status last : ℕ} {s : Signal} {o : List ℕ} {y : Parts}
      → status ≡ own_at slots LCD_STATUS → last ≡ x.devices.clocks.vsync → s ≡ vsync_of last now status
      → o ≡ own_with slots LCD_STATUS s.status → y ≡ vsync_put x s.seen
      → went o y ≡ synced_put x (synced_of slots x.devices.clocks.vsync now)
  unfolding synced_of
  vsync_went now a b e h i = rw (h, i, e, b, a)

  pub adc_went : {control result : ℕ} {on : Bool} {adc : Adc} {mid o : List ℕ} {y : Parts}
      → control ≡ own_at slots ADC_CONTROL → result ≡ own_at slots ADC_RESULT
      → on ≡ x.devices.clocks.converting
      → adc ≡ converted_of (record { converting = on; control = control; result = result })
      → mid ≡ own_with slots ADC_RESULT adc.result
      → o ≡ own_with mid ADC_CONTROL adc.control → y ≡ converting_put x adc.converting
      → went o y ≡ converted_put x (converted_in slots x.devices.clocks.converting)
  unfolding converted_in
  adc_went a b c e h i j = rw (i, h, j, e, c, a, b)

  pub irq_went : (game : Float) {status : ℕ} {irq : RtcIrq} {t : Ticked} {o : List ℕ} {y : Parts}
      → status ≡ own_at slots RTC_IRQ_STATUS → irq ≡ x.devices.clocks.irq → t ≡ ticked_of irq game status
      → o ≡ own_with slots RTC_IRQ_STATUS t.status → y ≡ irq_put x t.irq
      → went o y ≡ ticked_put x (ticked_in slots x.devices.clocks.irq game)
  unfolding ticked_in
  irq_went game a b e h i = rw (h, i, e, b, a)

  -- no period has passed
  pub vsync_stays : (now : Float) {status last : ℕ} {s : Signal} → status ≡ own_at slots LCD_STATUS
      → last ≡ x.devices.clocks.vsync → s ≡ vsync_of last now status → s.seen ≡ last
      → went slots x ≡ synced_put x (synced_of slots x.devices.clocks.vsync now)
  vsync_stays now a b e h =
      vsync_went now a b e (own_same slots LCD_STATUS (signal_still _ _ _ _ e h ∙ a))
      (ap (λ (v : ℕ). vsync_put x v) (sym (h ∙ b)))

  -- nothing converts
  pub adc_stays : {on : Bool} → on ≡ x.devices.clocks.converting → not on ≡ true
      → went slots x ≡ converted_put x (converted_in slots x.devices.clocks.converting)
  unfolding converted_of
  adc_stays {on = true} c h = absurd (false≢true h)
  adc_stays {on = false} c h =
      let adc : Adc = record {
        converting = false;
        control = own_at slots ADC_CONTROL;
        result = own_at slots
            ADC_RESULT;
      }
      in
      adc_went {adc = adc} refl refl c refl
      (own_same slots ADC_RESULT refl) (own_same slots ADC_CONTROL refl) (ap (λ (b : Bool). converting_put x b) (sym c))

  -- no second has passed
  pub irq_stays : (game : Float) {status : ℕ} {irq : RtcIrq} {t : Ticked} → status ≡ own_at slots RTC_IRQ_STATUS
      → irq ≡ x.devices.clocks.irq → t ≡ ticked_of irq game status → t.irq.fired ≡ irq.fired
      → went slots x ≡ ticked_put x (ticked_in slots x.devices.clocks.irq game)
  irq_stays game {status} {irq} {t} a b e h =
      let k : (tick_of irq.fired game status).seen ≡ irq.fired = ap (λ (z : Ticked). z.irq.fired) (sym e) ∙ h in
      let s : t.status ≡ status
      = ap (λ (z : Ticked). z.status) e ∙ signal_still _ _ _ _ {s = tick_of irq.fired game status} refl k in
      let i : t.irq ≡ irq
      = ap (λ (z : Ticked). z.irq) e ∙ ap (λ (z : ℕ). record { fired = z; base = irq.base; set = irq.set }) k in
      irq_went game a b e (own_same slots RTC_IRQ_STATUS (s ∙ a)) (ap (λ (z : RtcIrq). irq_put x z) (sym (i ∙ b)))

pub devices_went : (slots : List ℕ) (x : Parts) (clock : ℕ) (t : Times) {o₁ o₂ o₃ : List ℕ} {x₁ x₂ x₃ x₄ x₅ : Parts}
    → x₁ ≡ timers_put x (timers_after slots x.devices.clocks.timers t.now clock)
    → went o₁ x₂ ≡ synced_put x₁ (synced_of slots x₁.devices.clocks.vsync t.now)
    → went o₂ x₃ ≡ converted_put x₂ (converted_in o₁ x₂.devices.clocks.converting)
    → went o₃ x₄ ≡ ticked_put x₃ (ticked_in o₂ x₃.devices.clocks.irq t.game)
    → x₅ ≡ times_put x₄ t → went o₃ x₅ ≡ went_of x (devices_of slots x.devices.clocks clock t)
unfolding devices_of
devices_went slots x clock t {o₁} {o₂} {o₃} {x₁} {x₂} {x₃} {x₄} {x₅} a b c d e =
    let b₀ : o₁ ≡ (synced_of slots x₁.devices.clocks.vsync t.now).slots = ap (λ (z : Went). z.slots) b in
    let b₁ : x₂ ≡ vsync_put x₁ (synced_of slots x₁.devices.clocks.vsync t.now).vsync = ap
    (λ (z : Went). z.parts) b in
    let c₀ : o₂ ≡ (converted_in o₁ x₂.devices.clocks.converting).slots = ap (λ (z : Went). z.slots) c in
    let c₁ : x₃ ≡ converting_put x₂ (converted_in o₁ x₂.devices.clocks.converting).converting = ap
    (λ (z : Went). z.parts) c in
    let d₀ : o₃ ≡ (ticked_in o₂ x₃.devices.clocks.irq t.game).slots = ap (λ (z : Went). z.slots) d in
    let d₁ : x₄ ≡ irq_put x₃ (ticked_in o₂ x₃.devices.clocks.irq t.game).irq = ap (λ (z : Went). z.parts) d in
    rw (e, d₁, d₀, c₁, c₀, b₁, b₀, a)

moved_to_lem : (slots gpio : List ℕ) (starts : List Float) (codes : List ℕ) (c : Clocks) (k : Keys) (clock : ℕ)
    (t : Times)
    (slots₁ gpio₁ : List ℕ) (clocks : Clocks) (held : Held) (applied : ℕ)
    → move.devices slots₁ clocks ≡ devices_of slots c clock t
    → held ≡ held_of starts codes k t.now
    → lines gpio₁ applied ≡ sync_of gpio k.applied held → outcome slots₁ gpio₁ 0 clocks applied
    ≡ moved_to slots gpio starts codes c k clock t
unfolding moved_to
moved_to_lem slots gpio starts codes c k clock t slots₁ gpio₁ clocks held applied d h l = rw (← d, ← h, ← l)

module _ (slots gpio : List ℕ) (starts : List Float) (codes : List ℕ) (x : Parts) (clock : ℕ) where
  pub moved_went : (t : Times) {slots₁ gpio₁ : List ℕ} {y z : Parts} {k : Keys} {held : Held} {applied : ℕ}
      → went slots₁ y ≡ went_of x (devices_of slots x.devices.clocks clock t)
      → k ≡ y.keys → held ≡ held_of starts codes k t.now → lines gpio₁ applied ≡ sync_of gpio k.applied held
      → z ≡ applied_put y applied
      → moved_bank slots₁ gpio₁ DONE z
      ≡ moves_of x (moved_to slots gpio starts codes x.devices.clocks x.keys clock t)
  moved_went t {slots₁} {gpio₁} {y} {z} {k} {held} {applied} d h i l e =
      let p : y ≡ clocks_put x (devices_of slots x.devices.clocks clock t).clocks = ap (λ (w : Went). w.parts) d in
      let q : k ≡ x.keys = h ∙ ap (λ (w : Parts). w.keys) p in
      let c : move.devices slots₁ y.devices.clocks ≡ devices_of slots x.devices.clocks clock t = ap
      (λ (w : Went). move.devices w.slots w.parts.devices.clocks) d in
      let s : outcome slots₁ gpio₁ 0 y.devices.clocks applied
      ≡ moved_to slots gpio starts codes x.devices.clocks x.keys clock t
      = moved_to_lem slots gpio starts codes x.devices.clocks x.keys clock t slots₁ gpio₁
      y.devices.clocks held applied c
      (rw q at i) (rw q at l) in
      let u : z ≡ applied_put (clocks_put x y.devices.clocks) applied = e ∙ ap (λ (w : Parts). applied_put w applied)
      (p ∙ ap (λ (w : Parts). clocks_put x w.devices.clocks) (sym p)) in
      ap (λ (w : Parts). moved_bank slots₁ gpio₁ DONE w) u ∙ ap (λ (w : Outcome). moves_of x w) s

module _ (slots gpio : List ℕ) (starts : List Float) (codes : List ℕ) (x : Parts) (sram : List ℕ) (m : Moved) where
  pub goes : (t : Times) {clock : ℕ} {r : MovedBank} → m ≡ Ok t → clock ≡ clock_in sram
      → r ≡ moves_of x (moved_to slots gpio starts codes x.devices.clocks x.keys clock t)
      → r ≡ moves_of x (by_move slots gpio starts codes x.devices.clocks x.keys (clock_in sram) m)
  unfolding by_move
  goes t h c i = rw (h, ← c) i

  pub rests : (r : Refusal) → m ≡ Err r → moved_bank slots gpio (code_of r) x
      ≡ moves_of x (by_move slots gpio starts codes x.devices.clocks
      x.keys (clock_in sram) m)
  unfolding by_move
  rests r h = rw h

  pub goes_by : (to : Float) {times₀ : Times} {r : MovedBank} → times₀ ≡ x.devices.clocks.times
      → m ≡ moved_of times₀ to
      → r ≡ moves_of x (by_move slots gpio starts codes x.devices.clocks x.keys (clock_in sram) m)
      → r ≡ moves_of x (advance_of slots gpio starts codes x.devices.clocks x.keys (clock_in sram) to)
  unfolding advance_of
  goes_by to h e i = let k : m ≡ moved_of x.devices.clocks.times to = e ∙ ap (λ (z : Times). moved_of z to) h in rw
      (← k) i
