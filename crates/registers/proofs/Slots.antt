-- The words by their slots: a rule of all slots is one test, which the checker computes slot by slot.
use Prim.Native.Nat.{ℕ, zero, suc, ◌-◌, ◌/◌, ◌≤◌, ◌<◌}
use mathlib.Core.Path.{◌≡◌, refl, sym, ap, ◌∙◌}
use mathlib.Core.Bool.{Bool, true, false, not, cond, true≢false, ◌&&◌, ◌||◌}
use native.Mathlib.Omega.{arith}
use lib.Dec.{eqb, ltb}
use lib.ListN.{length, get_or-eq_default}
use borrow.Author.Tests.{eqb-true, ltb-true, le-ltb}
use Rattle.map.specs.Numbers.{SPIFC_SELECT, SPIFC_SEND}
use Rattle.registers.specs.declared.Effect.{Effect}
use Rattle.registers.specs.declared.Effect.TheVariants.{TimerControl, DayField, Sound, LcdStatus, Tick}
use Rattle.registers.specs.declared.Effect.TheVariants.{AdcControl, Power, SpiSend}
use Rattle.registers.specs.declared.View.{View}
use Rattle.registers.specs.declared.View.TheVariants.{TimerCounter, SpiAnswer, RtcReady, RtcOut, FlashStatus}
use Rattle.registers.specs.declared.View.TheVariants.{FlashAnswer, ClockStatus, Pending, PendingFiq}
use Rattle.registers.specs.declared.Port.{Port}
use Rattle.registers.specs.declared.Port.TheVariants.{Select, Send, LcdControl, RtcCommand, Acts, Shows, Holds}
use Rattle.registers.specs.declared.Port.TheVariants.{Other}
use Rattle.registers.specs.Ports.{ports_in, port_at, day_word, port_of, timer_of, words_from}
use Rattle.registers.specs.Ports.{named_rows, own_words, index, slot_of, slot_word}
use Rattle.whole.proofs.Choice.{by_same, both, of_not}
use Rattle.registers.proofs.Own.{slot_hit, by_slot}

-- the test passes at each number below n
abbrev pub every : (ℕ → Bool) → ℕ → Bool
every f zero = true
every f (suc n) = f n && every f n

pub at_each : (f : ℕ → Bool) (n : ℕ) → every f n ≡ true → (k : ℕ) → k < n → f k ≡ true
at_each f zero h k l = absurd (omega arith)
at_each f (suc n) h k l =
    by_same k n
    (λ e. ap f e ∙ (both (f n) (every f n) h).0)
    (λ d. at_each f n (both (f n) (every f n) h).1 k (omega arith))

-- past the last slot stands no port
pub port_past : (s : ℕ) → 76 ≤ s → Other ≡ port_at s
unfolding port_at named_rows
port_past s h =
    let low : 48 ≤ s = omega arith in
    let out : length (ports_in named_rows) ≤ s - 48 = omega arith in
    rw (le-ltb s 48 low) (sym (get_or-eq_default (ports_in named_rows) Other out))

-- a slot's word has that slot
back : every (λ s. eqb (slot_of (slot_word s)) s) 76 ≡ true
unfolding slot_of index own_words words_from named_rows
back = refl

pub slot_back : (s : ℕ) → s < 76 → slot_of (slot_word s) ≡ s
slot_back s h = eqb-true _ _ (at_each (λ t. eqb (slot_of (slot_word t)) t) 76 back s h)

-- ---- the ports of the slots

-- a word of the time of day has no slot
no_day : every (λ s. not (day_word (slot_word s))) 76 ≡ true
unfolding day_word own_words words_from named_rows
no_day = refl

pub port_slot : (s : ℕ) → s < 76 → port_of (slot_word s) ≡ port_at s
unfolding port_of
port_slot s h =
    rw (of_not (day_word (slot_word s)) true (at_each (λ t. not (day_word (slot_word t))) 76 no_day s h), slot_back s h)

-- and one without a slot is the time of day's, or no more than stored
pub port_none : (a : ℕ) → slot_of a ≡ 76 → port_of a ≡ cond (day_word a) (Acts DayField) Other
unfolding port_of
port_none a none = rw (none, ← port_past 76 (omega arith))

-- whether a port is one of those of the slots
abbrev slot_effect : Effect → Bool
slot_effect TimerControl = true
slot_effect DayField = false
slot_effect Sound = true
slot_effect LcdStatus = true
slot_effect Tick = true
slot_effect AdcControl = true
slot_effect Power = true
slot_effect SpiSend = true

abbrev pub has_slot : Port → Bool
has_slot Select = true
has_slot Send = true
has_slot LcdControl = true
has_slot RtcCommand = true
has_slot (Acts e) = slot_effect e
has_slot (Shows v) = true
has_slot Holds = true
has_slot Other = false

all_own : every (λ s. has_slot (port_at s)) 76 ≡ true
unfolding port_at named_rows
all_own = refl

pub slot_no_day : (s : ℕ) → s < 76 → port_at s ≡ Acts DayField → ⊥
slot_no_day s h e = true≢false (sym (at_each (λ t. has_slot (port_at t)) 76 all_own s h) ∙ ap has_slot e)

-- a word with such a port has a slot
pub port_own : (a : ℕ) → has_slot (port_of a) ≡ true → slot_of a < 76
port_own a h =
    by_slot a (λ less. less)
    (λ none. absurd (true≢false (sym h ∙ ap has_slot (port_none a none) ∙ outside (day_word a))))
  where
    outside : (b : Bool) → has_slot (cond b (Acts DayField) Other) ≡ false
    outside true = refl
    outside false = refl

-- ---- the timers

-- control and counter are of the timers' slots alone
abbrev timer_effect : Effect → Bool
timer_effect TimerControl = true
timer_effect DayField = false
timer_effect Sound = false
timer_effect LcdStatus = false
timer_effect Tick = false
timer_effect AdcControl = false
timer_effect Power = false
timer_effect SpiSend = false

abbrev timer_view : View → Bool
timer_view TimerCounter = true
timer_view SpiAnswer = false
timer_view RtcReady = false
timer_view RtcOut = false
timer_view FlashStatus = false
timer_view FlashAnswer = false
timer_view ClockStatus = false
timer_view Pending = false
timer_view PendingFiq = false

abbrev pub timers : Port → Bool
timers Select = false
timers Send = false
timers LcdControl = false
timers RtcCommand = false
timers (Acts e) = timer_effect e
timers (Shows v) = timer_view v
timers Holds = false
timers Other = false

timers_first : every (λ s. ltb s 48 || not (timers (port_at s))) 76 ≡ true
unfolding port_at named_rows
timers_first = refl

first : (a b : Bool) → (a || not b) ≡ true → b ≡ true → a ≡ true
first true b h e = refl
first false true h e = h
first false false h e = e

all_timers : every (λ s. eqb (timer_of (slot_word s)) (s / 8)) 48 ≡ true
unfolding own_words words_from named_rows
all_timers = refl

pub slot_timers : (s : ℕ) → s < 76 → timers (port_at s) ≡ true → s < 48
slot_timers s h e =
    ltb-true _ _ (first (ltb s 48) (timers (port_at s))
    (at_each (λ t. ltb t 48 || not (timers (port_at t))) 76 timers_first s h) e)

pub slot_timer_of : (s : ℕ) → s < 76 → timers (port_at s) ≡ true → timer_of (slot_word s) ≡ s / 8
slot_timer_of s h e =
    eqb-true _ _ (at_each (λ t. eqb (timer_of (slot_word t)) (t / 8)) 48 all_timers s (slot_timers s h e))

pub port_timer : (a : ℕ) → port_of a ≡ Acts TimerControl → timer_of a < 6
port_timer a e =
    by_slot a
    (λ less. let w : slot_word (slot_of a) ≡ a = slot_hit a less in
    let p : port_at (slot_of a) ≡ Acts TimerControl = sym (port_slot (slot_of a) less) ∙ ap port_of w ∙ e in
    let n : timer_of a ≡ slot_of a / 8 = ap timer_of (sym w) ∙ slot_timer_of (slot_of a) less (ap timers p) in
    let l = slot_timers (slot_of a) less (ap timers p) in
    omega arith)
    (λ none. absurd (true≢false (sym (ap timers e) ∙ ap timers (port_none a none) ∙ outside (day_word a))))
  where
    outside : (b : Bool) → timers (cond b (Acts DayField) Other) ≡ false
    outside true = refl
    outside false = refl

-- ---- ports that are used by name

pub select_port : port_of SPIFC_SELECT ≡ Select
unfolding port_of day_word port_at slot_of index own_words words_from named_rows
select_port = refl

pub send_port : port_of SPIFC_SEND ≡ Send
unfolding port_of day_word port_at slot_of index own_words words_from named_rows
send_port = refl
