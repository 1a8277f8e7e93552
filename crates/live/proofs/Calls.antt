-- What the entries answer, from what the calls below leave: with BadMemory in front, and as an operation of the bus.
use Prim.Native.Nat.{ℕ, ◌+◌, ◌*◌}
use mathlib.Core.Path.{◌≡◌, refl, ap, ◌∙◌}
use mathlib.Core.Bool.{Bool, true, false}
use mathlib.Core.List.{List}
use mathlib.Core.Logic.{◌≢◌}
use lib.Ieee.{Float}
use lib.ListN.{length}
use Rattle.std.specs.Prelude.{None, Some, Option}
use Rattle.std.specs.Int.{from_bool}
use Rattle.map.specs.Numbers.{DONE, BAD_MEMORY}
use Rattle.whole.specs.Forms.{nought, bit}
use Rattle.block.specs.Block as block
use Rattle.block.specs.Block.{Plain, plain, peek_of, peeked32, laid_of}
use Rattle.panel.specs.Entries.{picture_of}
use Rattle.clock.specs.declared.Times.{Times}
use Rattle.clock.specs.Rtc as rtc
use Rattle.keys.specs.declared.Keys.{Keys}
use Rattle.keys.specs.Live as live
use Rattle.keys.specs.declared.Held.{Held}
use Rattle.state.specs.Packed.{cells_of, floats_of}
use Rattle.time.specs.Next.{NextTime}
use Rattle.system.specs.declared.System.{System}
use Rattle.system.specs.Calls.{Changed}
use Rattle.system.specs.Calls.{Read}
use Rattle.system.specs.System.{Machine, machine, left}
use Rattle.system.specs.Bank.{fresh_parts}
use Rattle.system.specs.Calls.{changed, Moved, moved, read_of, write_of, advance_of, next_of, turbo_of, pending_of}
use Rattle.system.specs.Calls.{wanted_of}
use Rattle.system.specs.Calls.{live_of, hold_of, press_of, held_of, wiped_of}
use Rattle.system.specs.Steps as steps
use Rattle.system.specs.Steps.{Op, Outcome, step, words, plainly, floats, with_system, by_change, by_read, by_left}
use Rattle.system.specs.Steps.{by_move}
use Rattle.system.specs.Steps.{by_next, by_poke}
use Rattle.live.specs.Live.{alarm_seen, alarm_of}
use Rattle.live.specs.Live.{notAUnit, called, Zeroed, block_seen, seen_of, block_of, screen_seen, screen_of}

-- ---- a flag, as hosts get it

flag_is : (b : Bool) → from_bool b ≡ bit b
flag_is true = refl
flag_is false = refl

pub flag_number : (b : Bool) {n : ℕ} → n ≡ from_bool b → n ≡ bit b
flag_number b e = e ∙ flag_is b

-- ---- 7, or the operation

module _ (m : Machine) (o : Op) {b : Bool} (e : b ≡ notAUnit m) where
  pub called_bad : b ≡ true → plainly m BAD_MEMORY ≡ called m o
  unfolding called
  called_bad h = rw (← e, h)

  pub called_good : {x : Outcome} → b ≡ false → x ≡ step m o → x ≡ called m o
  unfolding called
  called_good h i = rw (← e, h) i

-- ---- each operation

module _ (m : Machine) where
  pub stepped_read : (a n : ℕ) {x : Read} → x ≡ read_of m.system m.ram m.sram m.gpio a n
      → words (with_system m x.system) x.refusal x.value 0 0 ≡ step m (steps.read a n)
  unfolding step
  stepped_read a n h = ap (λ (z : Read). by_read m z) h

  pub stepped_write : (a n v : ℕ) {m₁ : Machine} {r : ℕ} → left m₁ r ≡ write_of m a n v
      → plainly m₁ r ≡ step m (steps.write a n v)
  unfolding step
  stepped_write a n v h = ap by_left h

  pub stepped_advance : (t : Float) {s : System} {r : ℕ} {gpio : List ℕ}
      → moved (changed r s) gpio ≡ advance_of m.system m.sram m.gpio t
      → plainly (machine s m.ram m.sram gpio m.fb) r ≡ step m (steps.advance t)
  unfolding step
  stepped_advance t h = ap (λ (z : Moved). by_move m z) h

  pub stepped_next : {x : NextTime} → x ≡ next_of m.system m.sram
      → floats m x.refusal x.time nought nought ≡ step m steps.next_event
  unfolding step
  stepped_next h = ap (λ (z : NextTime). by_next m z) h

  pub stepped_pending : {n : ℕ} → n ≡ pending_of m.system → words m 0 n 0 0 ≡ step m steps.pending
  unfolding step
  stepped_pending h = rw h

  pub stepped_wanted : {b : Bool} {n : ℕ} → n ≡ bit b → b ≡ wanted_of m.system
      → words m 0 n 0 0 ≡ step m steps.irq_wanted
  unfolding step
  stepped_wanted h i = rw (h, i)

  -- a call that answers nothing but its number
  stepped_change : (o : Op) (x : Changed) → step m o ≡ by_change m x → {r : ℕ} {s : System} → changed r s ≡ x
      → plainly (with_system m s) r ≡ step m o
  stepped_change o x d h = rw d (ap (λ (z : Changed). by_change m z) h)

  pub stepped_turbo : (t : Float) {r : ℕ} {s : System} → changed r s ≡ turbo_of m.system t
      → plainly (with_system m s) r ≡ step m (steps.turbo t)
  unfolding step
  stepped_turbo t h = stepped_change (steps.turbo t) (turbo_of m.system t) refl h

  pub stepped_live : (k : ℕ) (down : Bool) {r : ℕ} {s : System} → changed r s ≡ live_of m.system k down
      → plainly (with_system m s) r ≡ step m (steps.live k down)
  unfolding step
  stepped_live k down h = stepped_change (steps.live k down) (live_of m.system k down) refl h

  pub stepped_hold : (k : ℕ) (t : Float) {r : ℕ} {s : System} → changed r s ≡ hold_of m.system k t
      → plainly (with_system m s) r ≡ step m (steps.hold k t)
  unfolding step
  stepped_hold k t h = stepped_change (steps.hold k t) (hold_of m.system k t) refl h

  pub stepped_press : (k : ℕ) (t : Float) {r : ℕ} {s : System} → changed r s ≡ press_of m.system k t
      → plainly (with_system m s) r ≡ step m (steps.press k t)
  unfolding step
  stepped_press k t h = stepped_change (steps.press k t) (press_of m.system k t) refl h

  pub stepped_held : {k : Keys} {t : Times} {x : Held} {n : ℕ} → k ≡ m.system.keys
      → t ≡ m.system.devices.clocks.times
      → x ≡ live.held_of m.system.presses.starts m.system.presses.codes k t.now
      → n ≡ bit x.a + bit x.b * 2 + bit x.c * 4 → words m 0 n 0 0 ≡ step m steps.keys_held
  unfolding step held_of
  stepped_held d e h i = rw (i, h, d, e)

  pub stepped_counters : {a b o : ℕ} {off : Bool} → a ≡ m.system.devices.panel.pen.frames
      → b ≡ m.system.devices.flash.writes → off ≡ m.system.devices.off → o ≡ bit off
      → words m 0 a b o ≡ step m steps.counters
  unfolding step
  stepped_counters h i j k = rw (h, i, k, j)

  pub stepped_peek8 : (a : ℕ) {n : ℕ} → n ≡ peek_of m.system.registers m.ram m.sram m.gpio a
      → words m DONE n 0 0 ≡ step m (steps.peek8 a)
  unfolding step
  stepped_peek8 a h = rw h

  pub stepped_peek32 : (a : ℕ) {n : ℕ} → n ≡ peeked32 m.system.registers m.ram m.sram m.gpio a
      → words m DONE n 0 0 ≡ step m (steps.peek32 a)
  unfolding step
  stepped_peek32 a h = rw h

  pub stepped_poke : (a : ℕ) (l : List ℕ) {x : Plain} → x ≡ laid_of (plain m.ram m.sram m.gpio) a l
      → plainly (machine m.system x.ram x.sram x.gpio m.fb) DONE ≡ step m (steps.poke a l)
  unfolding step
  stepped_poke a l h = ap (λ (z : Plain). by_poke m z) h

-- ---- the alarm

module _ (m : Machine) {x : Option ℕ} (e : x ≡ rtc.alarm_of m.system.rtc) where
  pub alarm_off : x ≡ None → alarm_seen 0 0 ≡ alarm_of m
  alarm_off h = rw (← e, h)

  pub alarm_on : (t : ℕ) → x ≡ Some t → alarm_seen 1 t ≡ alarm_of m
  alarm_on t h = rw (← e, h)

-- ---- wipe, block, screen

pub wiped_still : (n : ℕ) (l : List ℕ) (f : List Float) → n ≢ DONE → Zeroed n l f l f
wiped_still n l f h = record { fresh = λ e. absurd (h e); still = λ _. (refl, refl) }

pub wiped_fresh : (l l' : List ℕ) (f f' : List Float) → (l' ≡ cells_of fresh_parts) × (f' ≡ floats_of fresh_parts)
    → Zeroed DONE l f l' f'
wiped_fresh l l' f f' e = record { fresh = λ _. e; still = λ h. absurd (h refl) }

pub stepped_wipe : (m : Machine) {m₁ : Machine}
    → m₁ ≡ wiped_of (length m.ram) (length m.sram) (length m.gpio) (length m.fb)
    → plainly m₁ DONE ≡ step m steps.wipe
unfolding step
stepped_wipe m h = ap (λ (z : Machine). plainly z DONE) h

module _ (m : Machine) {b : Bool} (e : b ≡ notAUnit m) where
  module _ (a : ℕ) (l : List ℕ) where
    pub block_refused : b ≡ true → block_seen BAD_MEMORY 0 l ≡ block_of m a l
    unfolding block_of
    block_refused h = rw (← e, h)

    pub block_read : {w : Bool} {n : ℕ} {l₁ : List ℕ} → b ≡ false → n ≡ bit w
        → block.block w l₁ ≡ block.read_of m.system.registers m.ram m.sram m.gpio a (length l)
        → block_seen DONE n l₁ ≡ block_of m a l
    unfolding block_of
    block_read h i j = rw (← e, h, i) (ap seen_of j)

  module _ (l : List ℕ) where
    pub screen_refused : b ≡ true → screen_seen BAD_MEMORY l ≡ screen_of m l
    unfolding screen_of
    screen_refused h = rw (← e, h)

    pub screen_laid : {k n : ℕ} {l₁ : List ℕ} → b ≡ false → n ≡ k → screen_seen k l₁ ≡ picture_of m.fb l
        → screen_seen n l₁ ≡ screen_of m l
    unfolding screen_of
    screen_laid h i j = rw (← e, h, i) j
