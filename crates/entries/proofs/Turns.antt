-- What each kind of entry does, from what the calls leave.
use Prim.Native.Nat.{ℕ, ◌<◌, ◌%◌, ◌^◌}
use native.Mathlib.Omega.{arith}
use mathlib.Core.Path.{◌≡◌, refl, ap, ◌∙◌}
use mathlib.Core.Bool.{Bool, true, false, not}
use mathlib.Core.List.{List}
use lib.Dec.{eqb}
use lib.Ieee.{binary64, of_bits, to_bits, ne}
use lib.ListN.{length}
use borrow.Author.Tests.{lt-ltb, le-ltb, lt-leb}
use Rattle.map.specs.Numbers.{PRESS, READ, WRITE, ADVANCE, NEXT, PENDING, TURBO, KEY, HOLD, SOUND, COUNTERS, COLOUR}
use Rattle.map.specs.Numbers.{WIPE, DONE, BAD_SCRIPT}
use Rattle.whole.specs.Forms.{bits_of, nought}
use Rattle.whole.proofs.Choice.{by_less}
use Rattle.registers.proofs.Cases.{Missed, count_from, past_missed}
use Rattle.panel.specs.declared.Colours.{Colours}
use Rattle.panel.specs.Colour.{pixel_at}
use Rattle.timer.specs.declared.Event.{Event}
use Rattle.time.specs.Next.{NextTime}
use Rattle.system.specs.declared.System.{System}
use Rattle.system.specs.Calls.{Changed}
use Rattle.system.specs.Calls.{Read}
use Rattle.system.specs.Calls.{Taken}
use Rattle.system.specs.System.{Machine, machine, Left, left}
use Rattle.system.specs.Calls.{changed, Moved, moved, read_of, write_of, advance_of, next_of, turbo_of, pending_of}
use Rattle.system.specs.Calls.{take_of}
use Rattle.system.specs.Calls.{live_of, hold_of, press_of, wiped_of}
use Rattle.system.specs.Steps as steps
use Rattle.system.specs.Steps.{Op, step, with_system, by_change}
use Rattle.entries.specs.declared.Entry.{Entry}
use Rattle.entries.specs.declared.Answer.{Answer}
use Rattle.entries.specs.Answers.{answer_laid, laid_within, reply, in_bits, reply_of}
use Rattle.entries.specs.Inner.{sound_reply, counters_reply}
use Rattle.entries.specs.Inner.{colour_reply}
use Rattle.entries.specs.Turn.{last_kind, kind_in, Turn, turn, turn_of, op_of, run_state, after_entry, after_step}

pub no_bits : bits_of nought ≡ 0
unfolding bits_of to_bits of_bits ne
no_bits = refl

module _ (m : Machine) (e : Entry) where
  by_op : (o : Op) (b : Bool) → op_of e ≡ o → in_bits e.kind ≡ b
      → turn (step m o).machine (reply_of b (step m o)) ≡ turn_of m e
  unfolding turn_of
  by_op o b h k = rw (h, k)

  -- a call that answers nothing but its number
  by_changed : (o : Op) (x : Changed) → step m o ≡ by_change m x → op_of e ≡ o → in_bits e.kind ≡ false
      → {n : ℕ} {s : System} {a : Answer} → changed n s ≡ x
      → a ≡ reply n 0 0 0 → turn (with_system m s) a ≡ turn_of m e
  unfolding reply_of
  by_changed o x d h k i j =
      rw j (ap (λ (z : Changed). turn (with_system m z.system) (reply z.refusal 0 0 0)) i)
      ∙ rw d at (by_op o false h k)

  pub turn_press : e.kind ≡ PRESS → {n : ℕ} {s : System} {a : Answer}
      → changed n s ≡ press_of m.system e.address (of_bits binary64 e.value) → a ≡ reply n 0 0 0
      → turn (with_system m s) a ≡ turn_of m e
  unfolding op_of in_bits step
  turn_press k i j = by_changed (steps.press e.address (of_bits binary64 e.value)) _ refl (rw k) (rw k) i j

  pub turn_turbo : e.kind ≡ TURBO → {n : ℕ} {s : System} {a : Answer}
      → changed n s ≡ turbo_of m.system (of_bits binary64 e.value) → a ≡ reply n 0 0 0
      → turn (with_system m s) a ≡ turn_of m e
  unfolding op_of in_bits step
  turn_turbo k i j = by_changed (steps.turbo (of_bits binary64 e.value)) _ refl (rw k) (rw k) i j

  pub turn_live : e.kind ≡ KEY → {n : ℕ} {s : System} {a : Answer}
      → changed n s ≡ live_of m.system e.address (not (eqb e.value 0)) → a ≡ reply n 0 0 0
      → turn (with_system m s) a ≡ turn_of m e
  unfolding op_of in_bits step
  turn_live k i j = by_changed (steps.live e.address (not (eqb e.value 0))) _ refl (rw k) (rw k) i j

  pub turn_hold : e.kind ≡ HOLD → {n : ℕ} {s : System} {a : Answer}
      → changed n s ≡ hold_of m.system e.address (of_bits binary64 e.value) → a ≡ reply n 0 0 0
      → turn (with_system m s) a ≡ turn_of m e
  unfolding op_of in_bits step
  turn_hold k i j = by_changed (steps.hold e.address (of_bits binary64 e.value)) _ refl (rw k) (rw k) i j

  pub turn_read : e.kind ≡ READ → {r : Read} {a : Answer}
      → r ≡ read_of m.system m.ram m.sram m.gpio e.address e.size
      → a ≡ reply r.refusal r.value 0 0 → turn (with_system m r.system) a ≡ turn_of m e
  unfolding op_of in_bits reply_of step
  turn_read k h i =
      rw i (ap (λ (z : Read). turn (with_system m z.system) (reply z.refusal z.value 0 0)) h)
      ∙ by_op (steps.read e.address e.size) false (rw k) (rw k)

  pub turn_write : e.kind ≡ WRITE → {m₁ : Machine} {n : ℕ} {a : Answer}
      → left m₁ n ≡ write_of m e.address e.size (e.value % 2 ^ 32) → a ≡ reply n 0 0 0 → turn m₁ a ≡ turn_of m e
  unfolding op_of in_bits reply_of step
  turn_write k h i =
      rw i (ap (λ (z : Left). turn z.machine (reply z.refusal 0 0 0)) h) ∙ by_op (steps.write e.address
      e.size (e.value % 2 ^ 32)) false (rw k) (rw k)

  pub turn_advance : e.kind ≡ ADVANCE → {n : ℕ} {s : System} {g : List ℕ} {a : Answer}
      → moved (changed n s) g ≡ advance_of m.system m.sram m.gpio (of_bits binary64 e.value)
      → a ≡ reply n 0 0 0 → turn (machine s m.ram m.sram g m.fb) a ≡ turn_of m e
  unfolding op_of in_bits reply_of step
  turn_advance k h i =
      rw i (ap (λ (z : Moved). turn (machine z.changed.system m.ram m.sram z.gpio m.fb) (reply
      z.changed.refusal 0 0 0)) h)
      ∙ by_op (steps.advance (of_bits binary64 e.value)) false (rw k) (rw k)

  pub turn_next : e.kind ≡ NEXT → {x : NextTime} {n : ℕ} {a : Answer} → x ≡ next_of m.system m.sram
      → n ≡ bits_of x.time
      → a ≡ reply x.refusal n 0 0 → turn m a ≡ turn_of m e
  unfolding op_of in_bits reply_of step
  turn_next k h b i = rw (i, b, h) (rw no_bits at (by_op steps.next_event true (rw k) (rw k)))

  pub turn_pending : e.kind ≡ PENDING → {n : ℕ} {a : Answer} → n ≡ pending_of m.system → a ≡ reply DONE n 0 0
      → turn m a ≡ turn_of m e
  unfolding op_of in_bits reply_of step
  turn_pending k h i = rw (i, h) (by_op steps.pending false (rw k) (rw k))

  pub turn_take : e.kind ≡ SOUND → {n : ℕ} {x : Event} {s : System} {a : Answer}
      → ◌≡◌ {A = Taken} (record { refusal = n; event = x; system = s }) (take_of m.system)
      → a ≡ sound_reply n x → turn (with_system m s) a ≡ turn_of m e
  unfolding op_of in_bits reply_of step
  turn_take k h i =
      rw i (ap (λ (z : Taken). turn (with_system m z.system) (sound_reply z.refusal z.event)) h) ∙ by_op
      steps.take_event true (rw k) (rw k)

  pub turn_counters : e.kind ≡ COUNTERS → {a : Answer} → a ≡ counters_reply m.system.devices → turn m a ≡ turn_of m e
  unfolding op_of in_bits reply_of step
  turn_counters k i = rw i (by_op steps.counters false (rw k) (rw k))

  pub turn_pixel : e.kind ≡ COLOUR → {c : Colours} {a : Answer} → c ≡ pixel_at m.fb e.address
      → a ≡ colour_reply c → turn m a ≡ turn_of m e
  unfolding op_of in_bits reply_of step
  turn_pixel k h i = rw (i, h) (by_op (steps.pixel e.address) false (rw k) (rw k))

  pub turn_wipe : e.kind ≡ WIPE → {m₁ : Machine} {a : Answer}
      → m₁ ≡ wiped_of (length m.ram) (length m.sram) (length m.gpio) (length m.fb) → a ≡ reply DONE 0 0 0
      → turn m₁ a ≡ turn_of m e
  unfolding op_of in_bits reply_of step
  turn_wipe k h i = rw i (ap (λ (z : Machine). turn z (reply DONE 0 0 0)) h) ∙ by_op steps.wipe false (rw k) (rw k)

-- ---- its answer is laid at a place

pub answer_laid_lem : (m : Machine) (e : Entry) (l : List ℕ) (to k : ℕ) {m₁ : Machine} {a : Answer} {l₁ : List ℕ}
    → e.kind ≡ k → kind_in k ≡ true → turn m₁ a ≡ turn_of m e → l₁ ≡ laid_within l to a
    → run_state m₁ l₁ ≡ after_step (run_state m l) to e
answer_laid_lem m e l to k {m₁} c d h i =
    rw (ap kind_in c ∙ d) (ap (run_state m₁) i ∙ ap (λ (z : Turn). run_state z.machine (laid_within l to z.answer)) h)

-- where there is room for it
pub entry_laid : (m : Machine) (e : Entry) (l : List ℕ) (to : ℕ) {m₁ : Machine} {a : Answer} {l₁ : List ℕ}
    → turn m₁ a ≡ turn_of m e → l₁ ≡ answer_laid l to a → run_state m₁ l₁ ≡ after_entry (run_state m l) to e
entry_laid m e l to {m₁} h i =
    ap (run_state m₁) i ∙ ap (λ (z : Turn). run_state z.machine (answer_laid l to z.answer)) h

-- ---- what is no step

pub not_laid : (m : Machine) (e : Entry) (l : List ℕ) (to : ℕ) (P : Type 0) {a : Answer} {l₁ : List ℕ}
    → Missed e.kind (count_from last_kind 1) P → a ≡ reply BAD_SCRIPT 0 0 0 → l₁ ≡ laid_within l to a
    → run_state m l₁ ≡ after_step (run_state m l) to e
not_laid m e l to P missed h i = rw (no_kind, i, h)
  where
    no_kind : kind_in e.kind ≡ false
    no_kind =
        by_less 0 e.kind
        (λ some. let past = past_missed last_kind 1 e.kind P (omega arith) missed in
        let over : last_kind < e.kind = omega arith in rw (lt-ltb _ _ some, lt-leb _ _ over))
        (λ none. rw (le-ltb _ _ none))
