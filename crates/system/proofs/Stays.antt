-- A call by value that refuses, said of the state that it was given.
use Rattle.std.proofs.Common.{◌≡◌, ℕ, Bool, List, [], sym, ap, ◌∙◌}
use lib.Ieee.{Float}
use Rattle.map.specs.declared.refusals.Refusal.{Refusal}
use Rattle.map.specs.Refusals.{code_of}
use Rattle.whole.proofs.Answered.{code_not_done}
use Rattle.timer.specs.declared.Event.{Event}
use Rattle.system.specs.declared.System.{System}
use Rattle.system.specs.System.{Machine, machine, Left, left}
use Rattle.system.specs.Calls.{Changed, changed, Read, Taken, Moved, moved, read_of, write_of, advance_of, turbo_of}
use Rattle.system.specs.Calls.{take_of, live_of, hold_of, press_of}
use Rattle.system.specs.Steps.{Op, read, write, advance, turbo, live, hold, press, take_event, step, Outcome, plainly}
use Rattle.system.proofs.Unchanged.{refused_unchanged}

-- a refused step leaves the machine
pub refused_is : (m : Machine) (o : Op) (r : Refusal) → (step m o).refusal ≡ code_of r
    → step m o ≡ plainly m (code_of r)
refused_is m o r e =
    refused_unchanged m o (λ z. code_not_done r (sym e ∙ z)) ∙ ap (λ (n : ℕ). plainly m n) e

-- what a call left is what it was given
kept : (s : System) (r : Refusal) (o : Op) → (step (machine s [] [] [] []) o).refusal ≡ code_of r
    → (step (machine s [] [] [] []) o).machine.system ≡ s
kept s r o e = ap (λ (x : Outcome). x.machine.system) (refused_is (machine s [] [] [] []) o r e)

module _ (s : System) (r : Refusal) {t : System} where
  said : (d : Changed) → changed (code_of r) t ≡ d → d.system ≡ s → changed (code_of r) s ≡ d
  said d e k = ap (λ (z : System). changed (code_of r) z) (sym (ap (λ (c : Changed). c.system) e ∙ k)) ∙ e

  pub live_stays : (key : ℕ) (down : Bool) → changed (code_of r) t ≡ live_of s key down
      → changed (code_of r) s ≡ live_of s key down
  unfolding step
  live_stays key down e = said (live_of s key down) e (kept s r (live key down) (sym (ap (λ
      (c : Changed). c.refusal) e)))

  pub hold_stays : (key : ℕ) (until : Float) → changed (code_of r) t ≡ hold_of s key until
      → changed (code_of r) s ≡ hold_of s key until
  unfolding step
  hold_stays key until e =
      said (hold_of s key until) e (kept s r (hold key until) (sym (ap (λ (c : Changed). c.refusal) e)))

  pub press_stays : (key : ℕ) (at : Float) → changed (code_of r) t ≡ press_of s key at
      → changed (code_of r) s ≡ press_of s key at
  unfolding step
  press_stays key at e = said (press_of s key at) e (kept s r (press key at) (sym (ap (λ (c : Changed). c.refusal) e)))

  pub turbo_stays : (to : Float) → changed (code_of r) t ≡ turbo_of s to → changed (code_of r) s ≡ turbo_of s to
  unfolding step
  turbo_stays to e = said (turbo_of s to) e (kept s r (turbo to) (sym (ap (λ (c : Changed). c.refusal) e)))

  pub take_stays : (x : Event) → ◌≡◌ {A = Taken} (record { refusal = code_of r; event = x; system = t }) (take_of s)
      → ◌≡◌ {A = Taken} (record { refusal = code_of r; event = x; system = s }) (take_of s)
  unfolding step
  take_stays x e =
      let k : (take_of s).system ≡ s = kept s r take_event (sym (ap (λ (c : Taken). c.refusal) e)) in
      ap (λ (z : System). record { refusal = code_of r; event = x; system = z })
      (sym (ap (λ (c : Taken). c.system) e ∙ k)) ∙ e

  pub read_stays : (ram sram gpio : List ℕ) (a n v : ℕ)
      → ◌≡◌ {A = Read} (record { refusal = code_of r; value = v; system = t }) (read_of s ram sram gpio a n)
      → ◌≡◌ {A = Read} (record { refusal = code_of r; value = v; system = s }) (read_of s ram sram gpio a n)
  unfolding step
  read_stays ram sram gpio a n v e =
      let k : (read_of s ram sram gpio a n).system ≡ s = ap (λ (x : Outcome). x.machine.system)
      (refused_is (machine s ram sram gpio []) (read a n) r (sym (ap (λ (c : Read). c.refusal) e))) in
      ap (λ (z : System). record { refusal = code_of r; value = v; system = z })
      (sym (ap (λ (c : Read). c.system) e ∙ k)) ∙ e

  pub advance_stays : (sram gpio gpio₁ : List ℕ) (to : Float)
      → moved (changed (code_of r) t) gpio₁ ≡ advance_of s sram gpio to
      → moved (changed (code_of r) s) gpio₁ ≡ advance_of s sram gpio to
  unfolding step
  advance_stays sram gpio gpio₁ to e =
      let k : (advance_of s sram gpio to).changed.system ≡ s = ap (λ (x : Outcome). x.machine.system)
      (refused_is (machine s [] sram gpio []) (advance to) r (sym (ap (λ (c : Moved). c.changed.refusal) e))) in
      ap (λ (z : System). moved (changed (code_of r) z) gpio₁)
      (sym (ap (λ (c : Moved). c.changed.system) e ∙ k)) ∙ e

-- and of the memories that it was lent
pub write_stays : (m : Machine) (r : Refusal) (a n v : ℕ) {t : System} {ram sram gpio fb : List ℕ}
    → left (machine t ram sram gpio fb) (code_of r) ≡ write_of m a n v
    → left (machine m.system ram sram gpio fb) (code_of r) ≡ write_of m a n v
unfolding step
write_stays m r a n v {t} {ram} {sram} {gpio} {fb} e =
    let k : (write_of m a n v).machine.system ≡ m.system = ap (λ (x : Outcome). x.machine.system)
    (refused_is m (write a n v) r (sym (ap (λ (c : Left). c.refusal) e))) in
    ap (λ (z : System). left (machine z ram sram gpio fb) (code_of r))
    (sym (ap (λ (c : Left). c.machine.system) e ∙ k)) ∙ e
