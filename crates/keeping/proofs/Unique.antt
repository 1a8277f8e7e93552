-- The contracts leave one outcome each.
use Prim.Native.Nat.{ℕ}
use mathlib.Core.Path.{◌≡◌, sym, ap, ◌∙◌}
use mathlib.Core.List.{List}
use lib.Ieee.{Float}
use Rattle.map.specs.Numbers.{DONE}
use Rattle.whole.proofs.Unique.{unique}
use Rattle.whole.proofs.Choice.{by_same}
use Rattle.state.specs.Bank.{parts_in}
use Rattle.state.proofs.Packs.{one_bank}
use Rattle.system.specs.System.{Machine, Left, left}
use Rattle.session.specs.Session.{parts_of, Saved, saved, Words}

-- of a save: the number, the count and the output
pub one_save : (d : Saved) (i j v w : ℕ) (out out' : List ℕ) → saved i v out ≡ d → saved j w out' ≡ d
    → (i ≡ j) × (v ≡ w) × (out ≡ out')
one_save d i j v w out out' x y =
    let e : saved i v out ≡ saved j w out' = unique x y in
    (ap (λ (o : Saved). o.refusal) e, ap (λ (o : Saved). o.written) e, ap (λ (o : Saved). o.out) e)

-- of a resume: the number, the machine and with it every array and memory, and every word of the bank
pub one_resume : (d : Left) (i j : ℕ) (m n : Machine) (l l₁ l₂ : List ℕ) (f f₁ f₂ : List Float)
    → parts_of m ≡ parts_in l₁ f₁ → parts_of n ≡ parts_in l₂ f₂
    → left m i ≡ d → Words i l f l₁ f₁ → left n j ≡ d → Words j l f l₂ f₂
    → (i ≡ j) × (m ≡ n) × (l₁ ≡ l₂) × (f₁ ≡ f₂)
one_resume d i j m n l l₁ l₂ f f₁ f₂ here there x p y q =
    let e : left m i ≡ left n j = unique x y in
    let number : i ≡ j = ap (λ (o : Left). o.refusal) e in
    let machine : m ≡ n = ap (λ (o : Left). o.machine) e in
    let words : (l₁ ≡ l₂) × (f₁ ≡ f₂) = by_same i DONE
    (λ done. one_bank (p.packed done) (q.packed (sym number ∙ done)) (sym here ∙ ap parts_of machine ∙ there))
    (λ refused. let a = p.still refused in
    let b = q.still (λ done. refused (number ∙ done)) in
    (a.0 ∙ sym b.0, a.1 ∙ sym b.1)) in
    (number, machine, words.0, words.1)
