-- The contracts leave one outcome each. Where a contract is `r ≡ definition`, `unique` of crate whole says so at once.
use Prim.Native.Nat.{ℕ}
use mathlib.Core.Path.{◌≡◌, ap}
use mathlib.Core.List.{List}
use Rattle.std.specs.Prelude.{Result}
use Rattle.map.specs.declared.refusals.Refusal.{Refusal}
use Rattle.whole.proofs.Unique.{unique}
use Rattle.whole.proofs.Answered.{answer_tells}
use Rattle.timer.specs.declared.Event.{Event}
use Rattle.timer.specs.Events.{nothing}
use Rattle.system.specs.Calls.{Changed, changed_by, Read, read_by, Taken, taken_by}
use Rattle.system.specs.declared.System.{System}
use Rattle.system.specs.System.{Machine, machine, Left, left}
use Rattle.system.specs.Calls.{Moved, moved}

-- of a write: the answer, the state and the four memories
pub one_write : (d : Left) (m n : Machine) (i j : ℕ) → left m i ≡ d → left n j ≡ d → (m ≡ n) × (i ≡ j)
one_write d m n i j h k = let e : left m i ≡ left n j = unique h k in
    (ap (λ (o : Left). o.machine) e, ap (λ (o : Left). o.refusal) e)

-- of an advance: the answer, the state and the GPIO memory
pub one_advance : (d : Moved) (r s : Changed) (gpio gpio₁ : List ℕ) → moved r gpio ≡ d → moved s gpio₁ ≡ d
    → (r ≡ s) × (gpio ≡ gpio₁)
one_advance d r s gpio gpio₁ i k = let e : moved r gpio ≡ moved s gpio₁ = unique i k in
    (ap (λ (o : Moved). o.changed) e, ap (λ (o : Moved). o.gpio) e)

-- of a wipe: the state and the four memories
pub one_wipe : (d : Machine) (s t : System) (ram ram₁ sram sram₁ gpio gpio₁ fb fb₁ : List ℕ)
    → machine s ram sram gpio fb ≡ d → machine t ram₁ sram₁ gpio₁ fb₁ ≡ d
    → (s ≡ t) × (ram ≡ ram₁) × (sram ≡ sram₁) × (gpio ≡ gpio₁) × (fb ≡ fb₁)
one_wipe d s t ram ram₁ sram sram₁ gpio gpio₁ fb fb₁ i k =
    let e : machine s ram sram gpio fb ≡ machine t ram₁ sram₁ gpio₁ fb₁ = unique i k in (
      ap (λ (o : Machine). o.system) e,
      ap (λ (o : Machine). o.ram) e,
      ap (λ (o : Machine). o.sram) e,
      ap (λ (o : Machine). o.gpio) e,
      ap (λ (o : Machine). o.fb) e,
    )

-- and what answers so is one result: of a call that changes the state, of a read, and of an event that is taken
pub one_changed_result : (d : Changed) (s : System) (r q : Result System Refusal) → changed_by s r ≡ d
    → changed_by s q ≡ d → r ≡ q
one_changed_result d s r q i k =
    let e : changed_by s r ≡ changed_by s q = unique i k in
    answer_tells s r q (ap (λ (o : Changed). o.refusal) e) (ap (λ (o : Changed). o.system) e)

pub one_read_result : (d : Read) (s : System) (r q : Result (ℕ × System) Refusal) → read_by s r ≡ d
    → read_by s q ≡ d → r ≡ q
one_read_result d s r q i k =
    let e : read_by s r ≡ read_by s q = unique i k in
    answer_tells (0, s) r q (ap (λ (o : Read). o.refusal) e) (ap (λ (o : Read). (o.value, o.system)) e)

pub one_taken_result : (d : Taken) (s : System) (r q : Result (Event × System) Refusal) → taken_by s r ≡ d
    → taken_by s q ≡ d → r ≡ q
one_taken_result d s r q i k =
    let e : taken_by s r ≡ taken_by s q = unique i k in
    answer_tells (nothing, s) r q (ap (λ (o : Taken). o.refusal) e) (ap (λ (o : Taken). (o.event, o.system)) e)
