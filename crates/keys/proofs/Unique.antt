-- What meets a contract is the only thing that does.
use Prim.Native.Nat.{ℕ}
use mathlib.Core.Path.{◌≡◌, ap}
use mathlib.Core.List.{List}
use lib.Ieee.{Float}
use Rattle.map.specs.declared.refusals.Refusal.{Refusal}
use Rattle.map.specs.Refusals.{number_of, value_or}
use Rattle.std.specs.Prelude.{Result}
use Rattle.whole.proofs.Unique.{unique}
use Rattle.whole.proofs.Answered.{answer_tells}
use Rattle.keys.specs.declared.Keys.{Keys}
use Rattle.keys.specs.Keys.{Buttons, buttons}
use Rattle.keys.specs.Script.{script, outcome}
use Rattle.keys.specs.Script as presses
use Rattle.keys.specs.Lines.{Lines, lines}

-- of a press there is one answer, and the later arrays are one pair of lists; `count` is how many places held presses
pub one_press : (d : presses.Outcome) (count : ℕ) (r s : Result ℕ Refusal) (starts ts : List Float)
    (codes cs : List ℕ) → outcome (number_of r) (script starts codes (value_or r count)) ≡ d
    → outcome (number_of s) (script ts cs (value_or s count)) ≡ d
    → (r ≡ s) × (starts ≡ ts) × (codes ≡ cs)
one_press d count r s starts ts codes cs h k =
    let e : outcome (number_of r) (script starts codes (value_or r count))
    ≡ outcome (number_of s) (script ts cs (value_or s count)) = unique h k in (
      answer_tells count r s (ap (λ (o : presses.Outcome). o.refusal) e)
          (ap (λ (o : presses.Outcome). o.script.count) e),
      ap (λ (o : presses.Outcome). o.script.starts) e,
      ap (λ (o : presses.Outcome). o.script.codes) e,
    )

-- of the lines there is one later memory, and one thing applied
pub one_sync : (d : Lines) (a b : ℕ) (m n : List ℕ) → lines m a ≡ d → lines n b ≡ d → (a ≡ b) × (m ≡ n)
one_sync d a b m n h k =
    let e : lines m a ≡ lines n b = unique h k in
    (ap (λ (l : Lines). l.applied) e, ap (λ (l : Lines). l.gpio) e)

-- of a wipe there is one state
pub one_clear : (d : Buttons) (k l : Keys) (starts ts : List Float) (codes cs : List ℕ) → buttons starts codes k ≡ d
    → buttons ts cs l ≡ d
    → (k ≡ l) × (starts ≡ ts) × (codes ≡ cs)
one_clear d k l starts ts codes cs g h =
    let e : buttons starts codes k ≡ buttons ts cs l = unique g h in
    (ap (λ (b : Buttons). b.keys) e, ap (λ (b : Buttons). b.starts) e, ap (λ (b : Buttons). b.codes) e)
