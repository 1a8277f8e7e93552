-- What meets a contract that is an equation is the only thing that does.
use Rattle.std.proofs.Common.{◌≡◌, ℕ, List, ap}
use Rattle.std.specs.Prelude.{Result}
use Rattle.map.specs.declared.refusals.Refusal.{Refusal}
use Rattle.whole.proofs.Unique.{unique}
use Rattle.whole.proofs.Answered.{answer_tells}
use Rattle.flash.specs.Board.{Outcome, outcome, Reply, selecting, transferring}
use Rattle.flash.specs.declared.Chip.{Chip}

reply_is : {a b x y : ℕ} {c d : Chip} → a ≡ b → x ≡ y → c ≡ d
    → ◌≡◌ {A = Reply} (record { refusal = a; answer = x; chip = c }) (record { refusal = b; answer = y; chip = d })
reply_is p q r = rw (p, q, r)

-- of each step there is one answer, one later page and one later array
pub one_outcome : (d : Outcome) (r s : Reply) (p q m n : List ℕ) → outcome r p m ≡ d → outcome s q n ≡ d
    → (r ≡ s) × (p ≡ q) × (m ≡ n)
one_outcome d r s p q m n h k =
    let e : outcome r p m ≡ outcome s q n = unique h k in (
      reply_is (ap (λ (o : Outcome). o.refusal) e) (ap (λ (o : Outcome). o.answer) e)
          (ap (λ (o : Outcome). o.board.chip) e),
      ap (λ (o : Outcome). o.board.page) e,
      ap (λ (o : Outcome). o.board.array) e,
    )

-- and what answers so is one result: of a select
pub one_select : (d : Outcome) (c : Chip) (r s : Result Chip Refusal) (p q m n : List ℕ)
    → outcome (selecting c r) p m ≡ d → outcome (selecting c s) q n ≡ d → r ≡ s
one_select d c r s p q m n h k =
    let e : outcome (selecting c r) p m ≡ outcome (selecting c s) q n = unique h k in
    answer_tells c r s (ap (λ (o : Outcome). o.refusal) e) (ap (λ (o : Outcome). o.board.chip) e)

-- and of a transfer
pub one_transfer : (d : Outcome) (c : Chip) (r s : Result (ℕ × Chip) Refusal) (p q m n : List ℕ)
    → outcome (transferring c r) p m ≡ d → outcome (transferring c s) q n ≡ d → r ≡ s
one_transfer d c r s p q m n h k =
    let e : outcome (transferring c r) p m ≡ outcome (transferring c s) q n = unique h k in
    answer_tells (0, c) r s (ap (λ (o : Outcome). o.refusal) e)
    (ap (λ (o : Outcome). (o.answer, o.board.chip)) e)
