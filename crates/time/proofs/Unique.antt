-- What meets a contract that is an equation is the only thing that does. The bank's later parts are one; from a
-- packed bank the later words are then one too (crate state, one-later).
use Rattle.std.proofs.Common.{◌≡◌, ℕ, List, ap}
use Rattle.std.specs.Prelude.{Result, from_bits}
use Rattle.std.specs.Float.{binary64}
use lib.Ieee.{Float}
use Rattle.map.specs.declared.refusals.Refusal.{Refusal}
use Rattle.whole.proofs.Unique.{unique}
use Rattle.whole.proofs.Answered.{answer_tells}
use Rattle.timer.specs.declared.Event.{Event}
use Rattle.state.specs.declared.Parts.{Parts}
use Rattle.time.specs.Next.{NextTime, next_answer}
use Rattle.time.specs.Bank.{MovedBank, moved_bank, Asked, asked, Pressed, pressed, Took, took}

-- of an advance there is one answer, and the later words, lines and parts are one
pub one_advance : (d : MovedBank) (o p g h : List ℕ) (m n : ℕ) (x y : Parts) → moved_bank o g m x ≡ d
    → moved_bank p h n y ≡ d
    → (o ≡ p) × (g ≡ h) × (m ≡ n) × (x ≡ y)
one_advance d o p g h m n x y a b =
    let e : moved_bank o g m x ≡ moved_bank p h n y = unique a b in (
      ap (λ (z : MovedBank). z.slots) e,
      ap (λ (z : MovedBank). z.gpio) e,
      ap (λ (z : MovedBank). z.refusal) e,
      ap (λ (z : MovedBank). z.parts) e,
    )

-- of a next event there is one answer
pub one_next : (d r s : NextTime) → r ≡ d → s ≡ d → r ≡ s
one_next d r s x y = unique x y

-- and what answers so is one result
pub one_next_result : (d : NextTime) (r s : Result Float Refusal) → next_answer r ≡ d → next_answer s ≡ d → r ≡ s
one_next_result d r s x y =
    let e : next_answer r ≡ next_answer s = unique x y in
    answer_tells (from_bits binary64 0) r s (ap (λ (z : NextTime). z.refusal) e) (ap (λ (z : NextTime). z.time) e)

-- of a turbo, a live key and a tap; of a press; of an event that is taken
pub one_asked : (d : Asked) (x y : Parts) (m n : ℕ) → asked x m ≡ d → asked y n ≡ d → (x ≡ y) × (m ≡ n)
one_asked d x y m n a b =
    let e : asked x m ≡ asked y n = unique a b in (ap (λ (z : Asked). z.parts) e, ap (λ (z : Asked). z.refusal) e)

pub one_press : (d : Pressed) (t u : List Float) (c k : List ℕ) (x y : Asked) → pressed t c x ≡ d → pressed u k y ≡ d
    → (t ≡ u) × (c ≡ k) × (x ≡ y)
one_press d t u c k x y a b =
    let e : pressed t c x ≡ pressed u k y = unique a b in
    (ap (λ (z : Pressed). z.starts) e, ap (λ (z : Pressed). z.codes) e, ap (λ (z : Pressed). z.asked) e)

pub one_take : (d : Took) (t u f g v w : List Float) (x y : Asked) (i j : Event) → took t f v x i ≡ d
    → took u g w y j ≡ d
    → (t ≡ u) × (f ≡ g) × (v ≡ w) × (x ≡ y) × (i ≡ j)
one_take d t u f g v w x y i j a b =
    let e : took t f v x i ≡ took u g w y j = unique a b in (
      ap (λ (z : Took). z.onsets) e,
      ap (λ (z : Took). z.frequencies) e,
      ap (λ (z : Took). z.duties) e,
      ap (λ (z : Took). z.asked) e,
      ap (λ (z : Took). z.event) e,
    )
