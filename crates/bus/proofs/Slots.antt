-- Words by their slots, and those of the time of day, which have none.
use Prim.Native.Nat.{ℕ, ◌<◌, ◌≤◌}
use mathlib.Core.Path.{◌≡◌, refl, sym, ap, ◌∙◌}
use mathlib.Core.Bool.{Bool, true, false, true≢false, ◌||◌}
use mathlib.Core.List.{List}
use native.Mathlib.Omega.{arith}
use lib.Dec.{eqb}
use lib.ListN.{set}
use borrow.Author.Tests.{eq-eqb, ne_eqb}
use Rattle.map.specs.Numbers.{RTC_IRQ_BASE, RTC_SECONDS, RTC_MINUTES, RTC_HOURS}
use Rattle.registers.specs.Ports.{slot_of, slot_word, day_word}
use Rattle.registers.specs.Words.{own_with, unstored}
use Rattle.whole.proofs.Choice.{by_same}
use Rattle.registers.proofs.Slots.{slot_back}

module _ (s : ℕ) (h : s < 76) where
  -- a test of the word is one of the slot
  pub slot_is : (k c : ℕ) → k < 76 → slot_word k ≡ c → eqb (slot_word s) c ≡ eqb s k
  slot_is k c l e =
      by_same s k
      (λ z. eq-eqb _ _ (ap slot_word z ∙ e) ∙ sym (eq-eqb s k z))
      (λ z. ne_eqb _ _ (λ w. z (sym (slot_back s h) ∙ ap slot_of (w ∙ sym e) ∙ slot_back k l)) ∙ sym (ne_eqb s k z))

  -- what is stored in the slot is stored in its word
  pub slot_stored : (slots : List ℕ) (v : ℕ) → set slots s v ≡ own_with slots (slot_word s) v
  unfolding own_with
  slot_stored slots v = rw (slot_back s h)

-- ---- the time of day

or_true : (b : Bool) → (b || true) ≡ true
or_true true = refl
or_true false = refl

pub day_unstored : (word : ℕ) → day_word word ≡ true → unstored word ≡ true
unfolding unstored
day_unstored word e = rw e (or_true (eqb word 0))

pub day_least : (word : ℕ) → day_word word ≡ true → RTC_IRQ_BASE ≤ word
unfolding day_word
day_least word e =
    by_same word RTC_SECONDS (λ z. omega arith)
    (λ d₁. by_same word RTC_MINUTES (λ z. omega arith)
    (λ d₂. by_same word RTC_HOURS (λ z. omega arith)
    (λ d₃. absurd (true≢false (sym e ∙ rw (ne_eqb _ _ d₁, ne_eqb _ _ d₂, ne_eqb _ _ d₃))))))
