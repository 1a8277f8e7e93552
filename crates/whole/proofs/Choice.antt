-- A proof by cases on a test, and what a test that passed says.
use Rattle.std.proofs.Common.{◌≡◌, ℕ, ◌<◌, ◌≤◌, Bool, true, false, cond, not, ◌&&◌, ◌||◌, eqb, ltb, ◌≢◌, ◌⊎◌, sym}
use Rattle.std.proofs.Common.{refl, ap, inl, inr, true≢false, ltb-false, ltb-true, eqb-true}
use borrow.Author.Tests.{eqb-false}

module _ {A : Type 0} where
  pub by_test : (t : Bool) → (t ≡ true → A) → (t ≡ false → A) → A
  by_test true f g = f refl
  by_test false f g = g refl

  pub by_same : (m n : ℕ) → (m ≡ n → A) → (m ≢ n → A) → A
  by_same m n f g = by_test (eqb m n) (λ e. f (eqb-true m n e)) (λ e. g (eqb-false m n e))

  pub by_less : (m n : ℕ) → (m < n → A) → (n ≤ m → A) → A
  by_less m n f g = by_test (ltb m n) (λ e. f (ltb-true m n e)) (λ e. g (ltb-false m n e))

-- what holds of the one that a test picks, with the fact that it was picked by
pub by_cond : {A : Type 0} (P : A → Type 0) (t : Bool) (x y : A) → (t ≡ true → P x) → (t ≡ false → P y) → P (cond t x y)
by_cond P true x y f g = f refl
by_cond P false x y f g = g refl

pub both : (a b : Bool) → (a && b) ≡ true → (a ≡ true) × (b ≡ true)
both true b h = (refl, h)
both false b h = absurd (true≢false (sym h))

pub neither : (a b : Bool) → (a || b) ≡ false → (a ≡ false) × (b ≡ false)
neither true b h = absurd (true≢false h)
neither false b h = (refl, h)

-- what a test that is turned over says
pub of_not : (b c : Bool) → not b ≡ c → b ≡ not c
of_not true c h = ap not h
of_not false c h = ap not h

pub lt_or_ge : (a b : ℕ) → (a < b) ⊎ (b ≤ a)
lt_or_ge a b = by_less a b inl inr
