-- One step of what is done for one number after the other.
use Rattle.std.proofs.Common.{◌≡◌, ℕ, zero, suc, ◌+◌, ◌-◌, ◌<◌, ◌≤◌, Bool, true, false, ◌||◌, refl, sym, ap, ◌∙◌, arith}
use Rattle.state.specs.Each.{any_of, through}

module _ {A : Type 0} (f : ℕ → A → A) (n m : ℕ) (x : A) where
  pub through_more : (y : A) {all : A} → n < m → y ≡ f n x → through f n (m - n) x ≡ all
      → through f (n + 1) (m - (n + 1)) y ≡ all
  through_more y less e so =
      let left : m - n ≡ suc (m - (n + 1)) = omega arith in
      ap (through f (n + 1) (m - (n + 1))) e ∙ sym (ap (λ k. through f n k x) left) ∙ so

  pub through_all : {all : A} → m ≤ n → through f n (m - n) x ≡ all → x ≡ all
  through_all past so =
      let left : m - n ≡ 0 = omega arith in
      sym (ap (λ k. through f n k x) left) ∙ so

module _ (f : ℕ → Bool) (n m : ℕ) (on : Bool) where
  any_next : (k : ℕ) (b : Bool) → b ≡ f n → ((on || b) || any_of f (n + 1) k) ≡ (on || any_of f n (suc k))
  any_next zero b e = by on ∙ ap (λ c. on || c) e
    where
      by : (a : Bool) → ((a || b) || false) ≡ (a || b)
      by true = refl
      by false = by_one b
        where
          by_one : (c : Bool) → (c || false) ≡ c
          by_one true = refl
          by_one false = refl
  any_next (suc k) b e = by on ∙ ap (λ c. on || (c || any_of f (n + 1) (suc k))) e
    where
      by : (a : Bool) → ((a || b) || any_of f (n + 1) (suc k)) ≡ (a || (b || any_of f (n + 1) (suc k)))
      by true = refl
      by false = refl

  pub any_more : (b : Bool) {all : Bool} → n < m → b ≡ f n → (on || any_of f n (m - n)) ≡ all
      → ((on || b) || any_of f (n + 1) (m - (n + 1))) ≡ all
  any_more b less e so =
      let left : m - n ≡ suc (m - (n + 1)) = omega arith in
      any_next (m - (n + 1)) b e ∙ sym (ap (λ k. on || any_of f n k) left) ∙ so

  pub any_all : {all : Bool} → m ≤ n → (on || any_of f n (m - n)) ≡ all → on ≡ all
  any_all past so =
      let left : m - n ≡ 0 = omega arith in
      sym (by on) ∙ sym (ap (λ k. on || any_of f n k) left) ∙ so
    where
      by : (a : Bool) → (a || false) ≡ a
      by true = refl
      by false = refl
