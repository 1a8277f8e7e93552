-- A list of a known length is the list of its elements, so that stores and reads at known places compute.
use Prim.Native.Nat.{ℕ, zero, suc, ◌+◌, ◌≤◌}
use mathlib.Core.Path.{◌≡◌, ap, ◌∙◌}
use mathlib.Core.List.{List, [], ◌∷◌}
use native.Mathlib.Omega.{arith}
use lib.ListN.{length, get_or, drop, drop_of_length-le}
use lib.Seq.{drop-cons}

module _ {A : Type 0} where
  unfoldable pub spread : A → List A → ℕ → ℕ → List A
  spread d l i zero = []
  spread d l i (suc n) = get_or l i d ∷ spread d l (suc i) n

  dropped : (d : A) (l : List A) (i n : ℕ) → length l ≡ i + n → drop i l ≡ spread d l i n
  unfolding spread
  dropped d l i zero e = let h : length l ≤ i = omega arith in drop_of_length-le l h
  dropped d l i (suc n) e =
      drop-cons l i d (omega arith) ∙ ap (λ (t : List A). get_or l i d ∷ t) (dropped d l (suc i) n (omega arith))

  pub spread_is : (d : A) (l : List A) (n : ℕ) → length l ≡ n → l ≡ spread d l 0 n
  spread_is d l n e = dropped d l 0 n (omega arith)
