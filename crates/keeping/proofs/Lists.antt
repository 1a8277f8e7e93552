-- Lists whose numbers are below a bound, and lists of f64s.
use Prim.Native.Nat.{ℕ, zero, suc, ◌+◌}
use mathlib.Core.Path.{sym, ap, subst, ◌∙◌}
use mathlib.Core.List.{List, [], ◌∷◌, ◌++◌}
use native.Mathlib.Omega.{arith}
use lib.Dec.{T}
use lib.Ieee.{Float, nan, binary64, fits}
use lib.Ieee.Bits.{of_bits-fits}
use lib.Ieee.Fits.{nan-fits}
use lib.ListN.{length, get_or, set, take, drop, get_or-eq_default, length-set, replicate}
use lib.Seq.{get_or-set_same, get_or-set_other, get_or-drop}
use Rattle.whole.specs.Forms.{nought}
use Rattle.whole.specs.Rows.{tabled}
use Rattle.whole.proofs.Rows.{length_tabled, get_or_tabled}
use Rattle.whole.proofs.Choice.{by_same, by_less}
use Rattle.keeping.specs.Typed.{Fits}

-- what holds of every place and of what counts past the end
module _ {A : Type 0} (P : A → Type 0) (d : A) (none : P d) where
  pub each_set : (l : List A) (i : ℕ) (x : A) → ((j : ℕ) → P (get_or l j d)) → P x → (j : ℕ) → P
      (get_or (set l i x) j d)
  each_set l i x all here j =
      by_same j i
      (λ same. by_less i (length l)
      (λ less. subst P (sym (ap (λ (k : ℕ). get_or (set l i x) k d) same ∙ get_or-set_same l i x d less)) here)
      (λ past. subst P
      (sym (get_or-eq_default (set l i x) d (let e = length-set l i x in omega arith))) none))
      (λ other. subst P (sym (get_or-set_other l i j x d other)) (all j))

  pub each_tabled : (f : ℕ → A) (n : ℕ) → ((i : ℕ) → P (f i)) → (j : ℕ) → P (get_or (tabled f n) j d)
  each_tabled f n all j =
      by_less j n
      (λ less. subst P (sym (get_or_tabled f n j d less)) (all j))
      (λ past. subst P
      (sym (get_or-eq_default (tabled f n) d (let e = length_tabled f n in omega arith))) none)

  pub each_cons : (x : A) (l : List A) → P x → ((j : ℕ) → P (get_or l j d)) → (j : ℕ) → P (get_or (x ∷ l) j d)
  each_cons x l here all zero = here
  each_cons x l here all (suc j) = all j

  pub each_append : (l m : List A) → ((j : ℕ) → P (get_or l j d)) → ((j : ℕ) → P (get_or m j d)) → (j : ℕ)
      → P (get_or (l ++ m) j d)
  each_append [] m p q j = q j
  each_append (x ∷ l) m p q zero = p zero
  each_append (x ∷ l) m p q (suc j) = each_append l m (λ i. p (suc i)) q j

  pub each_drop : (n : ℕ) (l : List A) → ((j : ℕ) → P (get_or l j d)) → (j : ℕ) → P (get_or (drop n l) j d)
  each_drop n l all j = subst P (sym (get_or-drop n l j d)) (all (n + j))

  pub each_take : (n : ℕ) (l : List A) → ((j : ℕ) → P (get_or l j d)) → (j : ℕ) → P (get_or (take n l) j d)
  each_take zero l all j = none
  each_take (suc n) [] all j = none
  each_take (suc n) (x ∷ l) all zero = all zero
  each_take (suc n) (x ∷ l) all (suc j) = each_take n l (λ i. all (suc i)) j

abbrev pub Fit : Float → Type 0
Fit x = T (fits binary64 x)

pub nan_fit : Fit nan
nan_fit = nan-fits binary64

pub zeros_fit : (n : ℕ) → Fits (replicate n nought)
zeros_fit zero j = nan_fit
zeros_fit (suc n) zero = of_bits-fits binary64 0
zeros_fit (suc n) (suc j) = zeros_fit n j
