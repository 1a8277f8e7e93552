-- Floats that are finite with a clear sign, m * 2 ^ e: what holds for each m and e holds of them all; and their order
-- is that of the fractions m * up e / down e.
use Rattle.std.proofs.Common.{ℕ, ◌*◌, ◌≤◌, Bool, true, false, ◌&&◌, ◌||◌, T, eqb, ltb, ◌⊎◌, ℤ, inl, inr, le_of_eq}
use Rattle.std.proofs.Common.{le_of_lt, eqb→eq, ltb→lt}
use lib.Ieee.{Float, nan, inf, fin, up, down, lt, eq, le}
use lib.Ieee.Fits.{and_l}
use Rattle.whole.specs.Bounds.{Clear, AtMost, AtLeast}
use Rattle.whole.specs.Limits.{finite}

pub any : (P : Float → Type 0) → ((m : ℕ) (e : ℤ) → P (fin false m e)) → (x : Float) → Clear x → P x
any P h nan c = absurd c
any P h (inf s) c = absurd c
any P h (fin true m e) c = absurd c
any P h (fin false m e) c = h m e

pub any2 : (P : Float → Float → Type 0) → ((m : ℕ) (e : ℤ) (n : ℕ) (d : ℤ) → P (fin false m e) (fin false n d))
    → (x y : Float) → Clear x → Clear y → P x y
any2 P h x y p q = any (λ (x : Float). P x y) (λ m e. any (P (fin false m e)) (h m e) y q) x p

pub at_most_clear : (x : Float) (n : ℕ) → AtMost x n → Clear x
at_most_clear nan n p = p
at_most_clear (inf s) n p = p
at_most_clear (fin true m e) n p = p
at_most_clear (fin false m e) n p = tt

pub at_least_clear : (x : Float) (n : ℕ) → AtLeast x n → Clear x
at_least_clear nan n p = p
at_least_clear (inf s) n p = p
at_least_clear (fin true m e) n p = p
at_least_clear (fin false m e) n p = tt

-- ---- finite

pub at_most_finite : (x : Float) (n : ℕ) → AtMost x n → T (finite x)
at_most_finite nan n p = p
at_most_finite (inf s) n p = p
at_most_finite (fin true m e) n p = tt
at_most_finite (fin false m e) n p = tt

-- what lies between two finite floats is finite
pub between_finite : (x : Float) (s : Bool) (m : ℕ) (e : ℤ) (t : Bool) (n : ℕ) (d : ℤ) → T (le (fin s m e) x)
    → T (le x (fin t n d)) → T (finite x)
unfolding le lt eq
between_finite nan s m e t n d p q = p
between_finite (inf true) s m e t n d p q = p
between_finite (inf false) s m e t n d p q = q
between_finite (fin u k c) s m e t n d p q = tt

-- ---- order

or_split : (a b : Bool) → T (a || b) → T a ⊎ T b
or_split true b t = inl tt
or_split false b t = inr t

lt_or_eq : (a b : ℕ) → T (ltb a b || (eqb a b && true)) → a ≤ b
lt_or_eq a b t =
    elim (or_split (ltb a b) (eqb a b && true) t) [
      | inl u ↦ le_of_lt (ltb→lt a b u)
      | inr u ↦ le_of_eq
          (eqb→eq a b (and_l (eqb a b) true u))
    ]

pub cross : (m : ℕ) (e : ℤ) (n : ℕ) (d : ℤ) → T (le (fin false m e) (fin false n d))
    → m * up e * down d ≤ n * up d * down e
unfolding le
cross m e n d h = lt_or_eq (m * up e * down d) (n * up d * down e) h
