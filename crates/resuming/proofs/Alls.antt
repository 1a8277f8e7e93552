-- What the library's `all` answers, and the tests one by one.
use Rattle.std.proofs.Common.{ℕ, zero, suc, ◌+◌, ◌≤◌, ◌≡◌, refl, sym, ap, ◌∙◌}
use Rattle.std.proofs.Common.{Bool, true, false, ◌&&◌, leb, List, [], ◌∷◌}
use Rattle.std.proofs.Common.{length, get_or, take, drop, drop-cons, arith}
use Rattle.std.specs.List.{list_all, zip}
use lib.Ieee.{Float, nan}
use Rattle.session.specs.Fields.{all_below}

-- ---- some floats in a row

two : (a b : Bool) → (a && (b && true)) ≡ (a && b)
two true true = refl
two true false = refl
two false b = refl

three : (a b c : Bool) → (a && (b && (c && true))) ≡ (a && (b && c))
three true b c = two b c
three false b c = refl

six : (a b c d e f : Bool) → (a && (b && (c && (d && (e && (f && true)))))) ≡ ((a && (b && c)) && (d && (e && f)))
six true true true d e f = three d e f
six true true false d e f = refl
six true false c d e f = refl
six false b c d e f = refl

module _ (p : Float → Bool) (l : List Float) (i : ℕ) where
  pub all_two : i + 2 ≤ length l → list_all p (take 2 (drop i l)) ≡ (p (get_or l i nan) && p (get_or l (suc i) nan))
  all_two h =
      rw (drop-cons l i nan (omega arith), drop-cons l (suc i) nan (omega arith))
      (two (p (get_or l i nan)) (p (get_or l (suc i) nan)))

  pub all_three : i + 3 ≤ length l → list_all p (take 3 (drop i l))
      ≡ (p (get_or l i nan) && (p (get_or l (suc i) nan) && p (get_or l (suc (suc i)) nan)))
  all_three h =
      rw (
        drop-cons l i nan (omega arith),
        drop-cons l (suc i) nan (omega arith),
        drop-cons l (suc (suc i)) nan (omega arith),
      )
      (three (p (get_or l i nan)) (p (get_or l (suc i) nan)) (p (get_or l (suc (suc i)) nan)))

  pub all_six : i + 6 ≤ length l → list_all p (take 6 (drop i l))
      ≡ ((p (get_or l i nan) && (p (get_or l (suc i) nan) && p (get_or l (suc (suc i)) nan)))
      && (p (get_or l (suc (suc (suc i))) nan) && (p (get_or l (suc (suc (suc (suc i)))) nan)
      && p (get_or l (suc (suc (suc (suc (suc i))))) nan))))
  all_six h =
      rw (
        drop-cons l i nan (omega arith),
        drop-cons l (suc i) nan (omega arith),
        drop-cons l (suc (suc i)) nan (omega arith),
        drop-cons l (suc (suc (suc i))) nan (omega arith),
        drop-cons l (suc (suc (suc (suc i)))) nan (omega arith),
        drop-cons l (suc (suc (suc (suc (suc i))))) nan (omega arith),
      )
      (six (p (get_or l i nan)) (p (get_or l (suc i) nan)) (p (get_or l (suc (suc i)) nan))
      (p (get_or l (suc (suc (suc i))) nan)) (p (get_or l (suc (suc (suc (suc i)))) nan))
      (p (get_or l (suc (suc (suc (suc (suc i))))) nan)))

-- ---- numbers beside their greatest

front : (f : ℕ → Bool) (n : ℕ) → all_below f (suc n) ≡ (f 0 && all_below (λ i. f (suc i)) n)
unfolding all_below
front f zero = refl
front f (suc n) = ap (λ (b : Bool). f (suc n) && b) (front f n) ∙ past (f (suc n)) (f 0) _
  where
    past : (a b c : Bool) → (a && (b && c)) ≡ (b && (a && c))
    past true b c = refl
    past false true c = refl
    past false false c = refl

pub all_beside : (l m : List ℕ) (n : ℕ) → length l ≡ n → length m ≡ n
    → list_all (λ p. leb p.0 p.1) (zip l m) ≡ all_below (λ i. leb (get_or l i 0) (get_or m i 0)) n
unfolding all_below
all_beside [] m zero a b = refl
all_beside [] m (suc n) a b = absurd (omega (arith, a))
all_beside (x ∷ l) m zero a b = absurd (omega (arith, a))
all_beside (x ∷ l) [] (suc n) a b = absurd (omega (arith, b))
all_beside (x ∷ l) (y ∷ m) (suc n) a b =
    ap (λ (t : Bool). leb x y && t) (all_beside l m n (omega (arith, a)) (omega (arith, b)))
    ∙ sym (front (λ i. leb (get_or (x ∷ l) i 0) (get_or (y ∷ m) i 0)) n)
