-- A list in which a place is given back, or taken: what stands where.
use Prim.Native.Nat.{ℕ, zero, suc, ◌<◌, ◌≤◌}
use mathlib.Core.Path.{◌≡◌, refl, sym, ap, ◌∙◌}
use mathlib.Core.List.{List, [], ◌∷◌, ◌++◌}
use native.Mathlib.Omega.{arith}
use lib.ListN.{length, get_or, set, length-append}
use lib.Seq.{set_out}
use Rattle.registers.specs.Words.{removed, inserted}

-- ---- lengths, and past the end

pub length_removed : (l : List ℕ) (i : ℕ) → length (removed l i) ≡ length l
unfolding removed
length_removed [] i = refl
length_removed (x ∷ xs) zero = length-append xs (0 ∷ []) ∙ omega arith
length_removed (x ∷ xs) (suc i) = ap suc (length_removed xs i)

pub length_inserted : (l : List ℕ) (i y : ℕ) → length (inserted l i y) ≡ length l
unfolding inserted
length_inserted [] i y = refl
length_inserted (x ∷ xs) zero y = ap suc (length_inserted xs zero x)
length_inserted (x ∷ xs) (suc i) y = ap suc (length_inserted xs i y)

pub removed_out : (l : List ℕ) (i : ℕ) → length l ≤ i → l ≡ removed l i
unfolding removed
removed_out [] i out = refl
removed_out (x ∷ xs) zero out = absurd (omega arith)
removed_out (x ∷ xs) (suc i) out = ap (λ (m : List ℕ). x ∷ m) (removed_out xs i (omega arith))

pub inserted_out : (l : List ℕ) (i y : ℕ) → length l ≤ i → l ≡ inserted l i y
unfolding inserted
inserted_out [] i y out = refl
inserted_out (x ∷ xs) zero y out = absurd (omega arith)
inserted_out (x ∷ xs) (suc i) y out = ap (λ (m : List ℕ). x ∷ m) (inserted_out xs i y (omega arith))

-- nothing is stored past the n words of a list
module _ (l : List ℕ) (n i : ℕ) (size : length l ≡ n) (past : n ≤ i) where
  out : length l ≤ i
  out = omega arith

  pub set_past : (v : ℕ) → l ≡ set l i v
  set_past v = sym (set_out l i v out)

-- ---- what stands where

zero_last : (l : List ℕ) (j : ℕ) → get_or (l ++ (0 ∷ [])) j 0 ≡ get_or l j 0
zero_last [] zero = refl
zero_last [] (suc j) = refl
zero_last (x ∷ xs) zero = refl
zero_last (x ∷ xs) (suc j) = zero_last xs j

pub removed_before : (l : List ℕ) (i j : ℕ) → j < i → get_or (removed l i) j 0 ≡ get_or l j 0
unfolding removed
removed_before [] i j less = refl
removed_before (x ∷ xs) zero j less = absurd (omega arith)
removed_before (x ∷ xs) (suc i) zero less = refl
removed_before (x ∷ xs) (suc i) (suc j) less = removed_before xs i j (omega arith)

pub removed_behind : (l : List ℕ) (i j : ℕ) → i ≤ j → get_or (removed l i) j 0 ≡ get_or l (suc j) 0
unfolding removed
removed_behind [] i j upto = refl
removed_behind (x ∷ xs) zero j upto = zero_last xs j
removed_behind (x ∷ xs) (suc i) zero upto = absurd (omega arith)
removed_behind (x ∷ xs) (suc i) (suc j) upto = removed_behind xs i j (omega arith)

pub inserted_before : (l : List ℕ) (i j y : ℕ) → j < i → get_or (inserted l i y) j 0 ≡ get_or l j 0
unfolding inserted
inserted_before [] i j y less = refl
inserted_before (x ∷ xs) zero j y less = absurd (omega arith)
inserted_before (x ∷ xs) (suc i) zero y less = refl
inserted_before (x ∷ xs) (suc i) (suc j) y less = inserted_before xs i j y (omega arith)

pub inserted_here : (l : List ℕ) (i y : ℕ) → i < length l → get_or (inserted l i y) i 0 ≡ y
unfolding inserted
inserted_here [] i y less = absurd (omega arith)
inserted_here (x ∷ xs) zero y less = refl
inserted_here (x ∷ xs) (suc i) y less = inserted_here xs i y (omega arith)

pub inserted_behind : (l : List ℕ) (i j y : ℕ) → i ≤ j → suc j < length l
    → get_or (inserted l i y) (suc j) 0 ≡ get_or l j 0
unfolding inserted
inserted_behind [] i j y upto less = absurd (omega arith)
inserted_behind (x ∷ xs) zero zero y upto less = inserted_here xs zero x (omega arith)
inserted_behind (x ∷ xs) zero (suc j) y upto less = inserted_behind xs zero j x (omega arith) (omega arith)
inserted_behind (x ∷ xs) (suc i) zero y upto less = absurd (omega arith)
inserted_behind (x ∷ xs) (suc i) (suc j) y upto less = inserted_behind xs i j y (omega arith) (omega arith)
