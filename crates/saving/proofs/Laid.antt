-- Bytes laid one behind the other: a chain of writers lays what each lays, and each has room.
use Prim.Native.Nat.{ℕ, suc, ◌+◌, ◌≤◌, ◌<◌}
use mathlib.Core.Path.{◌≡◌, refl, sym, ap, subst, ◌∙◌}
use mathlib.Core.List.{List, [], ◌∷◌, ◌++◌}
use native.Mathlib.Numerals.{add-one}
use native.Mathlib.Omega.{arith}
use mathlib.Core.Bool.{Bool, true, false}
use lib.Dec.{ltb}
use borrow.Author.Tests.{ltb-true, ltb-false}
use lib.ListN.{length, set, length-append}
use lib.Seq.{sets, length-sets}
use Rattle.session.specs.Fields.{rows_of}
use Rattle.memory.specs.Bytes.{bytes_of}
use Rattle.saving.specs.Inner.{Laid}
use Rattle.session.proofs.Digits.{length_bytes}

sets_then : (l : List ℕ) (at : ℕ) (xs ys : List ℕ) → sets (sets l at xs) (at + length xs) ys ≡ sets l at (xs ++ ys)
sets_then l at [] ys = ap (λ (k : ℕ). sets l k ys) (omega arith)
sets_then l at (x ∷ xs) ys =
    ap (λ (k : ℕ). sets (sets (set l at x) (suc at) xs) k ys) (omega arith) ∙ sets_then (set l at x) (suc at) xs ys

pub none_laid : (l : List ℕ) (at : ℕ) → Laid l l at at []
none_laid l at = record { laid = refl; behind = omega arith }

module _ {l l₁ : List ℕ} {at b : ℕ} {xs : List ℕ} (first : Laid l l₁ at b xs) where
  pub laid_as : {ys : List ℕ} → xs ≡ ys → Laid l l₁ at b ys
  laid_as e = subst (λ (k : List ℕ). Laid l l₁ at b k) e first

  pub then : {l₂ : List ℕ} {c : ℕ} {ys : List ℕ} → Laid l₁ l₂ b c ys → Laid l l₂ at c (xs ++ ys)
  then {l₂} {c} {ys} second =
      record {
        laid =
            second.laid
            ∙ ap (λ (k : List ℕ). sets k b ys) first.laid
            ∙ ap (λ (k : ℕ). sets (sets l at xs) k ys) first.behind
            ∙ sets_then l at xs ys;
        behind = let e = length-append xs ys in let f = first.behind in let g = second.behind in omega arith;
      }

  pub laid_length : length l₁ ≡ length l
  laid_length = ap length first.laid ∙ length-sets l at xs

  pub room : (ys : List ℕ) → at + length (xs ++ ys) ≤ length l → b + length ys ≤ length l₁
  room ys fits = let e = length-append xs ys in let f = first.behind in let g = laid_length in omega arith

-- the next where what is laid has a known length
pub next_fit : {l l₁ : List ℕ} {at b : ℕ} {xs : List ℕ} → Laid l l₁ at b xs → (ys : List ℕ) (c : ℕ) → length ys ≡ c
    → at + length (xs ++ ys) ≤ length l
    → b + c ≤ length l₁
next_fit first ys c size fits = let e = room first ys fits in omega arith

pub first_of : (m at : ℕ) (xs ys : List ℕ) → at + length (xs ++ ys) ≤ m → at + length xs ≤ m
first_of m at xs ys fits = let e = length-append xs ys in omega arith

pub zero_room : (x m : ℕ) → x ≤ m → 0 + x ≤ m
zero_room x m h = omega arith

-- a section begins with its count
pub head_room : (n : ℕ) (bytes : List ℕ) (m at : ℕ) → at + length (bytes_of 4 n ++ bytes) ≤ m
    → (at + 4 ≤ m) × (4 ≤ 8)
head_room n bytes m at fits =
    let e = length-append (bytes_of 4 n) bytes in
    let f = length_bytes 4 n in
    (omega arith, omega arith)

-- ---- rows

-- those before the n-th, and it, are among all
pub rows_more : (f : ℕ → List ℕ) (i n : ℕ) → i < n → length (rows_of f i) + length (f i) ≤ length (rows_of f n)
unfolding rows_of
rows_more f i Prim.Native.Nat.zero below = elim below [ ]
rows_more f i (suc n) below = by (λ less. rows_more f i n less) (ltb i n) refl
  where
    by : (i < n → length (rows_of f i) + length (f i) ≤ length (rows_of f n)) → (b : Bool) → ltb i n ≡ b
        → length (rows_of f i) + length (f i) ≤ length (rows_of f n ++ f n)
    by before true e =
        let less = before (ltb-true i n e) in
        let whole = length-append (rows_of f n) (f n) in
        omega arith
    by before false e =
        let same : i ≡ n = let most = ltb-false i n e in omega arith in
        let whole = length-append (rows_of f n) (f n) in
        subst (λ (k : ℕ). length (rows_of f k) + length (f k) ≤ length (rows_of f n ++ f n)) (sym same) (omega arith)

module _ (f : ℕ → List ℕ) {l l₁ : List ℕ} {at b i : ℕ} (before : Laid l l₁ at b (rows_of f i)) where
  pub rows_then : {l₂ : List ℕ} {c : ℕ} → Laid l₁ l₂ b c (f i) → Laid l l₂ at c (rows_of f (i + 1))
  unfolding rows_of
  rows_then {l₂} {c} next = subst (λ (k : ℕ). Laid l l₂ at c (rows_of f k)) (sym (add-one i)) (then before next)

  pub rows_room : (n : ℕ) → i < n → at + length (rows_of f n) ≤ length l → b + length (f i) ≤ length l₁
  rows_room n below fits =
      let e = rows_more f i n below in
      let g = before.behind in
      let h = laid_length before in
      omega arith

  -- the same where each row has one length
  pub rows_fit : (c : ℕ) → ((j : ℕ) → length (f j) ≡ c) → (n : ℕ) → i < n → at + length (rows_of f n) ≤ length l
      → b + c ≤ length l₁
  rows_fit c each n below fits =
      let e = rows_room n below fits in
      let g = each i in
      omega arith

  -- after the last row
  pub rows_all : (n : ℕ) → i ≤ n → n ≤ i → Laid l l₁ at b (rows_of f n)
  rows_all n most least =
      let same : i ≡ n = omega arith in
      subst (λ (k : ℕ). Laid l l₁ at b (rows_of f k)) same before

-- ---- rows of a loop that counts them in another way

pub rows_start : (f : ℕ → List ℕ) (l : List ℕ) (at i : ℕ) → i ≡ 0 → Laid l l at at (rows_of f i)
unfolding rows_of
rows_start f l at i e = rw e (none_laid l at)

module _ (f : ℕ → List ℕ) {l l₁ : List ℕ} {at b i : ℕ} (before : Laid l l₁ at b (rows_of f i)) {ys : List ℕ}
    (same : ys ≡ f i) where
  pub rows_next : {l₂ : List ℕ} {c : ℕ} (k : ℕ) → k ≡ i + 1 → Laid l₁ l₂ b c ys → Laid l l₂ at c (rows_of f k)
  rows_next {l₂} {c} k e next =
      subst (λ (j : ℕ). Laid l l₂ at c (rows_of f j)) (sym e) (rows_then f before (laid_as next same))

  pub rows_space : (n : ℕ) → i < n → at + length (rows_of f n) ≤ length l → b + length ys ≤ length l₁
  rows_space n below fits = let e = rows_room f before n below fits in omega (arith, ap length same)

pub bytes_as : {w v : ℕ} (v' : ℕ) → w ≡ v → bytes_of w v' ≡ bytes_of v v'
bytes_as v' e = ap (λ (k : ℕ). bytes_of k v') e
