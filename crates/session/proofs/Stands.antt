-- Bytes that stand at a place of a session: parts of them, and several one behind the other. With this one predicate
-- both are shown, that what is written is read back and that writing what was read gives the same bytes.
use Prim.Native.Nat.{ℕ, zero, suc, ◌+◌, ◌*◌, ◌/◌, ◌%◌, ◌≤◌, ◌<◌}
use mathlib.Core.Path.{◌≡◌, refl, sym, ap, subst, ◌∙◌}
use mathlib.Core.Bool.{Bool, true, false}
use mathlib.Core.List.{List, ◌∷◌, ◌++◌}
use native.Mathlib.Nat.{mul-suc}
use native.Mathlib.Numerals.{add-one}
use native.Mathlib.Omega.{arith}
use lib.Dec.{ltb}
use lib.ListN.{length, get_or, take, drop, length-append}
use lib.Seq.{take-append_seam, drop-append_seam, take-take, take-add, drop-drop, drop-cons, get_or-take, get_or-drop}
use lib.Seq.{take-length}
use borrow.Author.Tests.{ltb-true, ltb-false}
use Rattle.memory.specs.Bytes.{bytes_of}
use Rattle.session.specs.Fields.{number, span, part, rows_of}
use Rattle.session.proofs.Digits.{length_bytes}

abbrev pub Stands : List ℕ → ℕ → List ℕ → Type 0
Stands s at b = part s at (length b) ≡ b

module _ (s : List ℕ) (at : ℕ) (xs ys : List ℕ) where
  together : part s at (length (xs ++ ys)) ≡ part s at (length xs) ++ part s (at + length xs) (length ys)
  together =
      ap (λ (k : ℕ). take k (drop at s)) (length-append xs ys)
      ∙ take-add (length xs) (length ys) (drop at s)
      ∙ ap (λ (l : List ℕ). part s at (length xs) ++ take (length ys) l) (drop-drop (length xs) at s)

  pub stands_first : Stands s at (xs ++ ys) → Stands s at xs
  stands_first h =
      sym (take-take (length xs) (length (xs ++ ys)) (drop at s) (let e = length-append xs ys in omega arith))
      ∙ ap (λ (l : List ℕ). take (length xs) l) h ∙ take-append_seam xs ys

  pub stands_rest : Stands s at (xs ++ ys) → Stands s (at + length xs) ys
  stands_rest h =
      let first = stands_first h in
      let both : xs ++ part s (at + length xs) (length ys) ≡ xs ++ ys
      = ap (λ (l : List ℕ). l ++ part s (at + length xs) (length ys)) (sym first) ∙ sym together ∙ h in
      sym (drop-append_seam xs (part s (at + length xs) (length ys)))
      ∙ ap (λ (l : List ℕ). drop (length xs) l) both ∙ drop-append_seam xs ys

  pub stands_both : Stands s at xs → Stands s (at + length xs) ys → Stands s at (xs ++ ys)
  stands_both f g = together ∙ rw (f, g)

pub stands_whole : (s b : List ℕ) → Stands s 0 b → length b ≡ length s → b ≡ s
stands_whole s b h e = sym h ∙ ap (λ (k : ℕ). take k s) e ∙ take-length s

-- ---- numbers

number_alike : (n : ℕ) (s t : List ℕ) (at bt : ℕ) → ((i : ℕ) → i < n → get_or s (at + i) 0 ≡ get_or t (bt + i) 0)
    → number s at n ≡ number t bt n
unfolding number
number_alike zero s t at bt each = refl
number_alike (suc n) s t at bt each =
    let rest = number_alike n s t (at + 1) (bt + 1) (λ i below.
    let e : at + 1 + i ≡ at + suc i = omega arith in
    let f : bt + 1 + i ≡ bt + suc i = omega arith in
    rw (e, f) (each (suc i) (omega arith))) in
    let zero_at : at + 0 ≡ at = omega arith in
    let zero_bt : bt + 0 ≡ bt = omega arith in
    let here : get_or s at 0 ≡ get_or t bt 0 = rw (zero_at, zero_bt) at (each 0 (omega arith)) in
    rw (here, rest)

-- a number asks only its own bytes
number_part : (s : List ℕ) (at n : ℕ) → number s at n ≡ number (part s at n) 0 n
number_part s at n =
    number_alike n s (part s at n) at 0 (λ i below.
    let z : 0 + i ≡ i = omega arith in
    rw z (sym (get_or-take n (drop at s) i 0 below ∙ get_or-drop at s i 0)))

bytes_number : (n v : ℕ) → v < span n → number (bytes_of n v) 0 n ≡ v
unfolding number bytes_of span
bytes_number zero v h = omega arith
bytes_number (suc n) v h =
    let rest = bytes_number n (v / 256) (omega arith) in
    let moved = number_alike n (v % 256 ∷ bytes_of n (v / 256)) (bytes_of n (v / 256)) 1 0 (λ i below.
    let e : 1 + i ≡ suc i = omega arith in
    let z : 0 + i ≡ i = omega arith in
    rw (e, z)) in
    omega (arith, rest, moved)

pub stands_number : (s : List ℕ) (at n v : ℕ) → v < span n → Stands s at (bytes_of n v) → number s at n ≡ v
stands_number s at n v small h =
    number_part s at n
    ∙ ap (λ (l : List ℕ). number l 0 n) (ap (λ (k : ℕ). part s at k) (sym (length_bytes n v)) ∙ h)
    ∙ bytes_number n v small

number_bytes : (n at : ℕ) (s : List ℕ) → ((i : ℕ) → get_or s i 0 < 256) → at + n ≤ length s
    → part s at n ≡ bytes_of n (number s at n)
unfolding number bytes_of
number_bytes zero at s bytes fits = refl
number_bytes (suc n) at s bytes fits =
    let b = bytes at in
    let rest = number_bytes n (at + 1) s bytes (omega arith) in
    let low : (get_or s at 0 + 256 * number s (at + 1) n) % 256 ≡ get_or s at 0 = omega arith in
    let high : (get_or s at 0 + 256 * number s (at + 1) n) / 256 ≡ number s (at + 1) n = omega arith in
    ap (λ (l : List ℕ). take (suc n) l) (drop-cons s at 0 (omega arith))
    ∙ ap (λ (k : ℕ). get_or s at 0 ∷ take n (drop k s)) (sym (add-one at))
    ∙ rw (low, high) (ap (λ (l : List ℕ). get_or s at 0 ∷ l) rest)

-- the bytes of the number that stands there
pub stands_read : (s : List ℕ) (at n : ℕ) → ((i : ℕ) → get_or s i 0 < 256) → at + n ≤ length s
    → Stands s at (bytes_of n (number s at n))
stands_read s at n bytes fits =
    ap (λ (k : ℕ). part s at k) (length_bytes n (number s at n)) ∙ number_bytes n at s bytes fits

-- ---- rows

pub stands_rows : (s : List ℕ) (at : ℕ) (f : ℕ → List ℕ) (n : ℕ)
    → ((j : ℕ) → j < n → Stands s (at + length (rows_of f j)) (f j))
    → Stands s at (rows_of f n)
unfolding rows_of
stands_rows s at f zero each = refl
stands_rows s at f (suc n) each =
    stands_both s at (rows_of f n) (f n) (stands_rows s at f n (λ j below. each j (omega arith))) (each n (omega
    arith))

pub rows_stand : (s : List ℕ) (at : ℕ) (f : ℕ → List ℕ) (n : ℕ) → Stands s at (rows_of f n) → (j : ℕ) → j < n
    → Stands s (at + length (rows_of f j)) (f j)
unfolding rows_of
rows_stand s at f zero h j below = elim below [ ]
rows_stand s at f (suc n) h j below =
    by (λ less. rows_stand s at f n (stands_first s at (rows_of f n) (f n) h) j less) (ltb j n) refl
  where
    by : (j < n → Stands s (at + length (rows_of f j)) (f j)) → (b : Bool) → ltb j n ≡ b
        → Stands s (at + length (rows_of f j)) (f j)
    by before true e = before (ltb-true j n e)
    by before false e =
        let same : j ≡ n = let most = ltb-false j n e in omega arith in
        subst (λ (k : ℕ). Stands s (at + length (rows_of f k)) (f k)) (sym same)
        (stands_rest s at (rows_of f n) (f n) h)

-- rows of one length
pub rows_long : (f : ℕ → List ℕ) (c n : ℕ) → ((j : ℕ) → j < n → length (f j) ≡ c) → length (rows_of f n) ≡ c * n
unfolding rows_of
rows_long f c zero each = omega arith
rows_long f c (suc n) each =
    let before = rows_long f c n (λ j below. each j (omega arith)) in
    let here = each n (omega arith) in
    let all = length-append (rows_of f n) (f n) in
    let more : c * suc n ≡ c * n + c = mul-suc c n in
    omega arith
