-- What is stored is what is loaded; elsewhere a memory stays as it was. Each over the count of bytes.
use Prim.Native.Nat.{ℕ, zero, suc, ◌+◌, ◌*◌, ◌/◌, ◌%◌, ◌^◌, ◌≤◌, ◌<◌}
use mathlib.Core.Path.{◌≡◌, refl, ◌∙◌}
use mathlib.Core.Bool.{Bool, true, false, cond}
use mathlib.Core.List.{List}
use mathlib.Core.Logic.{◌⊎◌, inl, inr, ◌≢◌}
use native.Mathlib.Numerals.{add-one}
use native.Mathlib.Nat.{mul-suc}
use lib.Pow.{pow-add}
use native.Mathlib.Omega.{arith}
use lib.ListN.{length, get_or, set, length-set}
use lib.Seq.{sets, length-sets, get_or-set_same, get_or-set_other}
use lib.Dec.{leb}
use borrow.Author.Tests.{le-leb}
use Rattle.whole.proofs.Words.{either}
use Rattle.memory.specs.Bytes.{le, loaded, bytes_of, stored_at}

-- ---- a store that passes the end, or not
pub store_length : (m : List ℕ) (o n v : ℕ) → length (stored_at m o n v) ≡ length m
unfolding stored_at
store_length m o n v = either (λ (k : List ℕ). length k ≡ length m) (leb (o + n) (length m)) (sets m o (bytes_of n v))
    m (length-sets m o (bytes_of n v)) refl

-- ---- bytes outside what is stored

-- a place before o, or from o + n on
abbrev pub Outside : ℕ → ℕ → ℕ → Type 0
Outside o n p = (p < o) ⊎ (o + n ≤ p)

sets_other : (n : ℕ) (m : List ℕ) (o v p : ℕ) → Outside o n p → get_or (sets m o (bytes_of n v)) p 0 ≡ get_or m p 0
unfolding bytes_of
sets_other zero m o v p h = refl
sets_other (suc n) m o v p h = sets_other n (set m o (v % 256)) (suc o) (v / 256) p (later h) ∙ get_or-set_other m o p
    (v % 256) 0 (apart h)
  where
    later : Outside o (suc n) p → Outside (suc o) n p
    later (inl l) = inl (omega arith)
    later (inr l) = inr (omega arith)

    apart : Outside o (suc n) p → p ≢ o
    apart (inl l) e = omega arith
    apart (inr l) e = omega arith

pub byte_other : (m : List ℕ) (o n v p : ℕ) → Outside o n p → get_or (stored_at m o n v) p 0 ≡ get_or m p 0
unfolding stored_at
byte_other m o n v p h = either (λ (k : List ℕ). get_or k p 0 ≡ get_or m p 0) (leb (o + n) (length m))
    (sets m o (bytes_of n v)) m (sets_other n m o v p h) refl

-- the same bytes are the same number
le_same : (n : ℕ) (k m : List ℕ) (o : ℕ) → ((i : ℕ) → o ≤ i → i < o + n → get_or k i 0 ≡ get_or m i 0) → le k o n ≡
    le m o n
unfolding le
le_same zero k m o h = refl
le_same (suc n) k m o h =
    let first : get_or k o 0 ≡ get_or m o 0 = h o (omega arith) (omega arith) in
    let rest : le k (o + 1) n ≡ le m (o + 1) n = le_same n k m (o + 1) (λ i a b. h i (omega arith) (omega arith)) in
    rw (first, rest)

pub load_other : (m : List ℕ) (o n v p k : ℕ) → ((p + k ≤ o) ⊎ (o + n ≤ p)) → loaded (stored_at m o n v) p k ≡ loaded m
    p k
unfolding loaded
load_other m o n v p k h =
    let same : le (stored_at m o n v) p k ≡ le m p k = le_same k (stored_at m o n v) m p
    (λ i a b. byte_other m o n v i (outside h i a b)) in
    rw (store_length, same)
  where
    outside : ((p + k ≤ o) ⊎ (o + n ≤ p)) → (i : ℕ) → p ≤ i → i < p + k → Outside o n i
    outside (inl l) i a b = inl (omega arith)
    outside (inr l) i a b = inr (omega arith)

-- ---- what was stored is loaded
byte_more : (n v : ℕ) → n ≤ 3 → (v % 256 + 256 * (v / 256 % 2 ^ (8 * n))) % 2 ^ 32 ≡ v % 2 ^ (8 * suc n)
byte_more zero v h = omega arith
byte_more (suc zero) v h = omega arith
byte_more (suc (suc zero)) v h = omega arith
byte_more (suc (suc (suc zero))) v h = omega arith
byte_more (suc (suc (suc (suc n)))) v h = absurd (let z : ⊥ = omega arith in z)

le_stored : (n : ℕ) (m : List ℕ) (o v : ℕ) → n ≤ 4 → o + n ≤ length m → le (sets m o (bytes_of n v)) o n ≡ v % 2 ^
    (8 * n)
unfolding le bytes_of
le_stored zero m o v h g = omega arith
le_stored (suc n) m o v h g =
    let first : get_or (sets (set m o (v % 256)) (suc o) (bytes_of n (v / 256))) o 0 ≡ v % 256
    = sets_other n (set m o (v % 256)) (suc o) (v / 256) o (inl (omega arith)) ∙ get_or-set_same m o (v % 256) 0
    (omega arith) in
    let fits : suc o + n ≤ length (set m o (v % 256)) = rw length-set (omega arith) in
    let rest : le (sets (set m o (v % 256)) (suc o) (bytes_of n (v / 256))) (suc o) n ≡ v / 256 % 2 ^ (8 * n)
    = le_stored n (set m o (v % 256)) (suc o) (v / 256) (omega arith) fits in
    rw (add-one, first, rest) (byte_more n v (omega arith))

pub load_store : (m : List ℕ) (o n v : ℕ) → n ≤ 4 → o + n ≤ length m → loaded (stored_at m o n v) o n ≡ v % 2 ^ (8 * n)
unfolding loaded stored_at
load_store m o n v h g = rw (le-leb _ _ g, length-sets, le-leb _ _ g) (le_stored n m o v h g)

-- ---- what is loaded of bytes is below 2 ^ (8 n)
le_limit : (n : ℕ) (m : List ℕ) (o : ℕ) → ((i : ℕ) → get_or m i 0 < 256) → le m o n < 2 ^ (8 * n)
unfolding le
le_limit zero m o h = omega arith
le_limit (suc n) m o h =
    let e : 2 ^ (8 * suc n) ≡ 256 * 2 ^ (8 * n) = rw mul-suc (pow-add 2 (8 * n) 8 ∙ omega arith) in
    rw e (omega (arith, h o, le_limit n m (o + 1) h))

pub load_limit : (m : List ℕ) (o n : ℕ) → ((i : ℕ) → get_or m i 0 < 256) → loaded m o n < 2 ^ (8 * n)
unfolding loaded
load_limit m o n h = by_test (leb (o + n) (length m)) (le_limit n m o h)
  where
    by_test : (t : Bool) → le m o n < 2 ^ (8 * n) → cond t (le m o n) 0 < 2 ^ (8 * n)
    by_test true l = l
    by_test false l = omega arith

-- what is loaded fits 32 bits, whatever the list holds
pub load_fits : (m : List ℕ) (o n : ℕ) → loaded m o n < 2 ^ 32
unfolding loaded le
load_fits m o n = by (leb (o + n) (length m)) n
  where
    by : (t : Bool) (n : ℕ) → cond t (le m o n) 0 < 2 ^ 32
    by false n = omega arith
    by true zero = omega arith
    by true (suc n) = omega arith
