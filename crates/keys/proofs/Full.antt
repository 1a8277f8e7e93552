-- KeysFull: a press is refused for want of a place exactly where 64 presses wait.
use Prim.Native.Nat.{ℕ, zero, suc, ◌+◌, ◌≤◌, ◌<◌}
use mathlib.Core.Path.{◌≡◌, refl, sym, ap, ◌∙◌}
use mathlib.Core.Bool.{Bool, true, false, cond, true≢false}
use mathlib.Core.List.{List}
use mathlib.Core.Logic.{◌⊎◌, inl, inr}
use native.Mathlib.Omega.{arith}
use lib.Dec.{ltb, leb, eqb}
use lib.ListN.{get_or}
use lib.Ieee.{Float, nan}
use borrow.Author.Tests.{ltb-true, ltb-false, eq-eqb, ne_eqb}
use Rattle.map.specs.Numbers.{BAD_KEY, BAD_TIME, DONE, KEYS_FULL}
use Rattle.whole.proofs.Choice.{lt_or_ge}
use Rattle.whole.specs.Limits.{good_time}
use Rattle.keys.specs.Script.{places_of, waits, waiting_in, free_from, free_of, Script, outcome, put_of, press_of}
use Rattle.keys.proofs.Cases.{places_most, from_waits, from_expired}

module _ (starts : List Float) (now : Float) where
  abbrev waits_at : ℕ → Bool
  waits_at i = waits (get_or starts i nan) now

  abbrev found : ℕ → ℕ → ℕ
  found n i = free_from n i starts now

  -- ---- the search stays within its places
  abbrev Between : ℕ → ℕ → Type 0
  Between n i = (i ≤ found n i) × (found n i ≤ i + n)

  pub free_between : (n i : ℕ) → Between n i
  unfolding free_from
  free_between zero i = (omega arith, omega arith)
  free_between (suc n) i = by (waits_at i) refl (free_between n (i + 1))
    where
      by : (b : Bool) → waits_at i ≡ b → Between n (i + 1) → Between (suc n) i
      by true h w = let e : found (suc n) i ≡ found n (i + 1) = from_waits starts now n i h in
          (omega arith, omega arith)
      by false h w = let e : found (suc n) i ≡ i = from_expired starts now n i h in (omega arith, omega arith)

  -- before the place that is found every press waits
  free_before : (n i j : ℕ) → i ≤ j → j < found n i → waits_at j ≡ true
  unfolding free_from
  free_before zero i j l m = absurd (let z : ⊥ = omega arith in z)
  free_before (suc n) i j l m = by (waits_at i) refl (free_before n (i + 1) j) (lt_or_ge i j)
    where
      by : (b : Bool) → waits_at i ≡ b → (i + 1 ≤ j → j < found n (i + 1) → waits_at j ≡ true)
          → (i < j) ⊎ (j ≤ i) → waits_at j ≡ true
      by true h r (inl k) =
          let e : found (suc n) i ≡ found n (i + 1) = from_waits starts now n i h in r (omega arith) (omega arith)
      by true h r (inr k) = let e : j ≡ i = omega arith in ap waits_at e ∙ h
      by false h r k = let e : found (suc n) i ≡ i = from_expired starts now n i h in absurd
          (let z : ⊥ = omega arith in z)

  -- and the press at the place that is found has expired
  pub free_at : (n i : ℕ) → found n i < i + n → waits_at (found n i) ≡ false
  unfolding free_from
  free_at zero i l = absurd (let z : ⊥ = omega arith in z)
  free_at (suc n) i l = by (waits_at i) refl (free_at n (i + 1))
    where
      by : (b : Bool) → waits_at i ≡ b → (found n (i + 1) < (i + 1) + n → waits_at (found n (i + 1)) ≡ false)
          → waits_at (found (suc n) i) ≡ false
      by true h r = let e : found (suc n) i ≡ found n (i + 1) = from_waits starts now n i h in ap waits_at e ∙ r
          (omega arith)
      by false h r = ap waits_at (from_expired starts now n i h) ∙ h

  -- ---- the count of those that wait
  abbrev many : ℕ → ℕ
  many n = waiting_in starts now n

  pub many_step : (n : ℕ) (b : Bool) → waits_at n ≡ b → many (suc n) ≡ cond b (many n + 1) (many n)
  unfolding waiting_in
  many_step n b h = rw h

  pub many_most : (n : ℕ) → many n ≤ n
  unfolding waiting_in
  many_most zero = omega arith
  many_most (suc n) = by (waits_at n) refl (many_most n)
    where
      by : (b : Bool) → waits_at n ≡ b → many n ≤ n → many (suc n) ≤ suc n
      by true h l = let e : many (suc n) ≡ many n + 1 = many_step n true h in omega arith
      by false h l = let e : many (suc n) ≡ many n = many_step n false h in omega arith

  many_all : (n : ℕ) → ((j : ℕ) → j < n → waits_at j ≡ true) → many n ≡ n
  unfolding waiting_in
  many_all zero all = refl
  many_all (suc n) all =
      let e : many (suc n) ≡ many n + 1 = many_step n true (all n (omega arith)) in
      let r : many n ≡ n = many_all n (λ j l. all j (omega arith)) in
      omega arith

  many_lack : (n j : ℕ) → j < n → waits_at j ≡ false → many n < n
  unfolding waiting_in
  many_lack zero j l g = absurd (let z : ⊥ = omega arith in z)
  many_lack (suc n) j l g = by (waits_at n) refl (λ k. many_lack n j k g) (lt_or_ge j n)
    where
      by : (b : Bool) → waits_at n ≡ b → (j < n → many n < n) → (j < n) ⊎ (n ≤ j) → many (suc n) < suc n
      by true h r (inl k) =
          let e : many (suc n) ≡ many n + 1 = many_step n true h in
          let m : many n < n = r k in
          omega arith
      by true h r (inr k) = let e : n ≡ j = omega arith in absurd (true≢false (sym h ∙ ap waits_at e ∙ g))
      by false h r k =
          let e : many (suc n) ≡ many n = many_step n false h in
          let m : many n ≤ n = many_most n in
          omega arith

  -- no place is found exactly where 64 wait
  full : (n : ℕ) → n ≤ 64 → ◌≡◌ {A = ℕ} (cond (ltb (found n 0) 64) 0 3) (cond (eqb (many n) 64) 3 0)
  full n l = by (ltb (found n 0) 64) refl
    where
      by : (b : Bool) → ltb (found n 0) 64 ≡ b → ◌≡◌ {A = ℕ} (cond b 0 3) (cond (eqb (many n) 64) 3 0)
      by true h =
          let f : found n 0 < 64 = ltb-true (found n 0) 64 h in
          let w : found n 0 ≤ 0 + n = (free_between n 0).1 in
          let m : many n ≤ n = many_most n in
          rw (ne_eqb (many n) 64 (λ e. let q : found n 0 < n = omega arith in let r : many n < n = many_lack n
          (found n 0) q (free_at n 0 (omega arith)) in omega arith))
      by false h =
          let f : 64 ≤ found n 0 = ltb-false (found n 0) 64 h in
          let w : found n 0 ≤ 0 + n = (free_between n 0).1 in
          let m : many n ≡ n = many_all n (λ j k. free_before n 0 j (omega arith) (omega arith)) in
          rw (eq-eqb (many n) 64 (omega arith))

-- 8, 1, 3: KeysFull exactly where 64 presses have time + 0.15 > now
pub keys_full_lem : (s : Script) (key : ℕ) (at now : Float)
    → (press_of s key at now).refusal ≡ cond (leb key 2)
    (cond (good_time at) (cond (eqb (waiting_in s.starts now (places_of s.count)) 64) 3 0) 1) 8
unfolding press_of put_of free_of
keys_full_lem s key at now = by (leb key 2) (good_time at)
  where
    put : (b : Bool) (p : Script) → (cond b (outcome DONE p) (outcome KEYS_FULL s)).refusal ≡ cond b 0 3
    put true p = refl
    put false p = refl

    by : (a b : Bool) → (cond a (cond b (put_of s key at now) (outcome BAD_TIME s)) (outcome BAD_KEY s)).refusal
        ≡ cond a (cond b (cond (eqb (waiting_in s.starts now (places_of s.count)) 64) 3 0) 1) 8
    by false b = refl
    by true false = refl
    by true true = put (ltb (free_of s.starts s.count now) 64) _ ∙ full s.starts now (places_of s.count)
        (places_most s.count)
