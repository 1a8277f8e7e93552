-- Loops over runs of the bank's words.
use Prim.Native.Nat.{ℕ, suc, ◌+◌, ◌*◌, ◌≤◌, ◌<◌}
use mathlib.Core.Path.{◌≡◌, refl, sym, ap, subst, ◌∙◌}
use mathlib.Core.Bool.{Bool, true, false}
use mathlib.Core.List.{List}
use native.Mathlib.Omega.{arith}
use native.Mathlib.Numerals.{add-one}
use lib.Dec.{ltb}
use lib.Ieee.{Float}
use lib.ListN.{set}
use borrow.Author.Tests.{ltb-true, ltb-false}
use Rattle.session.specs.Fields.{number}
use Rattle.session.specs.Layout.{width_at, cells_long}
use Rattle.session.specs.Read.{cells_read, float_at, floats_read}

-- those before the n-th, and it, are among all
pub long_more : (from i n : ℕ) → i < n → cells_long from i + width_at (from + i) ≤ cells_long from n
unfolding cells_long
long_more from i Prim.Native.Nat.zero below = elim below [ ]
long_more from i (suc n) below = by (λ less. long_more from i n less) (ltb i n) refl
  where
    by : (i < n → cells_long from i + width_at (from + i) ≤ cells_long from n) → (b : Bool) → ltb i n ≡ b
        → cells_long from i + width_at (from + i) ≤ cells_long from n + width_at (from + n)
    by before true e = let less = before (ltb-true i n e) in omega arith
    by before false e =
        let same : i ≡ n = let most = ltb-false i n e in omega arith in
        subst (λ (k : ℕ). cells_long from k + width_at (from + k) ≤ cells_long from n + width_at (from + n)) (sym same)
        (omega arith)

pub long_on : (from i : ℕ) → cells_long from (i + 1) ≡ cells_long from i + width_at (from + i)
unfolding cells_long
long_on from i = rw (add-one i)

-- one cell more
pub record CellsSoFar (s : List ℕ) (at : ℕ) (l₀ : List ℕ) (from i : ℕ) (l : List ℕ) (next : ℕ) : Type 0 where
  pub is : l ≡ cells_read s at l₀ from i
  pub place : next ≡ at + cells_long from i

pub cells_start : (s : List ℕ) (at : ℕ) (l : List ℕ) (from i : ℕ) → i ≡ 0 → CellsSoFar s at l from i l at
unfolding cells_read cells_long
cells_start s at l from i e = rw e (record { is = refl; place = omega arith })

-- the next is the place p of the list
module _ {s : List ℕ} {at : ℕ} {l₀ : List ℕ} {from i : ℕ} {l : List ℕ} {next : ℕ}
    (so_far : CellsSoFar s at l₀ from i l next) {p : ℕ} (there : p ≡ from + i) where
  pub cells_room : {w m : ℕ} → w ≡ width_at p → (n : ℕ) → i < n → at + cells_long from n ≤ m → next + w ≤ m
  cells_room here_wide n below fits =
      let e = here_wide ∙ ap (λ (k : ℕ). width_at k) there in
      let more = long_more from i n below in
      let here = so_far.place in
      omega arith

  pub cells_on : {w v k : ℕ} → w ≡ width_at p → v ≡ number s next w → k ≡ i + 1
      → CellsSoFar s at l₀ from k (set l p v) (next + w)
  unfolding cells_read
  cells_on {w} {v} {k} wide f later =
      let e : w ≡ width_at (from + i) = wide ∙ ap (λ (j : ℕ). width_at j) there in
      record {
        is = rw (later, add-one i, f, e, so_far.place, so_far.is, there);
        place = rw later (let on = long_on from i in let here = so_far.place in omega arith);
      }

module _ {s : List ℕ} {at : ℕ} {l₀ : List ℕ} {from i : ℕ} {l : List ℕ} {next : ℕ}
    (so_far : CellsSoFar s at l₀ from i l next) where
  pub cells_all : (n : ℕ) → i ≤ n → n ≤ i → l ≡ cells_read s at l₀ from n
  cells_all n most least =
      let same : i ≡ n = omega arith in
      so_far.is ∙ ap (λ (k : ℕ). cells_read s at l₀ from k) same

-- one float more
pub record FloatsSoFar (s : List ℕ) (at : ℕ) (f₀ : List Float) (from i : ℕ) (f : List Float) (next : ℕ) : Type 0 where
  pub is : f ≡ floats_read s at f₀ from i
  pub place : next ≡ at + 8 * i

pub floats_start : (s : List ℕ) (at : ℕ) (f : List Float) (from i : ℕ) → i ≡ 0 → FloatsSoFar s at f from i f at
unfolding floats_read
floats_start s at f from i e = rw e (record { is = refl; place = omega arith })

module _ {s : List ℕ} {at : ℕ} {f₀ : List Float} {from i : ℕ} {f : List Float} {next : ℕ}
    (so_far : FloatsSoFar s at f₀ from i f next) where
  pub floats_on : {p : ℕ} → p ≡ from + i → {x : Float} → x ≡ float_at s next → {k : ℕ} → k ≡ i + 1
      → FloatsSoFar s at f₀ from k (set f p x) (next + 8)
  unfolding floats_read
  floats_on there e later =
      record {
        is = rw (later, add-one i, e, so_far.place, so_far.is, there);
        place = let here = so_far.place in omega (arith, later);
      }

  pub floats_all : (n : ℕ) → i ≤ n → n ≤ i → f ≡ floats_read s at f₀ from n
  floats_all n most least =
      let same : i ≡ n = omega arith in
      so_far.is ∙ ap (λ (k : ℕ). floats_read s at f₀ from k) same
