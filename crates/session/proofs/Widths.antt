-- How many bytes a cell takes: at most eight, and none past the last.
use Prim.Native.Nat.{ℕ, suc, ◌≤◌, ◌<◌}
use mathlib.Core.Path.{◌≡◌, refl, sym, ap, ◌∙◌}
use mathlib.Core.Bool.{Bool, true, false}
use native.Mathlib.Omega.{arith}
use lib.Dec.{ltb, leb}
use lib.ListN.{get_or-eq_default}
use borrow.Author.Tests.{ltb-true, ltb-false, leb-true}
use Rattle.session.specs.Fields.{all_below}
use Rattle.session.specs.Layout.{widths, width_at}
use Rattle.whole.proofs.Choice.{both}

all_at : (f : ℕ → Bool) (n i : ℕ) → all_below f n ≡ true → i < n → f i ≡ true
unfolding all_below
all_at f Prim.Native.Nat.zero i all below = elim below [ ]
all_at f (suc n) i all below = by (λ less. all_at f n i (both (f n) (all_below f n) all).1 less) (ltb i n) refl
  where
    by : (i < n → f i ≡ true) → (b : Bool) → ltb i n ≡ b → f i ≡ true
    by before true e = before (ltb-true i n e)
    by before false e =
        let same : i ≡ n = let most = ltb-false i n e in omega arith in
        ap f same ∙ (both (f n) (all_below f n) all).0

all_narrow : all_below (λ i. leb (width_at i) 8) 51 ≡ true
unfolding all_below widths
all_narrow = refl

pub narrow : (i : ℕ) → i < 51 → width_at i ≤ 8
narrow i below = leb-true (width_at i) 8 (all_at (λ j. leb (width_at j) 8) 51 i all_narrow below)

pub none_past : (i : ℕ) → 51 ≤ i → 0 ≡ width_at i
unfolding widths
none_past i past = sym (get_or-eq_default widths 0 {n = i} past)
