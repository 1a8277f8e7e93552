-- What a search tells.
use Prim.Native.Nat.{ℕ, zero, suc, ◌+◌, ◌-◌, ◌^◌, ◌<◌, ◌≤◌}
use mathlib.Core.Path.{◌≡◌, subst}
use mathlib.Core.List.{List, [], ◌∷◌}
use mathlib.Core.Logic.{◌≢◌}
use native.Mathlib.Nat.{two-pow-succ}
use native.Mathlib.Omega.{arith}
use lib.ListN.{length, get_or}
use borrow.Author.Tests.{eq-eqb, ne_eqb, lt-ltb, le-ltb}
use Rattle.registers.specs.Words.{halved, halving, place}
use Rattle.registers.specs.Ports.{index}
use Rattle.whole.proofs.Choice.{by_same, by_less}

-- ---- by halves

-- the last of the next half of the places
module _ (l : List ℕ) (k i half : ℕ) where
  pub halved_past : k < get_or l (i + half - 1) 0 → i + half ≡ halved l k i half
  unfolding halved
  halved_past h = rw (lt-ltb _ _ h)

  pub halved_here : get_or l (i + half - 1) 0 ≤ k → i ≡ halved l k i half
  unfolding halved
  halved_here h = rw (le-ltb _ _ h)

module _ (l : List ℕ) (k : ℕ) (falling : (i j : ℕ) → i ≤ j → get_or l j 0 ≤ get_or l i 0) where
  -- every place before i holds more than the key
  abbrev More : ℕ → Type 0
  More i = (j : ℕ) → j < i → k < get_or l j 0

  -- n halvings from place i on end at place r; but for the last place that they can end at, it does not hold more
  record Found (n i r : ℕ) : Type 0 where
    within : r < i + 2 ^ n
    stops : r + 1 < i + 2 ^ n → get_or l r 0 ≤ k
    more : More r

  -- the first half is passed
  upper : (n i r : ℕ) → Found n (i + 2 ^ n) r → Found (suc n) i r
  upper n i r f = record {
    within = omega (arith, two-pow-succ n, f.within);
    stops = λ less. f.stops (omega (arith, two-pow-succ n));
    more = f.more;
  }

  -- or the second one is left out
  lower : (n i r : ℕ) → get_or l (i + 2 ^ n - 1) 0 ≤ k → Found n i r → Found (suc n) i r
  lower n i r at f = record {
    within = omega (arith, two-pow-succ n, f.within);
    stops = λ less. by_less (r + 1) (i + 2 ^ n) f.stops
        (λ last. let e : i + 2 ^ n - 1 ≡ r = omega (arith, f.within) in subst (λ (m : ℕ). get_or l m 0 ≤ k) e at);
    more = f.more;
  }

  found : (n i : ℕ) → More i → Found n i (halving n l k i)
  unfolding halving
  found zero i more = record { within = omega arith; stops = λ less. absurd (omega arith); more = more }
  found (suc n) i more =
      by_less k (get_or l (i + 2 ^ n - 1) 0)
      (λ past.
      rw (← halved_past l k i (2 ^ n) past)
      (upper n i _ (found n (i + 2 ^ n) (λ j less. omega (arith, falling j (i + 2 ^ n - 1) (omega arith))))))
      (λ here. rw (← halved_here l k i (2 ^ n) here) (lower n i _ here (found n i more)))

  found_place : Found 8 0 (place l k)
  unfolding place
  found_place = found 8 0 (λ j less. absurd (omega arith))

  pub place_within : place l k < 256
  place_within = found_place.within

  pub place_more : (j : ℕ) → j < place l k → k < get_or l j 0
  place_more = found_place.more

  pub place_stops : place l k < 255 → get_or l (place l k) 0 ≤ k
  place_stops less = found_place.stops (omega arith)

-- ---- in a list
pub index_most : (l : List ℕ) (k : ℕ) → index l k ≤ length l
unfolding index
index_most [] k = omega arith
index_most (x ∷ xs) k =
    by_same x k
    (λ here. rw (eq-eqb x k here) (omega arith))
    (λ other. rw (ne_eqb x k other) (omega (arith, index_most xs k)))

pub index_hit : (l : List ℕ) (k : ℕ) → index l k < length l → get_or l (index l k) 0 ≡ k
unfolding index
index_hit [] k less = absurd (omega arith)
index_hit (x ∷ xs) k less =
    by_same x k
    (λ here. rw (eq-eqb x k here) here)
    (λ other. rw (ne_eqb x k other) (index_hit xs k (rest other less)))
  where
    rest : x ≢ k → index (x ∷ xs) k < length (x ∷ xs) → index xs k < length xs
    rest other h = omega (arith, rw (ne_eqb x k other) at h)
