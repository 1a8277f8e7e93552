-- Places of the ring: no two of 256 events share one, and giving places back leaves the others.
use mathlib.Core.Path.{◌≡◌, refl, ◌∙◌}
use mathlib.Core.Bool.{Bool, true, false}
use mathlib.Core.List.{List}
use mathlib.Core.Logic.{◌≢◌}
use Prim.Native.Nat.{ℕ, zero, suc, ◌+◌, ◌-◌, ◌<◌, ◌≤◌}
use native.Mathlib.Omega.{arith}
use native.Mathlib.Nat.{add_assoc, add-mod-mod, mod-add-mod}
use lib.Dec.{eqb}
use lib.Ieee.{Float, nan}
use lib.ListN.{length, get_or, set, length-set}
use lib.Seq.{get_or-set_same, get_or-set_other}
use borrow.Author.Tests.{lt-ltb, le-ltb, eqb-true, eqb-false}
use Rattle.timer.specs.declared.Ring.{Ring}
use Rattle.timer.specs.Events.{ring_of, place_of, skipped, cleared}
use Rattle.whole.specs.Forms.{nought}

pub ring_is : {h k m n : ℕ} → h ≡ k → m ≡ n → ring_of h m ≡ ring_of k n
ring_is head count = rw (head, count)

pub place_apart : (ring : Ring) (i j : ℕ) → i < j → j < 256 → place_of ring j ≢ place_of ring i
place_apart ring i j less small same = omega arith

-- once n events are gone, the i-th stands where the (n + i)-th stood
pub place_moves : (ring : Ring) (n i count : ℕ) → place_of (ring_of (place_of ring n) count) i ≡ place_of ring (n + i)
place_moves ring n i count = rw (add-mod-mod, add-mod-mod, add-mod-mod, mod-add-mod, add_assoc)

pub skipped_some : (ring : Ring) (n : ℕ) → n < ring.count → skipped ring n ≡ ring_of (place_of ring n) (ring.count - n)
unfolding skipped
skipped_some ring n less = rw (lt-ltb n ring.count less)

pub skipped_all : (ring : Ring) (n : ℕ) → ring.count ≤ n → skipped ring n ≡ ring_of 0 0
unfolding skipped
skipped_all ring n most = rw (le-ltb n ring.count most)

pub cleared_length : (ring : Ring) (n : ℕ) (l : List Float) → length (cleared ring n l) ≡ length l
unfolding cleared
cleared_length ring zero l = refl
cleared_length ring (suc n) l = length-set (cleared ring n l) (place_of ring n) nought ∙ cleared_length ring n l

-- the events after the n oldest stay
pub cleared_stays : (ring : Ring) (n j : ℕ) (l : List Float) → n ≤ j → j < 256
    → get_or (cleared ring n l) (place_of ring j) nan ≡ get_or l (place_of ring j) nan
unfolding cleared
cleared_stays ring zero j l least small = refl
cleared_stays ring (suc n) j l least small =
    get_or-set_other (cleared ring n l) (place_of ring n) (place_of ring j) nought nan
    (place_apart ring n j least small)
    ∙ cleared_stays ring n j l (omega arith) small

cleared_goes_at : (ring : Ring) (n j : ℕ) (l : List Float) → length l ≡ 256 → j < suc n
    → (j < n → get_or (cleared ring n l) (place_of ring j) nan ≡ nought) → (t : Bool)
    → eqb (place_of ring j) (place_of ring n) ≡ t
    → get_or (set (cleared ring n l) (place_of ring n) nought) (place_of ring j) nan ≡ nought
cleared_goes_at ring n j l size less before true h =
    let within : place_of ring n < length (cleared ring n l) = omega (arith, cleared_length ring n l) in
    rw (eqb-true (place_of ring j) (place_of ring n) h)
    (get_or-set_same (cleared ring n l) (place_of ring n) nought nan within)
cleared_goes_at ring n j l size less before false h =
    let apart : place_of ring j ≢ place_of ring n = eqb-false (place_of ring j) (place_of ring n) h in
    get_or-set_other (cleared ring n l) (place_of ring n) (place_of ring j) nought nan apart ∙ before (earlier apart)
  where
    earlier : place_of ring j ≢ place_of ring n → j < n
    earlier apart = omega arith

-- the places of the n oldest are zero
pub cleared_goes : (ring : Ring) (n j : ℕ) (l : List Float) → length l ≡ 256 → j < n
    → get_or (cleared ring n l) (place_of ring j) nan ≡ nought
unfolding cleared
cleared_goes ring zero j l size less = absurd (omega arith)
cleared_goes ring (suc n) j l size less =
    cleared_goes_at ring n j l size less (cleared_goes ring n j l size) (eqb (place_of ring j) (place_of ring n)) refl
