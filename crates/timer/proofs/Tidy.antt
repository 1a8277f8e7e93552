-- Every state that a run leaves is canonical; and of a canonical state the list and where it starts say all.
use mathlib.Core.Path.{◌≡◌, refl, sym, ◌∙◌, ap}
use mathlib.Core.Bool.{Bool, true, false}
use mathlib.Core.List.{List}
use Prim.Native.Nat.{ℕ, zero, suc, ◌+◌, ◌-◌, ◌%◌, ◌<◌, ◌≤◌}
use native.Mathlib.Omega.{arith}
use native.Mathlib.Nat.{add-zero, add-suc, suc-add, zero-add, le_of_suc-le-suc}
use lib.Dec.{ltb, eqb}
use lib.Ieee.{Float, nan}
use lib.ListN.{length, get_or, set, length-set, replicate, length-replicate, get_or-replicate}
use lib.Seq.{get_or-set_other, ext_get_or}
use borrow.Author.Tests.{leb-false, ltb-true, ltb-false}
use Rattle.timer.specs.declared.Event.{Event}
use Rattle.timer.specs.declared.Queue.{Queue}
use Rattle.timer.specs.declared.Ring.{Ring}
use Rattle.timer.specs.Events.{ring_of, queue_of, place_of, skipped, cleared, nothing, empty_queue, event_at}
use Rattle.timer.specs.Events.{event_of, waiting_from, waiting}
use Rattle.whole.specs.Forms.{nought}
use Rattle.timer.specs.Events.{with_last, without, full_of, put_of, take_of}
use Rattle.timer.specs.Canonical.{Tidy, Canonical}
use Rattle.timer.proofs.Places.{ring_is, place_apart, place_moves, skipped_some, skipped_all, cleared_length}
use Rattle.timer.proofs.Places.{cleared_stays, cleared_goes}
use Rattle.timer.proofs.Waiting.{waiting_count}

-- ---- empty

empty_tidy : Tidy (ring_of 0 0) (replicate 256 nought)
empty_tidy = record {
  size = length-replicate 256 nought;
  free = λ i least small. get_or-replicate 256 (place_of (ring_of 0 0) i) nought nan (omega arith);
}

pub empty_canonical : Canonical empty_queue
unfolding empty_queue
empty_canonical = record {
  onsets = empty_tidy;
  frequencies = empty_tidy;
  duties = empty_tidy;
  most = omega arith;
  within = omega arith;
  start = λ none. refl;
}

-- ---- a put

last_tidy : (ring : Ring) (l : List Float) (x : Float) → Tidy ring l → ring.count < 256
    → Tidy (ring_of ring.head (ring.count + 1)) (set l (place_of ring ring.count) x)
last_tidy ring l x tidy room = record {
  size = length-set l (place_of ring ring.count) x ∙ tidy.size;
  free = λ i least small.
      get_or-set_other l (place_of ring ring.count) (place_of ring i) x nan
      (place_apart ring ring.count i (omega arith) small)
      ∙ tidy.free i (omega arith) small;
}

last_canonical : (q : Queue) (e : Event) → Canonical q → q.ring.count < 256 → Canonical (with_last q e)
last_canonical q e good room = record {
  onsets = last_tidy q.ring q.onsets e.time good.onsets room;
  frequencies = last_tidy q.ring q.frequencies e.frequency good.frequencies room;
  duties = last_tidy q.ring q.duties e.duty good.duties room;
  most = omega arith;
  within = good.within;
  start = λ none. absurd (omega arith);
}

put_canonical_at : (q : Queue) (e : Event) (t : Bool) → full_of q.ring ≡ t → Canonical q
    → Canonical (put_of q e).queue
unfolding put_of
put_canonical_at q e true h good = rw h good
put_canonical_at q e false h good = rw h (last_canonical q e good (leb-false 256 q.ring.count h))

pub put_canonical : (q : Queue) (e : Event) → Canonical q → Canonical (put_of q e).queue
put_canonical q e good = put_canonical_at q e (full_of q.ring) refl good

-- ---- events gone

-- which event from the ring's start stands at a place
abbrev from_head : Ring → ℕ → ℕ
from_head ring place = (place + (256 - ring.head % 256)) % 256

from_head_back : (ring : Ring) (place : ℕ) → place < 256 → place_of ring (from_head ring place) ≡ place
from_head_back ring place small = omega arith

-- the j-th place is free once n events are gone: it was given back, or was free before
gone_free : (ring : Ring) (n j : ℕ) (l : List Float) (t : Bool) → ltb j n ≡ t → Tidy ring l → j < 256
    → (n ≤ j → ring.count ≤ j)
    → get_or (cleared ring n l) (place_of ring j) nan ≡ nought
gone_free ring n j l true h tidy small free = cleared_goes ring n j l tidy.size (ltb-true j n h)
gone_free ring n j l false h tidy small free =
    let after : n ≤ j = ltb-false j n h in
    cleared_stays ring n j l after small ∙ tidy.free j (free after) small

some_free : (ring : Ring) (n i : ℕ) (l : List Float) → Tidy ring l → n < ring.count → ring.count ≤ 256
    → ring.count - n ≤ i → i < 256
    → get_or (cleared ring n l) (place_of (ring_of (place_of ring n) (ring.count - n)) i) nan ≡ nought
some_free ring n i l tidy some most least small =
    ap (λ (p : ℕ). get_or (cleared ring n l) p nan) (place_moves ring n i (ring.count - n) ∙ round)
    ∙ gone_free ring n ((n + i) % 256) l (ltb ((n + i) % 256) n) refl tidy (omega arith) (λ after. omega arith)
  where
    round : place_of ring (n + i) ≡ place_of ring ((n + i) % 256)
    round = omega arith

all_free : (ring : Ring) (n i : ℕ) (l : List Float) → Tidy ring l → ring.count ≤ n → i < 256
    → get_or (cleared ring n l) (place_of (ring_of 0 0) i) nan ≡ nought
all_free ring n i l tidy all small =
    ap (λ (p : ℕ). get_or (cleared ring n l) p nan) (straight ∙ sym (from_head_back ring i small))
    ∙ gone_free ring n (from_head ring i) l (ltb (from_head ring i) n) refl tidy (omega arith) (λ after. omega arith)
  where
    straight : place_of (ring_of 0 0) i ≡ i
    straight = omega arith

cleared_tidy : (ring : Ring) (n : ℕ) (l : List Float) (t : Bool) → ltb n ring.count ≡ t → ring.count ≤ 256
    → Tidy ring l
    → Tidy (skipped ring n) (cleared ring n l)
cleared_tidy ring n l true h most tidy =
    let some : n < ring.count = ltb-true n ring.count h in
    rw (skipped_some ring n some) (record {
      size = cleared_length ring n l ∙ tidy.size;
      free = λ i least small. some_free ring n i l tidy some most least small;
    })
cleared_tidy ring n l false h most tidy =
    let all : ring.count ≤ n = ltb-false n ring.count h in
    rw (skipped_all ring n all) (record {
      size = cleared_length ring n l ∙ tidy.size;
      free = λ i least small. all_free ring n i l tidy all small;
    })

pub without_canonical : (q : Queue) (n : ℕ) → Canonical q → Canonical (without q n)
without_canonical q n good = record {
  onsets = cleared_tidy q.ring n q.onsets (ltb n q.ring.count) refl good.most good.onsets;
  frequencies = cleared_tidy q.ring n q.frequencies (ltb n q.ring.count) refl good.most
      good.frequencies;
  duties = cleared_tidy q.ring n q.duties (ltb n q.ring.count) refl good.most good.duties;
  most = skips.0;
  within = skips.1;
  start = skips.2;
}
  where
    skips_at : (t : Bool) → ltb n q.ring.count ≡ t
        → ((skipped q.ring n).count ≤ 256) × ((skipped q.ring n).head < 256) × ((skipped q.ring n).count ≡ 0
        → (skipped q.ring n).head ≡ 0)
    skips_at true h =
        let some : n < q.ring.count = ltb-true n q.ring.count h in
        rw (skipped_some q.ring n some) (omega (arith, good.most), omega arith, λ none. absurd (omega arith))
    skips_at false h =
        let all : q.ring.count ≤ n = ltb-false n q.ring.count h in
        rw (skipped_all q.ring n all) (omega arith, omega arith, λ none. refl)

    skips : ((skipped q.ring n).count ≤ 256) × ((skipped q.ring n).head < 256) × ((skipped q.ring n).count ≡ 0
        → (skipped q.ring n).head ≡ 0)
    skips = skips_at (ltb n q.ring.count) refl

take_canonical_at : (q : Queue) (t : Bool) → eqb q.ring.count 0 ≡ t → Canonical q → Canonical (take_of q).queue
unfolding take_of
take_canonical_at q true h good = rw h good
take_canonical_at q false h good = rw h (without_canonical q 1 good)

pub take_canonical : (q : Queue) → Canonical q → Canonical (take_of q).queue
take_canonical q good = take_canonical_at q (eqb q.ring.count 0) refl good

-- ---- what says all of a state

array_is_at : (ring : Ring) (l k : List Float) (j : ℕ) (t : Bool) → ltb j ring.count ≡ t → Tidy ring l
    → Tidy ring k → j < 256
    → ((i : ℕ) → i < ring.count → get_or l (place_of ring i) nan ≡ get_or k (place_of ring i) nan)
    → get_or l (place_of ring j) nan ≡ get_or k (place_of ring j) nan
array_is_at ring l k j true h tidy other small same = same j (ltb-true j ring.count h)
array_is_at ring l k j false h tidy other small same =
    let least : ring.count ≤ j = ltb-false j ring.count h in
    tidy.free j least small ∙ sym (other.free j least small)

array_is : (ring : Ring) (l k : List Float) → Tidy ring l → Tidy ring k
    → ((i : ℕ) → i < ring.count → get_or l (place_of ring i) nan ≡ get_or k (place_of ring i) nan) → l ≡ k
array_is ring l k tidy other same = ext_get_or nan l k (tidy.size ∙ sym other.size)
    (λ place less. at_place place (omega (arith, tidy.size)))
  where
    at_place : (place : ℕ) → place < 256 → get_or l place nan ≡ get_or k place nan
    at_place place small =
        rw (from_head_back ring place small)
        at (array_is_at ring l k (from_head ring place) (ltb (from_head ring place) ring.count) refl tidy other
        (omega arith) same)

event_is : (q : Queue) (j n i : ℕ) → i < n → get_or (waiting_from q j n) i nothing ≡ event_of q (j + i)
unfolding waiting_from
event_is q j zero i less = absurd (omega arith)
event_is q j (suc n) zero less = rw (add-zero j)
event_is q j (suc n) (suc i) less = event_is q (suc j) n i (le_of_suc-le-suc less) ∙ rw (suc-add j i, add-suc j i)

waiting_is : (q : Queue) (i : ℕ) → i < q.ring.count → get_or (waiting q) i nothing ≡ event_of q i
unfolding waiting
waiting_is q i less = event_is q 0 q.ring.count i less ∙ rw (zero-add i)

queue_is : {ts us fs gs ds es : List Float} {r s : Ring} → ts ≡ us → fs ≡ gs → ds ≡ es → r ≡ s
    → queue_of ts fs ds r ≡ queue_of us gs es s
queue_is onsets frequencies duties ring = rw (onsets, frequencies, duties, ring)

same_ring : (p q : Queue) → Canonical p → Canonical q → p.ring ≡ q.ring → waiting p ≡ waiting q → p ≡ q
same_ring p q good other ring wait =
    queue_is
    (array_is p.ring p.onsets q.onsets good.onsets (rw (← ring) at other).onsets
    (λ i less. ap (λ (e : Event). e.time) (same i less)))
    (array_is p.ring p.frequencies q.frequencies good.frequencies (rw (← ring) at other).frequencies
    (λ i less. ap (λ (e : Event). e.frequency) (same i less)))
    (array_is p.ring p.duties q.duties good.duties (rw (← ring) at other).duties
    (λ i less. ap (λ (e : Event). e.duty) (same i less)))
    ring
  where
    same : (i : ℕ) → i < p.ring.count → event_of p i ≡ event_at q (place_of p.ring i)
    same i less =
        sym (waiting_is p i less) ∙ ap (λ (l : List Event). get_or l i nothing) wait ∙ waiting_is q i (rw ring at less)
        ∙ ap (λ (r : Ring). event_at q (place_of r i)) (sym ring)

-- of a canonical state, the list that waits and the place where it starts say all
pub canonical_tells : (p q : Queue) → Canonical p → Canonical q → p.ring.head ≡ q.ring.head
    → waiting p ≡ waiting q → p ≡ q
canonical_tells p q good other head wait =
    let count : p.ring.count ≡ q.ring.count = sym (waiting_count p) ∙ ap length wait ∙ waiting_count q in
    same_ring p q good other (ring_is head count) wait
