-- The same events in the first places: they wait in the same order, and the queue is canonical.
use mathlib.Core.Path.{◌≡◌, refl, sym, ap, subst, ◌∙◌}
use mathlib.Core.Bool.{Bool, true, false, cond}
use mathlib.Core.List.{List}
use Prim.Native.Nat.{ℕ, zero, suc, ◌+◌, ◌<◌, ◌≤◌}
use native.Mathlib.Omega.{arith}
use lib.Dec.{ltb}
use lib.Ieee.{Float, nan}
use lib.ListN.{get_or}
use borrow.Author.Tests.{lt-ltb, le-ltb, ltb-true, ltb-false}
use Rattle.whole.proofs.Rows.{length_tabled, get_or_tabled}
use Rattle.timer.specs.declared.Ring.{Ring}
use Rattle.timer.specs.declared.Queue.{Queue}
use Rattle.timer.specs.Events.{ring_of, place_of, event_of, waiting_from, waiting}
use Rattle.timer.specs.Canonical.{Tidy, Canonical}
use Rattle.timer.specs.Within.{EventWithin, EventsWithin}
use Rattle.timer.specs.Straight.{held_of, straight_at, straight, straightened}

-- as many as wait, and at most 256
held_most : (ring : Ring) → (held_of ring ≤ 256) × (held_of ring ≤ ring.count)
held_most ring = by (ltb ring.count 256) refl
  where
    by : (b : Bool) → ltb ring.count 256 ≡ b
        → (cond b ring.count 256 ≤ 256) × (cond b ring.count 256 ≤ ring.count)
    by true h = let l : ring.count < 256 = ltb-true ring.count 256 h in (omega arith, omega arith)
    by false h = let l : 256 ≤ ring.count = ltb-false ring.count 256 h in (omega arith, omega arith)

held_all : (ring : Ring) → ring.count ≤ 256 → held_of ring ≡ ring.count
held_all ring most = by (ltb ring.count 256) refl
  where
    by : (b : Bool) → ltb ring.count 256 ≡ b → cond b ring.count 256 ≡ ring.count
    by true h = refl
    by false h = let l : 256 ≤ ring.count = ltb-false ring.count 256 h in omega arith

-- ---- one array

module _ (ring : Ring) (l : List Float) where
  straight_at_lem : (n i : ℕ) → i < 256 → get_or (straight ring l) (place_of (ring_of 0 n) i) nan ≡ straight_at ring l i
  unfolding straight
  straight_at_lem n i small =
      let first : place_of (ring_of 0 n) i ≡ i = omega arith in
      ap (λ (p : ℕ). get_or (straight ring l) p nan) first ∙ get_or_tabled (λ i. straight_at ring l i) 256 i nan small

  straight_waits : (n i : ℕ) → i < held_of ring
      → get_or (straight ring l) (place_of (ring_of 0 n) i) nan ≡ get_or l (place_of ring i) nan
  straight_waits n i less =
      straight_at_lem n i (omega (arith, (held_most ring).0)) ∙ rw (lt-ltb i (held_of ring) less)

  straight_tidy : Tidy (ring_of 0 (held_of ring)) (straight ring l)
  unfolding straight
  straight_tidy = record {
    size = length_tabled (λ i. straight_at ring l i) 256;
    free = λ i least small. straight_at_lem (held_of ring) i small ∙ rw (le-ltb i (held_of ring) least);
  }

-- ---- the queue

pub straight_canonical : (q : Queue) → Canonical (straightened q)
unfolding straightened
straight_canonical q = record {
  onsets = straight_tidy q.ring q.onsets;
  frequencies = straight_tidy q.ring q.frequencies;
  duties = straight_tidy q.ring q.duties;
  most = (held_most q.ring).0;
  within = omega arith;
  start = λ none. refl;
}

straight_event : (q : Queue) (i : ℕ) → i < held_of q.ring → event_of (straightened q) i ≡ event_of q i
unfolding straightened
straight_event q i less =
    rw (
      straight_waits q.ring q.onsets (held_of q.ring) i less,
      straight_waits q.ring q.frequencies (held_of q.ring) i less,
      straight_waits q.ring q.duties (held_of q.ring) i less,
    )

straight_from : (q : Queue) (i n : ℕ) → i + n ≤ held_of q.ring → waiting_from (straightened q) i n ≡ waiting_from q i n
unfolding waiting_from
straight_from q i zero most = refl
straight_from q i (suc n) most =
    rw (straight_event q i (omega arith), straight_from q (suc i) n (omega arith))

-- THE SAME EVENTS WAIT, in the same order
pub straight_waiting : (q : Queue) → Canonical q → waiting (straightened q) ≡ waiting q
unfolding waiting straightened
straight_waiting q good =
    let all : held_of q.ring ≡ q.ring.count = held_all q.ring good.most in
    straight_from q 0 (held_of q.ring) (omega arith) ∙ ap (waiting_from q 0) all

pub straight_events : (q : Queue) → EventsWithin q → EventsWithin (straightened q)
unfolding straightened
straight_events q all i less =
    subst EventWithin (sym (straight_event q i less)) (all i (omega (arith, (held_most q.ring).1)))
