-- Sound events taken in bulk leave what as many events taken one by one leave, in any state.
use Prim.Native.Nat.{ℕ, zero, suc, ◌-◌, ◌≤◌, ◌<◌}
use mathlib.Core.Path.{◌≡◌, refl, sym, ap, ◌∙◌}
use mathlib.Core.Bool.{cond}
use mathlib.Core.List.{List}
use native.Mathlib.Omega.{arith}
use lib.Dec.{eqb}
use lib.Ieee.{Float}
use lib.ListN.{length, replicate}
use borrow.Author.Tests.{lt-ltb, le-ltb, ne_eqb}
use Rattle.whole.proofs.Choice.{by_less}
use Rattle.timer.specs.declared.Event.{Event}
use Rattle.timer.specs.declared.Queue.{Queue}
use Rattle.timer.specs.declared.Ring.{Ring}
use Rattle.timer.specs.Events.{ring_of, place_of, skipped, cleared, without, fit_of, TakeOutcome, bulk_of}
use Rattle.timer.proofs.Waiting.{take_some}
use Rattle.system.specs.System.{Machine, with_queue}
use Rattle.system.specs.Calls.{take_of}
use Rattle.system.specs.Steps.{take_event, step, after, with_system}
use Rattle.live.specs.Live.{took_many, take_many}

-- ---- one event less, and then some

-- the ring without its oldest event, where two wait or more
abbrev next : Ring → Ring
next ring = ring_of (place_of ring 1) (ring.count - 1)

next_place : (ring : Ring) (i : ℕ) → place_of (next ring) i ≡ place_of ring (suc i)
next_place ring i = omega arith

next_cleared : (ring : Ring) (n : ℕ) (l : List Float)
    → cleared (next ring) n (cleared ring 1 l) ≡ cleared ring (suc n) l
unfolding cleared
next_cleared ring zero l = refl
next_cleared ring (suc n) l = rw (next_cleared ring n l, next_place ring n)

next_skipped : (ring : Ring) (n : ℕ) → suc n ≤ ring.count → skipped (next ring) n ≡ skipped ring (suc n)
unfolding skipped
next_skipped ring n h =
    by_less (suc n) ring.count
    (λ l. let m : n < ring.count - 1 = omega arith in
    let c : ring.count - 1 - n ≡ ring.count - suc n = omega arith in
    rw (lt-ltb _ _ l, lt-ltb _ _ m, next_place ring n, c))
    (λ m. let l : ring.count - 1 ≤ n = omega arith in rw (le-ltb _ _ m, le-ltb _ _ l))

first_skipped : (ring : Ring) → 1 < ring.count → skipped ring 1 ≡ next ring
unfolding skipped
first_skipped ring h = rw (lt-ltb 1 ring.count h)

without_more : (q : Queue) (n : ℕ) → suc (suc n) ≤ q.ring.count
    → without (without q 1) (suc n) ≡ without q (suc (suc n))
without_more q n h =
    let some : 1 < q.ring.count = omega arith in
    rw (
      first_skipped q.ring some,
      next_cleared q.ring (suc n) q.onsets,
      next_cleared q.ring (suc n) q.frequencies,
      next_cleared q.ring (suc n) q.duties,
      next_skipped q.ring (suc n) h,
    )

-- ---- the machine

abbrev less : Machine → ℕ → Machine
less m n = with_system m (with_queue m.system (without m.system.queue n))

one_taken : (m : Machine) → 0 < m.system.queue.ring.count → (step m take_event).machine ≡ less m 1
unfolding step take_of
one_taken m h =
    ap (λ (z : TakeOutcome). with_system m (with_queue m.system z.queue))
    (take_some m.system.queue (λ none. omega arith))

-- the ring's count is one less
one_less : (m : Machine) (n : ℕ) → suc (suc n) ≤ m.system.queue.ring.count
    → suc n ≤ (less m 1).system.queue.ring.count
one_less m n h =
    let some : 1 < m.system.queue.ring.count = omega arith in
    rw (first_skipped m.system.queue.ring some) (omega arith)

taken_each : (n : ℕ) (m : Machine) → suc n ≤ m.system.queue.ring.count
    → after m (replicate (suc n) take_event) ≡ less m (suc n)
unfolding after replicate
taken_each zero m h = one_taken m (omega arith)
taken_each (suc n) m h =
    ap (λ (z : Machine). after z (replicate (suc n) take_event)) (one_taken m (omega arith))
    ∙ taken_each n (less m 1) (one_less m n h)
    ∙ ap (λ (q : Queue). with_system m (with_queue m.system q)) (without_more m.system.queue n h)

-- no more than wait
fit_most : (count room : ℕ) → fit_of count room ≤ count
unfolding fit_of
fit_most count room =
    by_less count room (λ l. rw (lt-ltb _ _ l) (omega arith)) (λ m. rw (le-ltb _ _ m) m)

pub takes_each : (m : Machine) (records : List Event)
    → (take_many m records).machine
    ≡ after m (replicate (fit_of m.system.queue.ring.count (length records)) take_event)
unfolding take_many after replicate
takes_each m records = by (fit_of m.system.queue.ring.count (length records)) (fit_most _ _)
  where
    by : (n : ℕ) → n ≤ m.system.queue.ring.count
        → (cond (eqb n 0) (took_many 0 m records) (took_many n (less m n) (bulk_of m.system.queue records).records)
        ).machine
        ≡ after m (replicate n take_event)
    by zero h = refl
    by (suc n) h = rw (ne_eqb (suc n) 0 (λ z. omega arith)) (sym (taken_each n m h))
