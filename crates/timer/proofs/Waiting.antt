-- The ring keeps the list of waiting events: a put adds at its end, a take goes from its front, in bulk too.
use mathlib.Core.Path.{◌≡◌, refl, sym, ◌∙◌, ap}
use mathlib.Core.Bool.{Bool, true, false, cond}
use mathlib.Core.List.{List, [], ◌∷◌, ◌++◌}
use mathlib.Core.Logic.{◌≢◌}
use Prim.Native.Nat.{ℕ, zero, suc, ◌+◌, ◌-◌, ◌<◌, ◌≤◌}
use native.Mathlib.Omega.{arith}
use native.Mathlib.Nat.{add-zero, add-suc, suc-add, zero-add, sub-zero, zero-sub, suc-sub-suc}
use native.Mathlib.Numerals.{add-one}
use lib.Dec.{ltb, eqb}
use lib.Ieee.{nan}
use lib.ListN.{length, take, drop, drop_of_length-le}
use lib.Seq.{get_or-set_same, get_or-set_other}
use borrow.Author.Tests.{le-leb, lt-leb, ltb-true, ltb-false, ne_eqb, eq-eqb}
use Rattle.map.specs.Numbers.{DONE, SOUND_FULL, NO_EVENT}
use Rattle.map.specs.declared.refusals.Refusal.{Refusal}
use Rattle.map.specs.Refusals.{code_of}
use Rattle.whole.proofs.Answered.{code_above}
use Rattle.timer.specs.declared.Event.{Event}
use Rattle.timer.specs.declared.Queue.{Queue}
use Rattle.timer.specs.declared.Ring.{Ring}
use Rattle.timer.specs.Events.{ring_of, place_of, skipped, cleared, queue_of, event_at, event_of, waiting_from}
use Rattle.timer.specs.Events.{waiting, nothing, with_last, without, full_of, PutOutcome, TakeOutcome}
use Rattle.timer.specs.Events.{put_of, put_outcome, take_of, take_outcome, fit_of, laid_over, bulk_of, bulk_outcome}
use Rattle.timer.specs.Canonical.{Canonical}
use Rattle.timer.proofs.Laid.{fits, laid_is}
use Rattle.timer.proofs.Places.{ring_is, place_apart, place_moves, skipped_some, skipped_all, cleared_stays}

from_length : (q : Queue) (i n : ℕ) → length (waiting_from q i n) ≡ n
unfolding waiting_from
from_length q i zero = refl
from_length q i (suc n) = ap suc (from_length q (suc i) n)

pub waiting_count : (q : Queue) → length (waiting q) ≡ q.ring.count
unfolding waiting
waiting_count q = from_length q 0 q.ring.count

-- ---- out

-- the arrays with n places given back, and the ring that starts after them
abbrev pub oldest_gone : Queue → ℕ → Queue
oldest_gone q n =
    queue_of (cleared q.ring n q.onsets) (cleared q.ring n q.frequencies) (cleared q.ring n q.duties)
    (ring_of (place_of q.ring n) (q.ring.count - n))

pub event_moves : (q : Queue) (n i : ℕ) → n + i < 256 → event_of (oldest_gone q n) i ≡ event_of q (n + i)
event_moves q n i small =
    ap (event_at (oldest_gone q n)) (place_moves q.ring n i (q.ring.count - n))
    ∙ rw (
      cleared_stays q.ring n (n + i) q.onsets (omega arith) small,
      cleared_stays q.ring n (n + i) q.frequencies (omega arith) small,
      cleared_stays q.ring n (n + i) q.duties (omega arith) small,
    )

from_moves : (q : Queue) (n i m : ℕ) → n + i + m ≤ 256 → waiting_from (oldest_gone q n) i m ≡ waiting_from q (n + i) m
unfolding waiting_from
from_moves q n i zero small = refl
from_moves q n i (suc m) small =
    rw (event_moves q n i (omega arith), from_moves q n (suc i) m (omega (arith, add-suc n i)), add-suc n i)

from_drops : (q : Queue) (n i m : ℕ) → waiting_from q (n + i) (m - n) ≡ drop n (waiting_from q i m)
unfolding waiting_from
from_drops q zero i m = rw (zero-add i, sub-zero m)
from_drops q (suc n) i zero = rw (zero-sub (suc n))
from_drops q (suc n) i (suc m) = rw (suc-sub-suc m n, suc-add n i, ← add-suc n i) (from_drops q n (suc i) m)

pub without_some : (q : Queue) (n : ℕ) → n < q.ring.count → without q n ≡ oldest_gone q n
without_some q n less = rw (skipped_some q.ring n less)

without_waits : (q : Queue) (n : ℕ) (t : Bool) → ltb n q.ring.count ≡ t → q.ring.count ≤ 256
    → waiting (without q n) ≡ drop n (waiting q)
unfolding waiting waiting_from
without_waits q n true h most =
    let less : n < q.ring.count = ltb-true n q.ring.count h in
    ap waiting (without_some q n less) ∙ from_moves q n 0 (q.ring.count - n) (omega arith) ∙ from_drops q n 0
    q.ring.count
without_waits q n false h most =
    let all : q.ring.count ≤ n = ltb-false n q.ring.count h in
    let short : length (waiting_from q 0 q.ring.count) ≤ n = omega (arith, from_length q 0 q.ring.count) in
    rw (skipped_all q.ring n all) (sym (drop_of_length-le (waiting_from q 0 q.ring.count) short))

-- with n events gone the rest waits, in the same order
pub without_drops : (q : Queue) (n : ℕ) → q.ring.count ≤ 256 → waiting (without q n) ≡ drop n (waiting q)
without_drops q n most = without_waits q n (ltb n q.ring.count) refl most

-- ---- in

pub event_stays : (q : Queue) (e : Event) (i : ℕ) → i < q.ring.count → q.ring.count < 256
    → event_of (with_last q e) i ≡ event_of q i
event_stays q e i less small =
    let apart : place_of q.ring i ≢ place_of q.ring q.ring.count =
    λ same. place_apart q.ring i q.ring.count less small (sym same) in
    rw (
      get_or-set_other q.onsets (place_of q.ring q.ring.count) (place_of q.ring i) e.time nan apart,
      get_or-set_other q.frequencies (place_of q.ring q.ring.count) (place_of q.ring i) e.frequency nan
          apart,
      get_or-set_other q.duties (place_of q.ring q.ring.count) (place_of q.ring i) e.duty nan apart,
    )

pub event_last : (q : Queue) (e : Event) → Canonical q → event_of (with_last q e) q.ring.count ≡ e
event_last q e good =
    let last : ℕ = place_of q.ring q.ring.count in
    rw (
      get_or-set_same q.onsets last e.time nan (omega (arith, good.onsets.size)),
      get_or-set_same q.frequencies last e.frequency nan (omega (arith, good.frequencies.size)),
      get_or-set_same q.duties last e.duty nan (omega (arith, good.duties.size)),
    )

from_stays : (q : Queue) (e : Event) (i m : ℕ) → i + m ≤ q.ring.count → q.ring.count < 256
    → waiting_from (with_last q e) i m ≡ waiting_from q i m
unfolding waiting_from
from_stays q e i zero most small = refl
from_stays q e i (suc m) most small =
    rw (event_stays q e i (omega arith) small, from_stays q e (suc i) m (omega arith) small)

from_snoc : (q : Queue) (i m : ℕ) → waiting_from q i (suc m) ≡ waiting_from q i m ++ (event_of q (i + m) ∷ [])
unfolding waiting_from
from_snoc q i zero = rw (add-zero i)
from_snoc q i (suc m) =
    ap (λ (l : List Event). event_of q i ∷ l) (from_snoc q (suc i) m ∙ rw (suc-add i m, add-suc i m))

last_waits : (q : Queue) (e : Event) → Canonical q → q.ring.count < 256 → waiting (with_last q e) ≡ waiting q ++
    (e ∷ [])
unfolding waiting
last_waits q e good small =
    ap (waiting_from (with_last q e) 0) (add-one q.ring.count) ∙ from_snoc (with_last q e) 0 q.ring.count
    ∙ rw (zero-add q.ring.count, event_last q e good, from_stays q e 0 q.ring.count (omega arith) small)

-- ---- the branches of each step

pub put_done : (q : Queue) (e : Event) → q.ring.count < 256 → put_of q e ≡ put_outcome DONE (with_last q e)
unfolding put_of
put_done q e room = rw (lt-leb 256 q.ring.count room)

pub put_full : (q : Queue) (e : Event) → 256 ≤ q.ring.count → put_of q e ≡ put_outcome SOUND_FULL q
unfolding put_of
put_full q e full = rw (le-leb 256 q.ring.count full)

pub take_none : (q : Queue) → q.ring.count ≡ 0 → take_of q ≡ take_outcome NO_EVENT nothing q
unfolding take_of
take_none q none = rw (eq-eqb q.ring.count 0 none)

pub take_some : (q : Queue) → q.ring.count ≢ 0 → take_of q ≡ take_outcome DONE (event_of q 0) (without q 1)
unfolding take_of
take_some q some = rw (ne_eqb q.ring.count 0 some)

-- where none waits the queue is as it was
pub take_still : (q : Queue) → (take_of q).refusal ≢ DONE → (take_of q).queue ≡ q
unfolding take_of
take_still q = by (eqb q.ring.count 0)
  where
    by : (b : Bool)
        → (cond b (take_outcome NO_EVENT nothing q) (take_outcome DONE (event_of q 0) (without q 1))).refusal ≢ DONE
        → (cond b (take_outcome NO_EVENT nothing q) (take_outcome DONE (event_of q 0) (without q 1))).queue ≡ q
    by true h = refl
    by false h = absurd (h refl)

put_still : (q : Queue) (e : Event) → (put_of q e).refusal ≢ DONE → (put_of q e).queue ≡ q
unfolding put_of
put_still q e = by (full_of q.ring)
  where
    by : (b : Bool) → (cond b (put_outcome SOUND_FULL q) (put_outcome DONE (with_last q e))).refusal ≢ DONE
        → (cond b (put_outcome SOUND_FULL q) (put_outcome DONE (with_last q e))).queue ≡ q
    by true h = refl
    by false h = absurd (h refl)

-- ---- refused, and so said of the queue as it was
module _ (q : Queue) (r : Refusal) (p : Queue) where
  other : {n : ℕ} → code_of r ≡ n → n ≢ DONE
  other h z = let above : 1 ≤ code_of r = code_above r in omega arith

  pub put_stays : (e : Event) → put_outcome (code_of r) p ≡ put_of q e → put_outcome (code_of r) q ≡ put_of q e
  put_stays e h =
      let same : p ≡ q = ap (λ (o : PutOutcome). o.queue) h
      ∙ put_still q e (other (ap (λ (o : PutOutcome). o.refusal) h)) in
      ap (put_outcome (code_of r)) (sym same) ∙ h

  pub take_stays : (x : Event) → take_outcome (code_of r) x p ≡ take_of q → take_outcome (code_of r) x q ≡ take_of q
  take_stays x h =
      let same : p ≡ q = ap (λ (o : TakeOutcome). o.queue) h
      ∙ take_still q (other (ap (λ (o : TakeOutcome). o.refusal) h)) in
      ap (take_outcome (code_of r) x) (sym same) ∙ h

-- ---- the functions over the list

-- PUT: with room, the event is the last of the list
pub put_adds : (q : Queue) (e : Event) → Canonical q → length (waiting q) < 256
    → (put_of q e ≡ put_outcome DONE (with_last q e)) × (waiting (with_last q e) ≡ waiting q ++ (e ∷ []))
put_adds q e good room =
    let small : q.ring.count < 256 = omega (arith, waiting_count q) in
    (put_done q e small, last_waits q e good small)

-- with 256 waiting nothing changes, and the number is SoundFull's
pub put_refuses : (q : Queue) (e : Event) → 256 ≤ length (waiting q) → put_of q e ≡ put_outcome SOUND_FULL q
put_refuses q e full = put_full q e (omega (arith, waiting_count q))

-- TAKE: with none waiting, zeros and NoEvent's number, and nothing changes
pub take_refuses : (q : Queue) → waiting q ≡ [] → take_of q ≡ take_outcome NO_EVENT nothing q
take_refuses q none = take_none q (sym (waiting_count q) ∙ ap length none)

first_is : (q : Queue) (e : Event) (l : List Event) (n : ℕ) → q.ring.count ≡ suc n → waiting q ≡ e ∷ l
    → event_of q 0 ≡ e
unfolding waiting waiting_from
first_is q e l n some wait =
    let first : waiting_from q 0 (suc n) ≡ e ∷ l = sym (ap (waiting_from q 0) some) ∙ wait in
    cc

take_first : (q : Queue) (e : Event) (l : List Event) (n : ℕ) → q.ring.count ≡ n → waiting q ≡ e ∷ l
    → take_of q ≡ take_outcome DONE e (without q 1)
take_first q e l zero none wait = absurd (omega (arith, waiting_count q, ap length wait))
take_first q e l (suc n) some wait =
    take_some q (λ none. omega arith) ∙ ap (λ (x : Event). take_outcome DONE x (without q 1))
    (first_is q e l n some wait)

-- the list's head is given, and its tail is left
pub take_gives : (q : Queue) (e : Event) (l : List Event) → q.ring.count ≤ 256 → waiting q ≡ e ∷ l
    → (take_of q ≡ take_outcome DONE e (without q 1)) × (waiting (without q 1) ≡ l)
take_gives q e l most wait = (take_first q e l q.ring.count refl wait, without_drops q 1 most ∙ ap (drop 1) wait)

-- IN BULK: as many as fit are laid over the first records, oldest first; later records stay, and the rest waits
pub bulk_gives : (q : Queue) (ys : List Event) (n : ℕ) → q.ring.count ≤ 256
    → n ≡ fit_of (length (waiting q)) (length ys)
    → ((bulk_of q ys).bulk.count ≡ n) × ((bulk_of q ys).records ≡ take n (waiting q) ++ drop n ys)
    × (waiting (bulk_of q ys).bulk.queue ≡ drop n (waiting q))
bulk_gives q ys n most fit =
    let count : fit_of q.ring.count (length ys) ≡ n = rw (waiting_count q) at (sym fit) in
    (count, rw fit (laid_is (waiting q) ys), ap (λ (m : ℕ). waiting (without q m)) count ∙ without_drops q n most)

same_ring : (ring : Ring) → ring.count ≡ 0 → ring.head ≡ 0 → skipped ring 0 ≡ ring
same_ring ring none start = skipped_all ring 0 (omega arith) ∙ ring_is (sym start) (sym none)

-- with none waiting the answer is 0, and nothing changes
pub bulk_none : (q : Queue) (ys : List Event) → Canonical q → waiting q ≡ []
    → bulk_of q ys ≡ bulk_outcome (record { count = 0; queue = q }) ys
unfolding laid_over cleared
bulk_none q ys good none =
    let no : q.ring.count ≡ 0 = sym (waiting_count q) ∙ ap length none in
    let few : fit_of q.ring.count (length ys) ≡ 0 = omega (arith, fits q.ring.count (length ys)) in
    rw (none, few, same_ring q.ring no (good.start no))
