-- Events laid over the records of a slice one by one, as `lay_into` does it, are `laid` at once; and what `laid` is.
use mathlib.Core.Path.{◌≡◌, refl, ◌∙◌, ap}
use mathlib.Core.Bool.{Bool, true, false}
use mathlib.Core.List.{List, [], ◌∷◌, ◌++◌}
use Prim.Native.Nat.{ℕ, zero, suc, ◌+◌, ◌<◌, ◌≤◌}
use native.Mathlib.Omega.{arith}
use native.Mathlib.Nat.{add-zero, add-suc, suc-add, zero-add, le_of_suc-le-suc}
use lib.Dec.{ltb}
use lib.ListN.{length, set, take, drop, length-set}
use lib.Seq.{take_at, length-take-le}
use borrow.Author.Tests.{lt-ltb, le-ltb, ltb-true, ltb-false}
use Rattle.timer.specs.declared.Event.{Event}
use Rattle.timer.specs.declared.Queue.{Queue}
use Rattle.timer.specs.declared.Bulk.{Bulk}
use Rattle.timer.specs.Events.{event_of, waiting_from, waiting, fit_of, laid_over}
use Rattle.timer.specs.Inner.{LayOutcome, lay_outcome, lay_of}
use Rattle.timer.specs.Events.{drop_of, bulk_outcome, bulk_of}

-- ---- as many as fit

fits_at : (count room : ℕ) (t : Bool) → ltb count room ≡ t → (fit_of count room ≤ count) × (fit_of count room ≤ room)
unfolding fit_of
fits_at count room true h = let less : count < room = ltb-true count room h in rw h (omega arith, omega arith)
fits_at count room false h = let most : room ≤ count = ltb-false count room h in rw h (omega arith, omega arith)

pub fits : (count room : ℕ) → (fit_of count room ≤ count) × (fit_of count room ≤ room)
fits count room = fits_at count room (ltb count room) refl

fit_none : (room : ℕ) → fit_of 0 room ≡ 0
fit_none room = let few = fits 0 room in omega arith

fit_no_room : (count : ℕ) → fit_of count 0 ≡ 0
fit_no_room count = let few = fits count 0 in omega arith

fit_more_at : (count room : ℕ) (t : Bool) → ltb count room ≡ t → fit_of (suc count) (suc room) ≡ suc (fit_of count room)
unfolding fit_of
fit_more_at count room true h =
    let less : count < room = ltb-true count room h in
    rw (h, lt-ltb (suc count) (suc room) (omega arith))
fit_more_at count room false h =
    let most : room ≤ count = ltb-false count room h in
    rw (h, le-ltb (suc count) (suc room) (omega arith))

fit_more : (count room : ℕ) → fit_of (suc count) (suc room) ≡ suc (fit_of count room)
fit_more count room = fit_more_at count room (ltb count room) refl

-- ---- what `laid` is

-- the oldest events, and then the records that stay
pub laid_is : (ws ys : List Event) → laid_over ws ys ≡ take (fit_of (length ws) (length ys)) ws ++ drop
    (fit_of (length ws) (length ys)) ys
unfolding laid_over
laid_is [] ys = rw (fit_none (length ys))
laid_is (w ∷ ws) [] = rw (fit_no_room (suc (length ws)))
laid_is (w ∷ ws) (y ∷ ys) =
    rw (fit_more (length ws) (length ys)) (ap (λ (l : List Event). w ∷ l) (laid_is ws ys))

-- the records that were filled are the oldest events
pub laid_first : (ws ys : List Event)
    → take (fit_of (length ws) (length ys)) (laid_over ws ys) ≡ take (fit_of (length ws) (length ys)) ws
laid_first ws ys =
    let n : ℕ = fit_of (length ws) (length ys) in
    ap (take (fit_of (length ws) (length ys))) (laid_is ws ys)
    ∙ take_at (take n ws) (drop n ys) n (length-take-le n ws (fits (length ws) (length ys)).0)

-- ---- one by one

-- the slice after i turns
unfoldable pub over : Queue → List Event → ℕ → List Event
over q ys zero = ys
over q ys (suc i) = set (over q ys i) i (event_of q i)

pub over_none : (q : Queue) (ys : List Event) → ys ≡ over q ys 0
unfolding over
over_none q ys = refl

pub over_length : (q : Queue) (ys : List Event) (i : ℕ) → length (over q ys i) ≡ length ys
unfolding over
over_length q ys zero = refl
over_length q ys (suc i) = length-set (over q ys i) i (event_of q i) ∙ over_length q ys i

-- one more event after i of them
laid_more : (q : Queue) (i j : ℕ) (ys : List Event) → i < length ys
    → set (laid_over (waiting_from q j i) ys) i (event_of q (j + i)) ≡ laid_over (waiting_from q j (suc i)) ys
unfolding laid_over waiting_from
laid_more q i j [] less = absurd (omega arith)
laid_more q zero j (y ∷ ys) less = rw (add-zero j)
laid_more q (suc i) j (y ∷ ys) less =
    rw (add-suc j i, ← suc-add j i)
    (ap (λ (l : List Event). event_of q j ∷ l) (laid_more q i (suc j) ys (le_of_suc-le-suc less)))

-- past the slice's end it does not matter how many wait
laid_past : (q : Queue) (j m k : ℕ) (ys : List Event) → length ys ≤ m → length ys ≤ k
    → laid_over (waiting_from q j m) ys ≡ laid_over (waiting_from q j k) ys
unfolding laid_over waiting_from
laid_past q j zero zero [] a b = refl
laid_past q j zero (suc k) [] a b = refl
laid_past q j (suc m) zero [] a b = refl
laid_past q j (suc m) (suc k) [] a b = refl
laid_past q j zero k (y ∷ ys) a b = absurd (omega arith)
laid_past q j (suc m) zero (y ∷ ys) a b = absurd (omega arith)
laid_past q j (suc m) (suc k) (y ∷ ys) a b =
    ap (λ (l : List Event). event_of q j ∷ l) (laid_past q (suc j) m k ys (le_of_suc-le-suc a) (le_of_suc-le-suc b))

over_some : (q : Queue) (ys : List Event) (i : ℕ) → i ≤ length ys → over q ys i ≡ laid_over (waiting_from q 0 i) ys
unfolding over laid_over waiting_from
over_some q ys zero most = refl
over_some q ys (suc i) most =
    ap (λ (l : List Event). set l i (event_of q i)) (over_some q ys i (omega arith)) ∙
    (rw (zero-add i) at (laid_more q i 0 ys most))

over_fits : (q : Queue) (ys : List Event) (t : Bool) → ltb q.ring.count (length ys) ≡ t
    → over q ys (fit_of q.ring.count (length ys)) ≡ laid_over (waiting q) ys
unfolding fit_of waiting
over_fits q ys true h =
    let less : q.ring.count < length ys = ltb-true q.ring.count (length ys) h in
    rw h (over_some q ys q.ring.count (omega arith))
over_fits q ys false h =
    let most : length ys ≤ q.ring.count = ltb-false q.ring.count (length ys) h in
    rw h (over_some q ys (length ys) (omega arith) ∙ laid_past q 0 (length ys) q.ring.count ys (omega arith) most)

pub over_laid : (q : Queue) (ys : List Event) → over q ys (fit_of q.ring.count (length ys)) ≡ laid_over (waiting q) ys
over_laid q ys = over_fits q ys (ltb q.ring.count (length ys)) refl

-- laid, and then gone: what a bulk take is
pub bulk_is : (q : Queue) (ys : List Event) (n : ℕ) (r : Bulk) (zs : List Event) → lay_outcome n zs ≡ lay_of q ys
    → r ≡ drop_of q n
    → bulk_outcome r zs ≡ bulk_of q ys
bulk_is q ys n r zs lays drops = rw (
  drops,
  ap (λ (o : LayOutcome). o.count) lays,
  ap
      (λ (o : LayOutcome). o.records) lays,
)
