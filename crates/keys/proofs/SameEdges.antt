-- The next edge is the least of the time so far and of the edges ahead, so two lists with the same edges ahead have
-- the same next edge.
use Prim.Native.Nat.{ℕ, zero, suc, ◌≤◌, ◌<◌}
use mathlib.Core.Path.{◌≡◌, refl, ap, ◌∙◌}
use mathlib.Core.Bool.{Bool, true, false, cond}
use mathlib.Core.List.{List}
use mathlib.Core.Logic.{◌⊎◌, inl, inr}
use native.Mathlib.Omega.{arith}
use lib.Dec.{T}
use lib.ListN.{get_or}
use lib.Ieee.{Float, nan, binary64, fits, lt, le}
use lib.Ieee.Fits.{add-fits}
use Rattle.whole.specs.Bounds.{Clear}
use Rattle.whole.specs.Limits.{good_time}
use Rattle.whole.proofs.Order.{good_clear, le_trans_clear, le_refl_clear, le_of_not_lt}
use Rattle.keys.specs.Script.{end_of}
use Rattle.keys.specs.Edges.{min_of, after_of, edges_from}
use Rattle.keys.proofs.Canonical.{one_number}
use Rattle.keys.proofs.Expired.{le_of_before, end_clear}
use Rattle.whole.proofs.Choice.{lt_or_ge}

-- ---- one edge
module _ (now x edge : Float) (p : Clear x) (q : Clear edge) where
  after_cases : (P : Float → Type 0) → (lt now edge ≡ true → T (le edge x) → P edge)
      → (lt now edge ≡ true → T (le x edge) → P x)
      → (lt now edge ≡ false → P x) → P (after_of now x edge)
  unfolding after_of min_of
  after_cases P f g h = by (lt now edge) refl (lt edge x) refl
    where
      by : (a : Bool) → lt now edge ≡ a → (b : Bool) → lt edge x ≡ b → P (cond a (cond b edge x) x)
      by true a true b = f a (le_of_before edge x q p b)
      by true a false b = g a (le_of_not_lt x edge p q b)
      by false a b c = h a

  after_clear : Clear (after_of now x edge)
  after_clear = after_cases Clear (λ a l. q) (λ a l. p) (λ a. p)

  after_so_far : T (le (after_of now x edge) x)
  after_so_far = after_cases (λ (r : Float). T (le r x)) (λ a l. l) (λ a l. le_refl_clear x p) (λ a. le_refl_clear x p)

  after_edge : lt now edge ≡ true → T (le (after_of now x edge) edge)
  after_edge e =
      after_cases (λ (r : Float). T (le r edge)) (λ a l. le_refl_clear edge q) (λ a l. l)
      (λ a. absurd (let z : ◌≡◌ {A = ℕ} 0 1 = cc in let y : ⊥ = omega arith in y))

  after_is : (after_of now x edge ≡ x) ⊎ ((after_of now x edge ≡ edge) × (lt now edge ≡ true))
  after_is = after_cases (λ (r : Float). (r ≡ x) ⊎ ((r ≡ edge) × (lt now edge ≡ true))) (λ a l. inr (refl, a))
      (λ a l. inl refl) (λ a. inl refl)

-- e is an edge, ahead, of one of the first n presses
pub record Edge (starts : List Float) (n : ℕ) (now e : Float) : Type 0 where
  pub place : ℕ
  pub below : place < n
  pub side : (e ≡ get_or starts place nan) ⊎ (e ≡ end_of (get_or starts place nan))
  pub ahead : lt now e ≡ true

-- ---- the presses
module _ (starts : List Float) (now t : Float) (c : Clear t) where
  abbrev Good : ℕ → Type 0
  Good n = (i : ℕ) → i < n → T (good_time (get_or starts i nan))

  edges_clear : (n : ℕ) → Good n → Clear (edges_from starts now t n)
  unfolding edges_from
  edges_clear zero g = c
  edges_clear (suc n) g =
      let k = get_or starts n nan in
      let s = edges_clear n (λ i l. g i (omega arith)) in
      after_clear now (after_of now (edges_from starts now t n) k) (end_of k)
      (after_clear now (edges_from starts now t n) k s (good_clear k (g n (omega arith))))
      (end_clear k (g n (omega arith)))

  -- one press more makes it no later, and it is none of that press's edges ahead that is earlier
  record More (n : ℕ) : Type 0 where
    pub so_far : T (le (edges_from starts now t (suc n)) (edges_from starts now t n))
    pub begin : lt now (get_or starts n nan) ≡ true → T (le (edges_from starts now t (suc n)) (get_or starts n nan))
    pub end : lt now (end_of (get_or starts n nan)) ≡ true
        → T (le (edges_from starts now t (suc n)) (end_of (get_or starts n nan)))
    pub is : (edges_from starts now t (suc n) ≡ edges_from starts now t n) ⊎ Edge starts (suc n) now
        (edges_from starts now t (suc n))

  more : (n : ℕ) → Good (suc n) → More n
  unfolding edges_from
  more n g =
      let k = get_or starts n nan in
      let x = edges_from starts now t n in
      let y = after_of now x k in
      let p : Clear x = edges_clear n (λ i l. g i (omega arith)) in
      let q : Clear k = good_clear k (g n (omega arith)) in
      let r : Clear (end_of k) = end_clear k (g n (omega arith)) in
      let s : Clear y = after_clear now x k p q in
      let z : Clear (after_of now y (end_of k)) = after_clear now y (end_of k) s r in
      let last : T (le (after_of now y (end_of k)) y) = after_so_far now y (end_of k) s r in
      record {
        so_far = le_trans_clear (after_of now y (end_of k)) y x z s p last (after_so_far now x k p q);
        begin = λ a. le_trans_clear (after_of now y (end_of k)) y k z s q last (after_edge now x k p q a);
        end = after_edge now y (end_of k) s r;
        is = which (after_is now y (end_of k) s r) (after_is now x k p q);
      }
    where
      which : let k = get_or starts n nan in let x = edges_from starts now t n in let y = after_of now x k in let e =
          after_of now y (end_of k) in
          (e ≡ y) ⊎ ((e ≡ end_of k) × (lt now (end_of k) ≡ true)) → (y ≡ x) ⊎ ((y ≡ k) × (lt now k ≡ true))
          → (e ≡ x) ⊎ Edge starts (suc n) now e
      which (inr a) b = inr (record { place = n; below = omega arith; side = inr a.0; ahead = rw a.0 a.1 })
      which (inl a) (inl b) = inl (a ∙ b)
      which (inl a) (inr b) = inr (record {
        place = n;
        below = omega arith;
        side = inl (a ∙ b.0);
        ahead = rw
            (a ∙ b.0) b.1;
      })

  -- no later than the time so far
  least_so_far : (n : ℕ) → Good n → T (le (edges_from starts now t n) t)
  unfolding edges_from
  least_so_far zero g = le_refl_clear t c
  least_so_far (suc n) g =
      let f : Good n = λ i l. g i (omega arith) in
      le_trans_clear (edges_from starts now t (suc n)) (edges_from starts now t n) t (edges_clear (suc n) g)
      (edges_clear n f) c (more n g).so_far
      (least_so_far n f)

  -- nor than any edge ahead
  least : (n : ℕ) → Good n → (e : Float) → Clear e → Edge starts n now e → T (le (edges_from starts now t n) e)
  least zero g e d x = absurd (let l : x.place < 0 = x.below in let z : ⊥ = omega arith in z)
  least (suc n) g e d x =
      by (lt_or_ge x.place n) x.side
      (λ l. least n (λ i m. g i (omega arith)) e d
      (record { place = x.place; below = l; side = x.side; ahead = x.ahead }))
    where
      by : (x.place < n) ⊎ (n ≤ x.place)
          → (e ≡ get_or starts x.place nan) ⊎ (e ≡ end_of (get_or starts x.place nan))
          → (x.place < n → T (le (edges_from starts now t n) e)) → T (le (edges_from starts now t (suc n)) e)
      by (inl l) s r =
          le_trans_clear (edges_from starts now t (suc n)) (edges_from starts now t n) e (edges_clear (suc n) g)
          (edges_clear n (λ i m. g i (omega arith))) d
          (more n g).so_far (r (omega arith))
      by (inr l) (inl s) r =
          let z : x.place ≡ n = omega (arith, x.below) in
          let k : e ≡ get_or starts n nan = s ∙ ap (λ (j : ℕ). get_or starts j nan) z in
          rw k ((more n g).begin (rw k at x.ahead))
      by (inr l) (inr s) r =
          let z : x.place ≡ n = omega (arith, x.below) in
          let k : e ≡ end_of (get_or starts n nan) = s ∙ ap (λ (j : ℕ). end_of (get_or starts j nan)) z in
          rw k ((more n g).end (rw k at x.ahead))

  -- and it is one of them
  carried : (n : ℕ) (x y : Float) → x ≡ y → Edge starts n now y → Edge starts (suc n) now x
  carried n x y e s = record {
    place = s.place;
    below = omega (arith, s.below);
    side = rw e s.side;
    ahead = rw e
        s.ahead;
  }

  is_one : (n : ℕ) → Good n → (edges_from starts now t n ≡ t) ⊎ Edge starts n now (edges_from starts now t n)
  unfolding edges_from
  is_one zero g = inl refl
  is_one (suc n) g = by (more n g).is (is_one n (λ i l. g i (omega arith)))
    where
      by : (edges_from starts now t (suc n) ≡ edges_from starts now t n) ⊎ Edge starts (suc n) now
          (edges_from starts now t (suc n))
          → (edges_from starts now t n ≡ t) ⊎ Edge starts n now (edges_from starts now t n)
          → (edges_from starts now t (suc n) ≡ t) ⊎ Edge starts (suc n) now (edges_from starts now t (suc n))
      by (inr e) b = inr e
      by (inl a) (inl b) = inl (a ∙ b)
      by (inl a) (inr e) = inr (carried n (edges_from starts now t (suc n)) (edges_from starts now t n) a e)

  edges_fits : (n : ℕ) → Good n → T (fits binary64 t) → ((i : ℕ) → i < n → T (fits binary64 (get_or starts i nan)))
      → T (fits binary64 (edges_from starts now t n))
  edges_fits n g f h = by (is_one n g)
    where
      at : (x : Edge starts n now (edges_from starts now t n))
          → (edges_from starts now t n ≡ get_or starts x.place nan) ⊎
          (edges_from starts now t n ≡ end_of (get_or starts x.place nan))
          → T (fits binary64 (edges_from starts now t n))
      at x (inl s) = rw s (h x.place x.below)
      at x (inr s) = rw s (add-fits binary64 (get_or starts x.place nan) _)

      by : (edges_from starts now t n ≡ t) ⊎ Edge starts n now (edges_from starts now t n)
          → T (fits binary64 (edges_from starts now t n))
      by (inl e) = rw e f
      by (inr x) = at x x.side

pub same_edges : (starts : List Float) (n : ℕ) (ts : List Float) (m : ℕ) (now t : Float) → Clear t → T (fits binary64 t)
    → ((i : ℕ) → i < n → T (good_time (get_or starts i nan))) → ((i : ℕ) → i < m → T (good_time (get_or ts i nan)))
    → ((i : ℕ) → i < n → T (fits binary64 (get_or starts i nan))) →
    ((i : ℕ) → i < m → T (fits binary64 (get_or ts i nan)))
    → ((e : Float) → Edge starts n now e → Edge ts m now e) → ((e : Float) → Edge ts m now e → Edge starts n now e)
    → edges_from starts now t n ≡ edges_from ts now t m
same_edges starts n ts m now t c f g h p q there back =
    one_number x y (edges_fits starts now t c n g f p) (edges_fits ts now t c m h f q) cx cy
    (before (is_one ts now t c m h)) (behind (is_one starts now t c n g))
  where
    x : Float
    x = edges_from starts now t n

    y : Float
    y = edges_from ts now t m

    cx : Clear x
    cx = edges_clear starts now t c n g

    cy : Clear y
    cy = edges_clear ts now t c m h

    before : (y ≡ t) ⊎ Edge ts m now y → T (le x y)
    before (inl e) = rw e (least_so_far starts now t c n g)
    before (inr e) = least starts now t c n g y cy (back y e)

    behind : (x ≡ t) ⊎ Edge starts n now x → T (le y x)
    behind (inl e) = rw e (least_so_far ts now t c m h)
    behind (inr e) = least ts now t c m h x cx (there x e)
