-- The presses that wait, in the first places: the same presses wait, in the same order, and the limits are kept.
use Prim.Native.Nat.{ℕ, zero, suc, ◌+◌, ◌≤◌, ◌<◌}
use mathlib.Core.Path.{◌≡◌, refl, sym, ap, ◌∙◌}
use mathlib.Core.Bool.{Bool, true, false, cond}
use mathlib.Core.List.{List, ◌∷◌}
use native.Mathlib.Nat.{add-zero, zero-add, le_of_suc-le-suc}
use native.Mathlib.Numerals.{add-one}
use native.Mathlib.Omega.{arith}
use lib.ListN.{length, get_or}
use lib.Seq.{ext_get_or}
use lib.Ieee.{Float, nan}
use Rattle.whole.specs.Forms.{nought}
use Rattle.whole.proofs.Rows.{length_tabled, get_or_tabled}
use Rattle.keys.specs.Keys.{Buttons}
use Rattle.keys.specs.Script.{places_of, waits, waiting_in}
use Rattle.keys.specs.Closed.{waiting_of, padded, closed_up}
use Rattle.keys.specs.Within.{Press, Within}
use Rattle.keys.proofs.Cases.{places_most}
use Rattle.keys.proofs.Full.{many_step, many_most}
use Rattle.keys.proofs.Kept.{places_is}

-- ---- what waits of n presses from the i-th on

module _ (starts : List Float) (now : Float) where
  abbrev waits_at : ℕ → Bool
  waits_at i = waits (get_or starts i nan) now

  -- as many as are counted
  from_long : {A : Type 0} (l : List A) (d : A) (i n : ℕ)
      → length (waiting_of l d starts now i n) + waiting_in starts now i ≡ waiting_in starts now (i + n)
  unfolding waiting_of
  from_long l d i zero = rw (add-zero i, zero-add (waiting_in starts now i))
  from_long l d i (suc n) = by (waits_at i) refl (from_long l d (i + 1) n)
    where
      rest : ℕ
      rest = length (waiting_of l d starts now (i + 1) n)

      end : waiting_in starts now (i + 1 + n) ≡ waiting_in starts now (i + suc n)
      end = ap (waiting_in starts now) (omega arith)

      next : waiting_in starts now (i + 1) ≡ waiting_in starts now (suc i)
      next = ap (waiting_in starts now) (add-one i)

      by : (b : Bool) → waits_at i ≡ b → rest + waiting_in starts now (i + 1) ≡ waiting_in starts now (i + 1 + n)
          → length (cond b (get_or l i d ∷ waiting_of l d starts now (i + 1) n) (waiting_of l d starts now (i + 1) n))
          + waiting_in starts now i
          ≡ waiting_in starts now (i + suc n)
      by true w h = omega (arith, end, next, many_step starts now i true w)
      by false w h = omega (arith, end, next, many_step starts now i false w)

  pub waiting_long : {A : Type 0} (l : List A) (d : A) (n : ℕ)
      → length (waiting_of l d starts now 0 n) ≡ waiting_in starts now n
  unfolding waiting_in
  waiting_long l d n = omega (arith, from_long l d 0 n, ap (waiting_in starts now) (zero-add n))

  -- what holds of each press that waits holds of each of them, whatever stands past their end
  from_each : {A B : Type 0} (l : List A) (d : A) (m : List B) (e : B) (P : A → B → Type 0) (x : A) (y : B) (i n : ℕ)
      → ((k : ℕ) → i ≤ k → k < i + n → waits_at k ≡ true → P (get_or l k d) (get_or m k e))
      → (j : ℕ) → j < length (waiting_of l d starts now i n)
      → P (get_or (waiting_of l d starts now i n) j x) (get_or (waiting_of m e starts now i n) j y)
  unfolding waiting_of
  from_each l d m e P x y i zero h j less = absurd (omega arith)
  from_each l d m e P x y i (suc n) h j less =
      by (waits_at i) refl
      (from_each l d m e P x y (i + 1) n (λ k from below w. h k (omega arith) (omega arith) w)) j less
    where
      by : (b : Bool) → waits_at i ≡ b
          → ((j : ℕ) → j < length (waiting_of l d starts now (i + 1) n)
          → P (get_or (waiting_of l d starts now (i + 1) n) j x) (get_or (waiting_of m e starts now (i + 1) n) j y))
          → (j : ℕ)
          → j < length (cond b (get_or l i d ∷ waiting_of l d starts now (i + 1) n)
          (waiting_of l d starts now (i + 1) n))
          → P (get_or (cond b (get_or l i d ∷ waiting_of l d starts now (i + 1) n)
          (waiting_of l d starts now (i + 1) n)) j x)
          (get_or (cond b (get_or m i e ∷ waiting_of m e starts now (i + 1) n)
          (waiting_of m e starts now (i + 1) n)) j y)
      by true w rest zero less = h i (omega arith) (omega arith) w
      by true w rest (suc j) less = rest j (le_of_suc-le-suc less)
      by false w rest j less = rest j less

  -- where all of them wait, each stands in its place
  module _ {A : Type 0} (l : List A) (d : A) where
    all_long : (i n : ℕ) → ((k : ℕ) → i ≤ k → k < i + n → waits_at k ≡ true)
        → length (waiting_of l d starts now i n) ≡ n
    unfolding waiting_of
    all_long i zero h = refl
    all_long i (suc n) h =
        rw (h i (omega arith) (omega arith))
        (ap suc (all_long (i + 1) n (λ k from below. h k (omega arith) (omega arith))))

    all_at : (x : A) (i n : ℕ) → ((k : ℕ) → i ≤ k → k < i + n → waits_at k ≡ true)
        → (j : ℕ) → j < n → get_or (waiting_of l d starts now i n) j x ≡ get_or l (i + j) d
    unfolding waiting_of
    all_at x i zero h j less = absurd (omega arith)
    all_at x i (suc n) h zero less = rw (h i (omega arith) (omega arith), add-zero i)
    all_at x i (suc n) h (suc j) less =
        let next : i + 1 + j ≡ i + suc j = omega arith in
        rw (h i (omega arith) (omega arith))
        (all_at x (i + 1) n (λ k from below. h k (omega arith) (omega arith)) j (le_of_suc-le-suc less)
        ∙ ap (λ (k : ℕ). get_or l k d) next)

-- ---- closed up

padded_at : {A : Type 0} (l : List A) (d x : A) (i : ℕ) → i < 64 → get_or (padded l d) i x ≡ get_or l i d
unfolding padded
padded_at l d x i small = get_or_tabled (λ i. get_or l i d) 64 i x small

module _ (b : Buttons) (now : Float) where
  -- how many presses there are, and how many of them wait
  abbrev places : ℕ
  places = places_of b.keys.count

  abbrev many : ℕ
  many = waiting_in b.starts now places

  many_small : many ≤ 64
  many_small = omega (arith, many_most b.starts now places, places_most b.keys.count)

  abbrev kept : List Float
  kept = waiting_of b.starts nan b.starts now 0 places

  -- every one of them waits
  kept_waits : (k : ℕ) → 0 ≤ k → k < 0 + many → waits (get_or (padded kept nought) k nan) now ≡ true
  kept_waits k from below =
      let less : k < length kept = omega (arith, waiting_long b.starts now b.starts nan places) in
      rw (padded_at kept nought nan k (omega (arith, many_small)))
      (from_each b.starts now b.starts nan b.starts nan (λ (t u : Float). waits t now ≡ true) nought nought 0
      places (λ j from in_places w. w) k less)

  closed_same : {A : Type 0} (l : List A) (d pad : A)
      → waiting_of (padded (waiting_of l d b.starts now 0 places) pad) d (padded kept nought) now 0 (places_of many)
      ≡ waiting_of l d b.starts now 0 places
  closed_same {A} l d pad =
      rw (places_is many many_small)
      (ext_get_or pad (waiting_of (padded old pad) d (padded kept nought) now 0 many) old (long ∙ sym size)
      (λ i less.
      let small : i < many = omega (arith, long) in
      let first : 0 + i ≡ i = omega arith in
      all_at (padded kept nought) now (padded old pad) d pad 0 many kept_waits i small
      ∙ ap (λ (k : ℕ). get_or (padded old pad) k d) first
      ∙ padded_at old pad d i (omega (arith, many_small))))
    where
      old : List A
      old = waiting_of l d b.starts now 0 places

      size : length old ≡ many
      size = waiting_long b.starts now l d places

      long : length (waiting_of (padded old pad) d (padded kept nought) now 0 many) ≡ many
      long = all_long (padded kept nought) now (padded old pad) d 0 many kept_waits

  -- THE SAME PRESSES WAIT, in the same order: their times
  pub closed_starts : waiting_of (closed_up b now).starts nan (closed_up b now).starts now 0
      (places_of (closed_up b now).keys.count) ≡ waiting_of b.starts nan b.starts now 0 (places_of b.keys.count)
  unfolding closed_up
  closed_starts = closed_same b.starts nan nought

  -- and their keys
  pub closed_codes : waiting_of (closed_up b now).codes 0 (closed_up b now).starts now 0
      (places_of (closed_up b now).keys.count) ≡ waiting_of b.codes 0 b.starts now 0 (places_of b.keys.count)
  unfolding closed_up
  closed_codes = closed_same b.codes 0 0

  pub closed_within : Within b → Within (closed_up b now)
  unfolding closed_up padded
  closed_within w = record {
    starts = length_tabled (λ i. get_or kept i nought) 64;
    codes = length_tabled (λ i. get_or codes i 0) 64;
    count = many_small;
    presses = λ i less. press i (omega (arith, places_is many many_small));
    hold_a = w.hold_a;
    hold_b = w.hold_b;
    hold_c = w.hold_c;
    applied = w.applied;
  }
    where
      codes : List ℕ
      codes = waiting_of b.codes 0 b.starts now 0 places

      press : (i : ℕ) → i < many → Press (get_or (padded kept nought) i nan) (get_or (padded codes 0) i 0)
      press i less =
          let small : i < 64 = omega (arith, many_small) in
          let short : i < length kept = omega (arith, waiting_long b.starts now b.starts nan places) in
          rw (padded_at kept nought nan i small, padded_at codes 0 0 i small)
          (from_each b.starts now b.starts nan b.codes 0 Press nought 0 0 places
          (λ k from below waits. w.presses k (omega arith)) i short)
