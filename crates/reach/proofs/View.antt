-- What a list of bytes leaves, in the compact form, is as the predicate says.
use Prim.Native.Nat.{ℕ, zero, suc, ◌+◌, ◌-◌, ◌%◌, ◌≤◌, ◌<◌}
use mathlib.Core.Path.{◌≡◌, refl, sym, ap, ◌∙◌}
use mathlib.Core.Bool.{Bool, true, false, true≢false, ◌&&◌, ◌||◌}
use mathlib.Core.List.{List, [], ◌∷◌}
use native.Mathlib.Omega.{arith}
use native.Mathlib.Nat.{mod-lt, mod-eq_of_lt, lt_of_le_of_lt}
use lib.Bits.{bit_and, and_le_l}
use lib.ListN.{length, get_or, set, drop, length-set, length-replicate, get_or-replicate, length-drop}
use lib.ListN.{get_or-eq_default}
use lib.Seq.{get_or-set_other}
use lib.Dec.{eqb, ltb}
use borrow.Author.Tests.{eq-eqb, lt-ltb, le-ltb, le-leb}
use Rattle.whole.proofs.Choice.{by_less}
use Rattle.flash.specs.Board.{Sized}
use Rattle.flash.specs.Buf.{blank}
use Rattle.flash.specs.Run.{Bytes}
use Rattle.flash.proofs.Whole.{at, place, ands_from, rounded_trans, page_of}
use Rattle.flash.proofs.Place.{place_lt, place_ge}
use Rattle.reach.specs.Reach.{header_ok, mark_ok, far, slot_ok, page_ok, reachable, Shaped}

-- ---- positions
pub place_exact : (n k : ℕ) → Sized n → k < 261 → place n k ≡ k
place_exact n k s l =
    by_less k 5 (λ h. place_lt n k h)
    (λ h. let less : k - 5 < n = omega (arith, s.least) in
    place_ge n k h ∙ ap (λ (j : ℕ). 5 + j) (mod-eq_of_lt less) ∙ omega arith)

place_most : (n k : ℕ) → Sized n → place n k ≤ n + 4
place_most n k s =
    by_less k 5
    (λ h. let e : place n k ≡ k = place_lt n k h in omega arith)
    (λ h. let e : place n k ≡ 5 + (k - 5) % n = place_ge n k h in
    let m : (k - 5) % n < n = mod-lt (k - 5) (omega (arith, s.least)) in omega arith)

-- a position below 5 is the length
place_low : (n k c : ℕ) → c < 5 → place n k ≤ c → k ≤ c
place_low n k c l h =
    by_less k 5
    (λ g. let e : place n k ≡ k = place_lt n k g in omega arith)
    (λ g. absurd (let e : place n k ≡ 5 + (k - 5) % n = place_ge n k g in omega arith))

place_high : (n k : ℕ) → 5 ≤ k → 5 ≤ place n k
place_high n k g = let e : place n k ≡ 5 + (k - 5) % n = place_ge n k g in omega arith

-- ---- the page
pub ands_length : (bs p : List ℕ) (off : ℕ) → length (ands_from p off bs) ≡ length p
ands_length [] p off = refl
ands_length (b ∷ bs) p off =
    let v : ℕ = bit_and (get_or p off 0) b in ands_length bs (set p off v) ((off + 1) % 256) ∙ length-set p off v

set_bytes : (p : List ℕ) (i v : ℕ) → Bytes p → v < 256 → Bytes (set p i v)
set_bytes [] i v y h k = y k
set_bytes (x ∷ p) zero v y h zero = h
set_bytes (x ∷ p) zero v y h (suc k) = y (suc k)
set_bytes (x ∷ p) (suc i) v y h zero = y 0
set_bytes (x ∷ p) (suc i) v y h (suc k) = set_bytes p i v (λ j. y (suc j)) h k

ands_bytes : (bs p : List ℕ) (off : ℕ) → Bytes p → Bytes (ands_from p off bs)
ands_bytes [] p off y = y
ands_bytes (b ∷ bs) p off y =
    let v : ℕ = bit_and (get_or p off 0) b in
    ands_bytes bs (set p off v) ((off + 1) % 256)
    (set_bytes p off v y (lt_of_le_of_lt (and_le_l (get_or p off 0) b) (y off)))

-- one place on, one less far
far_next : (off k d : ℕ) → off < 256 → k < 256 → suc d ≤ (k + 256 - off) % 256
    → d ≤ (k + 256 - (off + 1) % 256) % 256
far_next off k d h g l = omega arith

-- a place that the bytes do not reach stays
pub ands_stays : (bs p : List ℕ) (off k : ℕ) → off < 256 → k < 256 → length bs ≤ (k + 256 - off) % 256
    → get_or (ands_from p off bs) k 0 ≡ get_or p k 0
ands_stays [] p off k h g l = refl
ands_stays (b ∷ bs) p off k h g l =
    let v : ℕ = bit_and (get_or p off 0) b in
    ands_stays bs (set p off v) ((off + 1) % 256) k (mod-lt (off + 1) (omega arith)) g
    (far_next off k (length bs) h g l)
    ∙ get_or-set_other p off k v 0 (λ e. omega arith)

pub blank_at : (k : ℕ) → k < 256 → get_or blank k 0 ≡ 255
unfolding blank
blank_at k h = get_or-replicate 256 k 255 0 h

pub blank_length : length blank ≡ 256
unfolding blank
blank_length = length-replicate {A = ℕ} 256 255

pub blank_bytes : Bytes blank
blank_bytes k =
    by_less k 256
    (λ l. let e : get_or blank k 0 ≡ 255 = blank_at k l in omega arith)
    (λ l. let n : length blank ≡ 256 = blank_length in
    let e : get_or blank k 0 ≡ 0 = get_or-eq_default blank 0 (omega arith) in omega arith)

-- ---- tests
pub or_first : (a b : Bool) → a ≡ true → (a || b) ≡ true
or_first true b h = refl
or_first false b h = absurd (true≢false (sym h))

pub or_second : (a b : Bool) → b ≡ true → (a || b) ≡ true
or_second true b h = refl
or_second false b h = h

pub and_both : (a b : Bool) → a ≡ true → b ≡ true → (a && b) ≡ true
and_both true b h g = g
and_both false b h g = h

-- ---- the view is as the predicate says
module _ (n : ℕ) (bs : List ℕ) (s : Sized n) (y : Bytes bs) where
  header_at : (j : ℕ) → j < 4 → (ltb j (place n (length bs)) || eqb (at bs j) 0) ≡ true
  header_at j h =
      by_less j (place n (length bs))
      (λ l. or_first _ _ (lt-ltb j (place n (length bs)) l))
      (λ l. or_second (ltb j (place n (length bs))) _
      (eq-eqb (at bs j) 0 (get_or-eq_default bs 0 (place_low n (length bs) j (omega arith) l))))

  header_view : header_ok (rounded_trans n bs) ≡ true
  unfolding header_ok
  header_view =
      and_both _ _
      (and_both _ _ (header_at 0 (omega arith)) (header_at 1 (omega arith)))
      (and_both _ _ (header_at 2 (omega arith)) (header_at 3 (omega arith)))

  mark_view : mark_ok (rounded_trans n bs) ≡ true
  unfolding mark_ok
  mark_view =
      by_less 260 (length bs)
      (λ l. rw (lt-ltb 260 (length bs) l) (le-leb 5 (place n (length bs)) (place_high n (length bs) (omega arith))))
      (λ l. let e : place n (length bs) ≡ length bs = place_exact n (length bs) s (omega arith) in
      rw (le-ltb 260 (length bs) l) (le-leb (place n (length bs)) 260 (omega arith)))

  untouched : (k : ℕ) → k < 256 → length bs ≤ far (at bs 3) k + 4 → get_or (page_of bs) k 0 ≡ 255
  untouched k h m =
      let a : at bs 3 < 256 = y 3 in
      let e : at bs 3 % 256 ≡ at bs 3 = mod-eq_of_lt a in
      let d : length (drop 4 bs) ≡ length bs - 4 = length-drop 4 bs in
      ands_stays (drop 4 bs) blank (at bs 3 % 256) k (mod-lt (at bs 3) (omega arith)) h (rw e (omega arith))
      ∙ blank_at k h

  slot_view : (k : ℕ) → k < 256 → slot_ok (rounded_trans n bs) k (get_or (page_of bs) k 0) ≡ true
  unfolding slot_ok
  slot_view k h =
      by_less 260 (length bs)
      (λ l. or_second (eqb (get_or (page_of bs) k 0) 255) _ (or_first _ _ (lt-ltb 260 (length bs) l)))
      (λ l. let e : place n (length bs) ≡ length bs = place_exact n (length bs) s (omega arith) in
      by_less (far (at bs 3) k + 4) (place n (length bs))
      (λ m. or_second (eqb (get_or (page_of bs) k 0) 255) _
      (or_second (ltb 260 (length bs)) _ (lt-ltb (far (at bs 3) k + 4) (place n (length bs)) m)))
      (λ m. or_first _ _ (eq-eqb (get_or (page_of bs) k 0) 255 (untouched k h (omega arith)))))

  page_view : (i : ℕ) → i ≤ 256 → page_ok (rounded_trans n bs) (page_of bs) i ≡ true
  unfolding page_ok
  page_view zero h = refl
  page_view (suc i) h = and_both _ _ (slot_view i (omega arith)) (page_view i (omega arith))

  pub view_reachable : reachable n (rounded_trans n bs) (page_of bs) ≡ true
  unfolding reachable
  view_reachable =
      and_both _ _
      (and_both _ _ (le-leb (place n (length bs)) (n + 4) (place_most n (length bs) s)) header_view)
      (and_both _ _ mark_view (page_view 256 (omega arith)))

  pub view_shaped : Shaped (rounded_trans n bs) (page_of bs)
  view_shaped =
      record {
        cmd = y 0;
        a1 = y 1;
        a2 = y 2;
        a3 = y 3;
        size = ands_length (drop 4 bs) blank (at bs 3 % 256) ∙ blank_length;
        bytes = ands_bytes (drop 4 bs) blank (at bs 3 % 256) blank_bytes;
      }
