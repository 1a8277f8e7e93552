-- What the predicate allows is left by a list of bytes: the header, the page from its start on, and FF for the rest.
use Prim.Native.Nat.{ℕ, zero, suc, ◌+◌, ◌-◌, ◌%◌, ◌≤◌, ◌<◌}
use mathlib.Core.Path.{◌≡◌, refl, sym, ap, ◌∙◌}
use mathlib.Core.Bool.{Bool, true, false, ◌&&◌, ◌||◌}
use mathlib.Core.List.{List, [], ◌∷◌, ◌++◌}
use mathlib.Core.Logic.{◌≢◌}
use native.Mathlib.Omega.{arith}
use native.Mathlib.Nat.{mod-lt, mod-eq_of_lt, add-mod_right}
use lib.Bits.{bit_and, and_comm, and_mask}
use lib.ListN.{length, get_or, set, take, drop, replicate, length-set, length-replicate, length-append}
use lib.ListN.{get_or-eq_default, drop_of_length-le}
use lib.Seq.{get_or-set_same, get_or-set_other, set-get_or, ext_get_or, get_or-take, length-take-le}
use lib.Dec.{eqb, ltb, leb}
use borrow.Author.Tests.{lt-ltb, le-ltb, eqb-true, leb-true}
use Rattle.whole.proofs.Choice.{by_less, by_same, both}
use Rattle.flash.specs.declared.Trans.{Trans}
use Rattle.flash.specs.Board.{Sized}
use Rattle.flash.specs.Buf.{blank}
use Rattle.flash.specs.Run.{Bytes}
use Rattle.flash.proofs.Whole.{at, place, ands_from, rounded_trans, page_of}
use Rattle.flash.proofs.Place.{place_lt, place_ge}
use Rattle.flash.proofs.Runs.{append_bytes}
use Rattle.reach.specs.Reach.{header_ok, mark_ok, far, slot_ok, page_ok, reachable, Shaped}
use Rattle.reach.proofs.View.{place_exact, ands_length, ands_stays, blank_at, blank_length}

full : (b : ℕ) → b < 256 → bit_and b 255 ≡ b
full b h = and_mask b 8 ∙ mod-eq_of_lt h

-- ---- the bytes that make a page: so many of its own, from a place on
unfoldable data_of : List ℕ → ℕ → ℕ → List ℕ
data_of p off zero = []
data_of p off (suc d) = get_or p off 0 ∷ data_of p ((off + 1) % 256) d

data_length : (p : List ℕ) (off d : ℕ) → length (data_of p off d) ≡ d
unfolding data_of
data_length p off zero = refl
data_length p off (suc d) = ap suc (data_length p ((off + 1) % 256) d)

data_bytes : (p : List ℕ) (off d : ℕ) → Bytes p → Bytes (data_of p off d)
unfolding data_of
data_bytes p off zero b k = omega arith
data_bytes p off (suc d) b zero = b off
data_bytes p off (suc d) b (suc k) = data_bytes p ((off + 1) % 256) d b k

-- each place that they reach is met once
ands_data : (d : ℕ) (p q : List ℕ) (off k : ℕ) → off < 256 → k < 256 → d ≤ 256 → length q ≡ 256
    → (k + 256 - off) % 256 < d → get_or (ands_from q off (data_of p off d)) k 0 ≡ bit_and (get_or q k 0) (get_or p k 0)
unfolding data_of
ands_data zero p q off k h g l e m = absurd (omega arith)
ands_data (suc d) p q off k h g l e m =
    let v : ℕ = bit_and (get_or q off 0) (get_or p off 0) in
    by_same k off
    (λ s. here s)
    (λ n. ands_data d p (set q off v) ((off + 1) % 256) k (mod-lt (off + 1) (omega arith)) g (omega arith)
    (length-set q off v ∙ e) (nearer n)
    ∙ ap (λ (x : ℕ). bit_and x (get_or p k 0)) (get_or-set_other q off k v 0 n))
  where
    nearer : k ≢ off → (k + 256 - (off + 1) % 256) % 256 < d
    nearer n = by_less k off (λ a. omega arith) (λ a. by_less off k (λ b. omega arith) (λ b. absurd (n (omega arith))))

    here : k ≡ off
        → get_or (ands_from (set q off (bit_and (get_or q off 0) (get_or p off 0))) ((off + 1) % 256)
        (data_of p ((off + 1) % 256) d)) k 0 ≡ bit_and (get_or q k 0) (get_or p k 0)
    here s =
        let v : ℕ = bit_and (get_or q off 0) (get_or p off 0) in
        let n : length (data_of p ((off + 1) % 256) d) ≡ d = data_length p ((off + 1) % 256) d in
        let past : length (data_of p ((off + 1) % 256) d) ≤ (k + 256 - (off + 1) % 256) % 256 = omega arith in
        ands_stays (data_of p ((off + 1) % 256) d) (set q off v) ((off + 1) % 256) k (mod-lt (off + 1) (omega arith)) g
        past
        ∙ ap (λ (j : ℕ). get_or (set q off v) j 0) s
        ∙ get_or-set_same q off v 0 (omega arith)
        ∙ ap (λ (j : ℕ). bit_and (get_or q j 0) (get_or p j 0)) (sym s)

-- the page, where what they do not reach is FF
page_made : (p : List ℕ) (off d : ℕ) → off < 256 → d ≤ 256 → length p ≡ 256 → Bytes p
    → ((k : ℕ) → k < 256 → d ≤ (k + 256 - off) % 256 → get_or p k 0 ≡ 255)
    → ands_from blank off (data_of p off d) ≡ p
page_made p off d h l e b rest =
    let n : length (ands_from blank off (data_of p off d)) ≡ 256 = ands_length (data_of p off d) blank off ∙
    blank_length
    in
    ext_get_or 0 (ands_from blank off (data_of p off d)) p (n ∙ sym e) (λ k less. by k (omega arith))
  where
    by : (k : ℕ) → k < 256 → get_or (ands_from blank off (data_of p off d)) k 0 ≡ get_or p k 0
    by k g =
        by_less ((k + 256 - off) % 256) d
        (λ m. ands_data d p blank off k h g l blank_length m
        ∙ ap (λ (v : ℕ). bit_and v (get_or p k 0)) (blank_at k g)
        ∙ and_comm 255 (get_or p k 0)
        ∙ full (get_or p k 0) (b k))
        (λ m.
        let n : length (data_of p off d) ≡ d = data_length p off d in
        let past : length (data_of p off d) ≤ (k + 256 - off) % 256 = omega arith in
        ands_stays (data_of p off d) blank off k h g past ∙ blank_at k g ∙ sym (rest k g m))

-- ---- FF changes nothing
ands_ff : (m : ℕ) (p : List ℕ) (off : ℕ) → Bytes p → ands_from p off (replicate m 255) ≡ p
ands_ff zero p off b = refl
ands_ff (suc m) p off b =
    ap (λ (q : List ℕ). ands_from q ((off + 1) % 256) (replicate m 255))
    (ap (λ (v : ℕ). set p off v) (full (get_or p off 0) (b off)) ∙ set-get_or p off 0)
    ∙ ands_ff m p ((off + 1) % 256) b

ands_tail : (xs p : List ℕ) (off m : ℕ) → Bytes (ands_from p off xs)
    → ands_from p off (xs ++ replicate m 255) ≡ ands_from p off xs
ands_tail [] p off m b = ands_ff m p off b
ands_tail (x ∷ xs) p off m b = ands_tail xs (set p off (bit_and (get_or p off 0) x)) ((off + 1) % 256) m b

-- ---- what the tests say
-- a byte that has not come is 0
not_come : (j pos v : ℕ) → (ltb j pos || eqb v 0) ≡ true → pos ≤ j → v ≡ 0
not_come j pos v h l = eqb-true v 0 (rw (le-ltb j pos l) at h)

page_slot : (t : Trans) (p : List ℕ) (i k : ℕ) → page_ok t p i ≡ true → k < i → slot_ok t k (get_or p k 0) ≡ true
unfolding page_ok
page_slot t p zero k h l = absurd (omega arith)
page_slot t p (suc i) k h l =
    let b = both (slot_ok t i (get_or p i 0)) (page_ok t p i) h in
    by_same k i
    (λ s. ap (λ (j : ℕ). slot_ok t j (get_or p j 0)) s ∙ b.0)
    (λ n. page_slot t p i k b.1 (omega arith))

slot_left : (t : Trans) (k v : ℕ) → slot_ok t k v ≡ true → t.long ≡ false → t.pos ≤ far t.a3 k + 4 → v ≡ 255
unfolding slot_ok
slot_left t k v h e l = eqb-true v 255 (first (eqb v 255) (rw (e, le-ltb (far t.a3 k + 4) t.pos l) at h))
  where
    first : (a : Bool) → (a || (false || false)) ≡ true → a ≡ true
    first true g = refl
    first false g = g

-- ---- lists of bytes
no_bytes : Bytes []
no_bytes k = omega arith

cons_bytes : (x : ℕ) (xs : List ℕ) → x < 256 → Bytes xs → Bytes (x ∷ xs)
cons_bytes x xs h b zero = h
cons_bytes x xs h b (suc k) = b k

ff_bytes : (m : ℕ) → Bytes (replicate m 255)
ff_bytes zero k = omega arith
ff_bytes (suc m) zero = omega arith
ff_bytes (suc m) (suc k) = ff_bytes m k

take_bytes : (n : ℕ) (m : List ℕ) → Bytes m → Bytes (take n m)
take_bytes zero m y k = omega arith
take_bytes (suc n) [] y k = omega arith
take_bytes (suc n) (x ∷ m) y zero = y 0
take_bytes (suc n) (x ∷ m) y (suc k) = take_bytes n m (λ j. y (suc j)) k

-- ---- the list
pub record Buf (n : ℕ) (t : Trans) (p : List ℕ) : Type 0 where
  pub buf : List ℕ
  pub bytes : Bytes buf
  pub tx : rounded_trans n buf ≡ t
  pub page : page_of buf ≡ p

trans_is : {c c' a a' d d' f f' p p' : ℕ} {l l' : Bool} → c ≡ c' → a ≡ a' → d ≡ d' → f ≡ f' → p ≡ p' → l ≡ l'
    → ◌≡◌ {A = Trans} (record { cmd = c; a1 = a; a2 = d; a3 = f; pos = p; long = l })
    (record { cmd = c'; a1 = a'; a2 = d'; a3 = f'; pos = p'; long = l' })
trans_is h1 h2 h3 h4 h5 h6 = rw (h1, h2, h3, h4, h5, h6)

abbrev header_of : Trans → List ℕ → List ℕ
header_of t xs = t.cmd ∷ t.a1 ∷ t.a2 ∷ t.a3 ∷ xs

-- what the tests of the predicate say, one by one
record Told (n : ℕ) (t : Trans) (p : List ℕ) : Type 0 where
  most : t.pos ≤ n + 4
  unsent : (j : ℕ) → j < 4 → t.pos ≤ j → get_or (header_of t []) j 0 ≡ 0
  marked : t.long ≡ true → 5 ≤ t.pos
  plain : t.long ≡ false → t.pos ≤ 260
  slots : (k : ℕ) → k < 256 → slot_ok t k (get_or p k 0) ≡ true

header_told : (t : Trans) → header_ok t ≡ true → (j : ℕ) → j < 4 → t.pos ≤ j → get_or (header_of t []) j 0 ≡ 0
unfolding header_ok
header_told t ok =
    let c : Bool = ltb 0 t.pos || eqb t.cmd 0 in
    let d : Bool = ltb 1 t.pos || eqb t.a1 0 in
    let e : Bool = ltb 2 t.pos || eqb t.a2 0 in
    let f : Bool = ltb 3 t.pos || eqb t.a3 0 in
    let halves = both (c && d) (e && f) ok in
    go (both c d halves.0) (both e f halves.1)
  where
    go : ((ltb 0 t.pos || eqb t.cmd 0) ≡ true) × ((ltb 1 t.pos || eqb t.a1 0) ≡ true)
        → ((ltb 2 t.pos || eqb t.a2 0) ≡ true) × ((ltb 3 t.pos || eqb t.a3 0) ≡ true) → (j : ℕ) → j < 4
        → t.pos ≤ j → get_or (header_of t []) j 0 ≡ 0
    go x y zero h l = not_come 0 t.pos t.cmd x.0 l
    go x y (suc zero) h l = not_come 1 t.pos t.a1 x.1 l
    go x y (suc (suc zero)) h l = not_come 2 t.pos t.a2 y.0 l
    go x y (suc (suc (suc zero))) h l = not_come 3 t.pos t.a3 y.1 l
    go x y (suc (suc (suc (suc j)))) h l = absurd (let z : ⊥ = omega arith in z)

told : (n : ℕ) (t : Trans) (p : List ℕ) → reachable n t p ≡ true → Told n t p
unfolding reachable mark_ok
told n t p ok =
    let halves = both (leb t.pos (n + 4) && header_ok t) (mark_ok t && page_ok t p 256) ok in
    let front = both (leb t.pos (n + 4)) (header_ok t) halves.0 in
    let back = both (mark_ok t) (page_ok t p 256) halves.1 in
    record {
      most = leb-true _ _ front.0;
      unsent = header_told t front.1;
      marked = λ e. leb-true 5 t.pos (rw e at back.0);
      plain = λ e. leb-true t.pos 260 (rw e at back.0);
      slots = λ k l. page_slot t p 256 k back.1 l;
    }

module _ (n : ℕ) (t : Trans) (p : List ℕ) (s : Sized n) (shape : Shaped t p) (ok : Told n t p) where
  four_bytes : (xs : List ℕ) → Bytes xs → Bytes (header_of t xs)
  four_bytes xs b =
      cons_bytes t.cmd (t.a1 ∷ t.a2 ∷ t.a3 ∷ xs) shape.cmd
      (cons_bytes t.a1 (t.a2 ∷ t.a3 ∷ xs) shape.a1
      (cons_bytes t.a2 (t.a3 ∷ xs) shape.a2 (cons_bytes t.a3 xs shape.a3 b)))

  -- fewer than five bytes
  module _ (plain : t.long ≡ false) (low : t.pos < 5) where
    got_length : length (take t.pos (header_of t [])) ≡ t.pos
    got_length = length-take-le t.pos (header_of t []) (omega arith)

    got_at : (j : ℕ) → j < 4 → at (take t.pos (header_of t [])) j ≡ get_or (header_of t []) j 0
    got_at j h =
        by_less j t.pos
        (λ l. get_or-take t.pos (header_of t []) j 0 l)
        (λ l. get_or-eq_default (take t.pos (header_of t [])) 0 (omega (arith, got_length))
        ∙ sym (ok.unsent j h l))

    page_blank : blank ≡ p
    page_blank =
        let b : length blank ≡ 256 = blank_length in
        let e : length p ≡ 256 = shape.size in
        ext_get_or 0 blank p (b ∙ sym e)
        (λ k l. blank_at k (omega arith)
        ∙ sym (slot_left t k (get_or p k 0) (ok.slots k (omega arith)) plain (omega arith)))

    short_buf : Buf n t p
    short_buf =
        let xs : List ℕ = take t.pos (header_of t []) in
        let l : length xs ≡ t.pos = got_length in
        let none : drop 4 xs ≡ [] = drop_of_length-le xs {i = 4} (omega arith) in
        record {
          buf = xs;
          bytes = take_bytes t.pos _ (four_bytes [] no_bytes);
          tx = trans_is (got_at 0 (omega arith)) (got_at 1 (omega arith)) (got_at 2 (omega arith))
              (got_at 3 (omega arith)) (ap (place n) l ∙ place_lt n t.pos low)
              (ap (ltb 260) l ∙ le-ltb 260 t.pos (omega arith) ∙ sym plain);
          page = ap (λ (ys : List ℕ). ands_from blank (at xs 3 % 256) ys) none ∙ page_blank;
        }

  -- the header, and these data
  module _ (xs : List ℕ) (b : Bytes xs) (position : place n (4 + length xs) ≡ t.pos)
      (mark : ltb 260 (4 + length xs) ≡ t.long) (made : ands_from blank (t.a3 % 256) xs ≡ p) where
    more : suc (suc (suc (suc (length xs)))) ≡ 4 + length xs
    more = omega arith

    data_buf : Buf n t p
    data_buf =
        record {
          buf = header_of t xs;
          bytes = four_bytes xs b;
          tx = trans_is refl refl refl refl (ap (place n) more ∙ position) (ap (ltb 260) more ∙ mark);
          page = made;
        }

  a3_less : t.a3 % 256 < 256
  a3_less = mod-lt t.a3 (omega arith)

  -- the header and as many bytes of the page as have come
  plain_buf : t.long ≡ false → 5 ≤ t.pos → Buf n t p
  plain_buf plain high =
      let few : t.pos ≤ 260 = ok.plain plain in
      let a : t.a3 % 256 ≡ t.a3 = mod-eq_of_lt shape.a3 in
      let xs : List ℕ = data_of p (t.a3 % 256) (t.pos - 4) in
      let l : length xs ≡ t.pos - 4 = data_length p (t.a3 % 256) (t.pos - 4) in
      let e : 4 + length xs ≡ t.pos = omega arith in
      data_buf xs (data_bytes p (t.a3 % 256) (t.pos - 4) shape.bytes)
      (ap (place n) e ∙ place_exact n t.pos s (omega arith))
      (ap (ltb 260) e ∙ le-ltb 260 t.pos few ∙ sym plain)
      (page_made p (t.a3 % 256) (t.pos - 4) a3_less (omega arith) shape.size shape.bytes
      (λ k g m. slot_left t k (get_or p k 0) (ok.slots k g) plain (past k t.a3 t.pos shape.a3 m)))
    where
      past : (k a pos : ℕ) → a < 256 → pos - 4 ≤ (k + 256 - a % 256) % 256 → pos ≤ far a k + 4
      past k a pos h m = let e : a % 256 ≡ a = mod-eq_of_lt h in omega (arith, rw e at m)

  -- the header, the whole page, and FF until the position has gone round once
  long_buf : t.long ≡ true → 5 ≤ t.pos → Buf n t p
  long_buf marked high =
      let a : ℕ = t.a3 % 256 in
      let xs : List ℕ = data_of p a 256 in
      let m : ℕ = t.pos + n - 260 in
      let page : ands_from blank a (data_of p a 256) ≡ p = page_made p a 256 a3_less (omega arith) shape.size
      shape.bytes (λ k g far_off. absurd (far_not k a far_off)) in
      let least : 65536 ≤ n = s.least in
      let l : length (xs ++ replicate m 255) ≡ 256 + m = length-append xs (replicate m 255)
      ∙ rw (data_length p a 256, length-replicate {A = ℕ} m 255) in
      let e : 4 + length (xs ++ replicate m 255) ≡ t.pos + n = omega arith in
      data_buf (xs ++ replicate m 255)
      (append_bytes xs (replicate m 255) (data_bytes p a 256 shape.bytes) (ff_bytes m))
      (ap (place n) e ∙ round)
      (ap (ltb 260) e ∙ lt-ltb 260 (t.pos + n) (omega arith) ∙ sym marked)
      (ands_tail xs blank a m (rw page shape.bytes) ∙ page)
    where
      far_not : (k off : ℕ) → 256 ≤ (k + 256 - off) % 256 → ⊥
      far_not k off h = omega arith

      round : place n (t.pos + n) ≡ t.pos
      round =
          let least : 65536 ≤ n = s.least in
          let e : t.pos + n - 5 ≡ t.pos - 5 + n = omega arith in
          let less : t.pos - 5 < n = omega (arith, ok.most) in
          place_ge n (t.pos + n) (omega arith)
          ∙ ap (λ (k : ℕ). 5 + k % n) e
          ∙ ap (λ (k : ℕ). 5 + k) (add-mod_right (t.pos - 5) n ∙ mod-eq_of_lt less)
          ∙ omega arith

  by_mark : (b : Bool) → t.long ≡ b → Buf n t p
  by_mark true e = long_buf e (ok.marked e)
  by_mark false e = by_less t.pos 5 (λ l. short_buf e l) (λ l. plain_buf e l)

pub buf_of : (n : ℕ) (t : Trans) (p : List ℕ) → Sized n → Shaped t p → reachable n t p ≡ true → Buf n t p
buf_of n t p s shape ok = by_mark n t p s shape (told n t p ok) t.long refl
