-- The 64 places do as the Rust's list, which keeps every press: the same keys are down, and the next edge is the same.
use Prim.Native.Nat.{ℕ, ◌+◌, ◌≤◌, ◌<◌}
use mathlib.Core.Path.{◌≡◌, refl, sym, ap, ◌∙◌, subst}
use mathlib.Core.Bool.{Bool, true, false, cond, true≢false}
use mathlib.Core.List.{List, [], ◌∷◌, ◌++◌}
use mathlib.Core.Logic.{◌⊎◌, inl, inr}
use native.Mathlib.Omega.{arith}
use lib.Dec.{T, eqb}
use lib.ListN.{length, get_or, set, length-set, length-append, get_or-append}
use lib.Seq.{get_or-set_same}
use lib.Ieee.{Float, nan, binary64, of_bits, fits, lt, le}
use Rattle.map.specs.Numbers.{DONE}
use Rattle.whole.specs.Limits.{good_time}
use Rattle.keys.specs.declared.Keys.{Keys}
use Rattle.keys.specs.Keys.{fresh_buttons}
use Rattle.keys.specs.Script.{end_of, waits, places_of, free_of, counted_of, Outcome, placed}
use Rattle.keys.specs.Live.{tapped, held_of}
use Rattle.keys.specs.Edges.{press_edges, hold_edges, next_edge}
use Rattle.keys.specs.Rust.{push, rust_held, rust_edge, Act, presses, goes, Sides, sides, fresh_sides, sides_after}
use Rattle.keys.specs.Rust.{after, Onward, SameHeld, SameEdge, AsRust}
use Rattle.keys.proofs.Cases.{press_each}
use Rattle.whole.proofs.Choice.{lt_or_ge}
use Rattle.keys.proofs.Expired.{expired_began, expired_stays}
use Rattle.keys.proofs.Kept.{Grown, grown, place_most, put_keeps, set_both}
use Rattle.keys.proofs.SameKeys.{Found, same_keys}
use Rattle.whole.proofs.Choice.{both}
use Rattle.keys.proofs.SameEdges.{Edge, same_edges}

-- ---- one element more
get_or_last : {A : Type 0} (l : List A) (x d : A) → get_or (l ++ (x ∷ [])) (length l) d ≡ x
get_or_last [] x d = refl
get_or_last (y ∷ l) x d = get_or_last l x d

module _ (starts : List Float) (codes : List ℕ) (even : length codes ≡ length starts) (at : Float) (key : ℕ) where
  abbrev times_more : List Float
  times_more = starts ++ (at ∷ [])

  abbrev codes_more : List ℕ
  codes_more = codes ++ (key ∷ [])

  longer : length times_more ≡ length starts + 1
  longer = length-append starts (at ∷ [])

  lift : {t : Float} {c : ℕ} → Found starts codes (length starts) t c → Found times_more codes_more
      (length times_more) t c
  lift f = record {
    place = f.place;
    below = let l : f.place < length starts = f.below in omega (arith, longer);
    time = get_or-append starts (at ∷ []) nan f.place f.below ∙ f.time;
    key = get_or-append codes (key ∷ []) 0 f.place (let l : f.place < length starts = f.below in omega arith) ∙
        f.key;
  }

  last : Found times_more codes_more (length times_more) at key
  last = record {
    place = length starts;
    below = omega (arith, longer);
    time = get_or_last starts at nan;
    key = ap (λ (n : ℕ). get_or codes_more n 0) (sym even) ∙ get_or_last codes key 0;
  }

  -- what holds of each press so far, and of the new one
  each : (P : Float → ℕ → Type 0) → ((j : ℕ) → j < length starts → P (get_or starts j nan) (get_or codes j 0)) → P
      at key
      → (j : ℕ) → j < length times_more → P (get_or times_more j nan) (get_or codes_more j 0)
  each P old new j l = by (lt_or_ge j (length starts))
    where
      by : (j < length starts) ⊎ (length starts ≤ j) → P (get_or times_more j nan) (get_or codes_more j 0)
      by (inl m) =
          let a : get_or times_more j nan ≡ get_or starts j nan = get_or-append starts (at ∷ []) nan j (omega arith) in
          let b : get_or codes_more j 0 ≡ get_or codes j 0 = get_or-append codes (key ∷ []) 0 j (omega arith) in
          rw (a, b) (old j (omega arith))
      by (inr m) =
          let z : j ≡ length starts = omega (arith, longer) in
          let a : get_or times_more j nan ≡ at = ap (λ (n : ℕ). get_or times_more n nan) z ∙ get_or_last starts at
          nan in
          let b : get_or codes_more j 0 ≡ key = ap (λ (n : ℕ). get_or codes_more n 0) (z ∙ sym even) ∙ get_or_last
          codes key 0
          in
          rw (a, b) new

-- ---- the two sides
pub record Same (s : Sides) : Type 0 where
  pub now : T (good_time s.now)
  pub starts : length s.script.starts ≡ 64
  pub codes : length s.script.codes ≡ 64
  pub even : length s.list.codes ≡ length s.list.starts
  pub good : (j : ℕ) → j < length s.list.starts → T (good_time (get_or s.list.starts j nan))
  pub float : (j : ℕ) → j < length s.list.starts → T (fits binary64 (get_or s.list.starts j nan))
  -- every press at a place was pushed
  pub pushed : (i : ℕ) → i < places_of s.script.count
      → Found s.list.starts s.list.codes (length s.list.starts) (get_or s.script.starts i nan)
      (get_or s.script.codes i 0)
  -- and every press that waits is at a place
  pub waiting : (j : ℕ) → j < length s.list.starts → waits (get_or s.list.starts j nan) s.now ≡ true
      → Found s.script.starts s.script.codes (places_of s.script.count) (get_or s.list.starts j nan)
      (get_or s.list.codes j 0)

fresh_same : Same fresh_sides
unfolding fresh_sides fresh_buttons of_bits
fresh_same = record {
  now = tt;
  starts = refl;
  codes = refl;
  even = refl;
  good = λ j l. absurd (let z : ⊥ = omega arith in z);
  float = λ j l. absurd (let z : ⊥ = omega arith in z);
  pushed = λ i l. absurd (let z : ⊥ = omega arith in z);
  waiting = λ j l w. absurd (let z : ⊥ = omega arith in z);
}

press_same : (s : Sides) (key : ℕ) (at : Float) → T (fits binary64 at) → Same s → Same (sides_after s (presses key at))
unfolding sides_after push placed
press_same s key at f w =
    press_each s.script key at s.now
    (λ (o : Outcome). Same (sides o.script (cond (eqb o.refusal DONE) (push s.list at key) s.list)
    s.now))
    w w w put
  where
    put : key ≤ 2 → T (good_time at) → free_of s.script.starts s.script.count s.now < 64
        → Same (sides (placed s.script (free_of s.script.starts s.script.count s.now) key at)
        (push s.list at key) s.now)
    put k g l =
        let sc = s.script in
        let v = s.list in
        let p = free_of sc.starts sc.count s.now in
        let c : Grown p sc.count = grown p sc.count (place_most sc.starts sc.count s.now) l in
        let a : p < length sc.starts = omega (arith, w.starts) in
        let b : p < length sc.codes = omega (arith, w.codes) in
        record {
          now = w.now;
          starts = length-set sc.starts p at ∙ w.starts;
          codes = length-set sc.codes p key ∙ w.codes;
          even = omega (arith, length-append v.codes (key ∷ []), length-append v.starts (at ∷ []), w.even);
          good = each v.starts v.codes w.even at key (λ (t : Float) (n : ℕ). T (good_time t)) w.good g;
          float = each v.starts v.codes w.even at key (λ (t : Float) (n : ℕ). T (fits binary64 t))
              w.float f;
          pushed = λ i m. set_both
              (λ (t : Float) (n : ℕ). Found (v.starts ++ (at ∷ [])) (v.codes ++ (key ∷ []))
              (length (v.starts ++ (at ∷ []))) t n)
              sc.starts sc.codes p key at i a b (last v.starts v.codes w.even at key)
              (λ d. lift v.starts v.codes w.even at key (w.pushed i (c.only i m d)));
          waiting = each v.starts v.codes w.even at key
              (λ (t : Float) (n : ℕ). waits t s.now ≡ true → Found (set sc.starts p at) (set sc.codes p key)
              (places_of (counted_of p sc.count)) t n)
              (λ j m h. stands l (w.waiting j m h) h)
              (λ h. record {
                place = p;
                below = c.here;
                time = get_or-set_same sc.starts p at nan a;
                key =
                    get_or-set_same sc.codes p key 0 b;
              });
        }
      where
        stands : {t : Float} {n : ℕ} → free_of s.script.starts s.script.count s.now < 64
            → Found s.script.starts s.script.codes (places_of s.script.count) t n → waits t s.now ≡ true
            → let x = placed s.script (free_of s.script.starts s.script.count s.now) key at in Found
            x.starts x.codes (places_of x.count) t n
        stands l q h =
            let st = put_keeps s.script key at s.now l q.place q.below
            (ap (λ (t : Float). waits t s.now) q.time ∙ h) in
            record { place = q.place; below = st.place; time = st.time ∙ q.time; key = st.code ∙ q.key }

goes_same : (s : Sides) (time : Float) → T (good_time time) → T (le s.now time) → Same s
    → Same (sides_after s (goes time))
unfolding sides_after
goes_same s time g l w = record {
  now = g;
  starts = w.starts;
  codes = w.codes;
  even = w.even;
  good = w.good;
  float = w.float;
  pushed = w.pushed;
  waiting = λ j m h. w.waiting j m (earlier (get_or s.list.starts j nan) (w.good j m) h
      (waits (get_or s.list.starts j nan) s.now) refl);
}
  where
    earlier : (t : Float) → T (good_time t) → waits t time ≡ true → (b : Bool) → waits t s.now ≡ b
        → waits t s.now ≡ true
    earlier t a h true e = e
    earlier t a h false e = absurd (true≢false (sym h ∙ expired_stays t s.now a w.now time g l e))

pub run_same : (acts : List Act) (s : Sides) → Same s → Onward s.now acts → Same (after s acts)
unfolding after sides_after
run_same [] s w o = w
run_same (presses key at ∷ acts) s w o = run_same acts (sides_after s (presses key at)) (press_same s key at o.0 w)
    o.1
run_same (goes time ∷ acts) s w o = run_same acts (sides_after s (goes time)) (goes_same s time o.0 o.1 w) o.2

-- ---- what is seen
module _ (s : Sides) (w : Same s) (k : Keys) where
  pub held_same : SameHeld s k
  unfolding held_of rust_held
  held_same =
      same_keys s.script.starts s.script.codes (places_of s.script.count) s.list.starts s.list.codes
      (length s.list.starts)
      (tapped k.live k.holds s.now) s.now (λ i l d. w.pushed i l)
      (λ j l d. w.waiting j l (both (le (get_or s.list.starts j nan) s.now)
      (waits (get_or s.list.starts j nan) s.now) d).1)

  -- an edge of a press is one of the same press elsewhere
  moved : (starts ts : List Float) (n m : ℕ) (e : Float) (x : Edge starts n s.now e) (j : ℕ) → j < m
      → get_or ts j nan ≡ get_or starts x.place nan
      → Edge ts m s.now e
  moved starts ts n m e x j l q = record { place = j; below = l; side = rw q x.side; ahead = x.ahead }

  -- a press with an edge ahead waits
  ahead_waits : (e : Float) (x : Edge s.list.starts (length s.list.starts) s.now e)
      → waits (get_or s.list.starts x.place nan) s.now ≡ true
  ahead_waits e x = by x.side (waits t s.now) refl
    where
      t : Float
      t = get_or s.list.starts x.place nan

      by : (e ≡ t) ⊎ (e ≡ end_of t) → (b : Bool) → waits t s.now ≡ b → waits t s.now ≡ true
      by d true h = h
      by (inl d) false h =
          absurd (true≢false (sym x.ahead ∙ ap (λ (e : Float). lt s.now e) d ∙ expired_began t s.now
          (w.good x.place x.below) w.now h))
      by (inr d) false h = sym (ap (λ (e : Float). lt s.now e) d) ∙ x.ahead

  pub edge_same : SameEdge s k
  unfolding next_edge press_edges rust_edge
  edge_same t f c =
      ap (λ (e : Float). hold_edges k.holds s.now e)
      (same_edges s.script.starts (places_of s.script.count) s.list.starts (length s.list.starts)
      s.now
      t c f
      (λ i l. let q = w.pushed i l in subst (λ (t : Float). T (good_time t)) q.time
      (w.good q.place q.below)) w.good
      (λ i l. let q = w.pushed i l in subst (λ (t : Float). T (fits binary64 t)) q.time
      (w.float q.place q.below)) w.float
      (λ e x. let q = w.pushed x.place x.below in
      moved s.script.starts s.list.starts (places_of s.script.count) (length s.list.starts) e x
      q.place
      q.below q.time)
      (λ e x. let q = w.waiting x.place x.below (ahead_waits e x) in
      moved s.list.starts s.script.starts (length s.list.starts) (places_of s.script.count) e x
      q.place
      q.below q.time))

pub as_rust : AsRust
unfolding fresh_sides
as_rust acts o k =
    let w : Same (after fresh_sides acts) = run_same acts fresh_sides fresh_same o in
    (held_same (after fresh_sides acts) w k, edge_same (after fresh_sides acts) w k)
