-- The branches of the definitions, each with the fact that leads to it, and the steps of their loops.
use Prim.Native.Nat.{ℕ, zero, suc, ◌+◌, ◌-◌, ◌≤◌, ◌<◌, max}
use mathlib.Core.Path.{◌≡◌, refl, sym, ap, ◌∙◌}
use mathlib.Core.Bool.{Bool, true, false, cond, not, ◌||◌, or-false, and-true, and-false, true≢false}
use mathlib.Core.List.{List}
use mathlib.Core.Logic.{◌≢◌}
use native.Mathlib.Nat.{sub-zero}
use native.Mathlib.Numerals.{add-one}
use native.Mathlib.Omega.{arith}
use lib.Dec.{T, ltb, leb, eqb}
use lib.ListN.{length, get_or, set, take, drop}
use lib.Seq.{length-take-le, get_or-take, get_or-drop}
use lib.Ieee.{Float, nan}
use borrow.Author.Count.{below_more}
use borrow.Author.Tests.{lt-ltb, le-ltb, le-leb, lt-leb, ltb-true, leb-true, leb-false, eq-eqb, ne_eqb}
use Rattle.map.specs.Numbers.{BAD_KEY, BAD_TIME, DONE, KEYS_FULL}
use Rattle.map.specs.declared.refusals.Refusal.{Refusal}
use Rattle.map.specs.declared.refusals.Refusal.TheVariants.{BadTime, BadKey}
use Rattle.map.specs.Refusals.{number_of}
use Rattle.std.specs.Prelude.{Result, Ok, Err}
use Rattle.whole.specs.Limits.{good_time}
use Rattle.whole.proofs.Choice.{of_not, by_less}
use Rattle.memory.specs.Bytes.{loaded, stored_at}
use Rattle.keys.specs.declared.Held.{Held}
use Rattle.keys.specs.declared.Keys.{Keys}
use Rattle.keys.specs.Script.{places_of, waits, free_from, free_of, counted_of, Script, script, Outcome, outcome}
use Rattle.keys.specs.Script.{placed, put_of, press_of}
use Rattle.keys.specs.Live as live
use Rattle.keys.specs.Live.{held_with, holds_with, with_live, with_holds, key_refusal, live_of, tap_of, tap_put}
use Rattle.keys.specs.Live.{hold_of}
use Rattle.keys.specs.Live.{down_of, also, held_from, held_of, tapped}
use Rattle.keys.specs.Lines.{wanted, driven, lines, sync_of}
use Rattle.keys.specs.Edges.{edges_of, edges_from, press_edges}

-- ---- a part of the presses' times
module _ (starts : List Float) (n j : ℕ) (less : j < n) where
  pub front_at : get_or (take n starts) j nan ≡ get_or starts j nan
  front_at = get_or-take n starts j nan less

  pub part_at : (i : ℕ) → get_or (take (i + n - i) (drop i starts)) j nan ≡ get_or starts (i + j) nan
  part_at i =
      let many : i + n - i ≡ n = omega arith in
      rw many (get_or-take n (drop i starts) j nan less ∙ get_or-drop i starts j nan)

-- ---- places
pub places_most : (count : ℕ) → places_of count ≤ 64
places_most count = by (ltb count 64) refl
  where
    by : (b : Bool) → ltb count 64 ≡ b → cond b count 64 ≤ 64
    by true h = let l : count < 64 = ltb-true count 64 h in omega arith
    by false h = omega arith

module _ (place count n : ℕ) (e : n ≡ places_of count) where
  pub counted_in : place < n → n ≡ counted_of place count
  unfolding counted_of
  counted_in l = rw (← e, lt-ltb _ _ l)

  pub counted_after : n ≤ place → place + 1 ≡ counted_of place count
  unfolding counted_of
  counted_after l = rw (← e, le-ltb _ _ l)

  pub counted_is : max n (place + 1) ≡ counted_of place count
  counted_is =
      by_less place n
      (λ l. let here : max n (place + 1) ≡ n = omega arith in here ∙ counted_in l)
      (λ l. let here : max n (place + 1) ≡ place + 1 = omega arith in here ∙ counted_after l)

pub front_long : (starts : List Float) (count n : ℕ) → length starts ≡ 64 → n ≡ places_of count
    → length (take n starts) ≡ n
front_long starts count n long e = length-take-le n starts (omega (arith, places_most count))

-- ---- the search for a place
module _ (starts : List Float) (now : Float) (m i : ℕ) where
  pub from_waits : waits (get_or starts i nan) now ≡ true → free_from (suc m) i starts now ≡ free_from m (i + 1)
      starts now
  unfolding free_from
  from_waits h = rw h

  pub from_expired : waits (get_or starts i nan) now ≡ false → free_from (suc m) i starts now ≡ i
  unfolding free_from
  from_expired h = rw h

module _ (starts : List Float) (count : ℕ) (now : Float) (n : ℕ) where
  pub free_start : n ≡ places_of count → free_of starts count now ≡ free_from (n - 0) 0 starts now
  unfolding free_of
  free_start e = rw (sub-zero, e)

  module _ (i : ℕ) (x : Bool) (l : i < n) (e : free_of starts count now ≡ free_from (n - i) i starts now)
      (w : x ≡ not (waits (get_or starts i nan) now)) where
    step : free_of starts count now ≡ free_from (suc (n - (i + 1))) i starts now
    step = let z : n - i ≡ suc (n - (i + 1)) = omega arith in rw z at e

    pub free_here : x ≡ true → i ≡ free_of starts count now
    free_here t = sym (step ∙ from_expired starts now (n - (i + 1)) i (of_not _ x (sym w) ∙ ap not t))

    pub free_on : x ≡ false → free_of starts count now ≡ free_from (n - (i + 1)) (i + 1) starts now
    free_on t = step ∙ from_waits starts now (n - (i + 1)) i (of_not _ x (sym w) ∙ ap not t)

  pub free_none : (i : ℕ) → n ≤ i → free_of starts count now ≡ free_from (n - i) i starts now
      → i ≡ free_of starts count now
  unfolding free_from
  free_none i h e = let z : n - i ≡ 0 = omega arith in sym (e ∙ ap (λ (k : ℕ). free_from k i starts now) z)

-- ---- press
module _ (starts : List Float) (codes : List ℕ) (count code : ℕ) (at now : Float) (p : ℕ)
    (e : p ≡ free_of starts count now) where
  pub put_in : (n : ℕ) → p < 64 → n ≡ counted_of p count → outcome DONE (script (set starts p at) (set codes p code) n)
      ≡ put_of (script starts codes count) code at now
  unfolding put_of placed
  put_in n l k = rw (← e, lt-ltb _ _ l, k)

  pub put_full : 64 ≤ p → outcome KEYS_FULL (script starts codes count) ≡ put_of (script starts codes count) code at now
  unfolding put_of
  put_full l = rw (← e, le-ltb _ _ l)

module _ (s : Script) (key : ℕ) (at now : Float) where
  pub press_bad_key : 2 < key → outcome BAD_KEY s ≡ press_of s key at now
  unfolding press_of
  press_bad_key h = rw (lt-leb _ _ h)

  pub press_bad_time : key ≤ 2 → good_time at ≡ false → outcome BAD_TIME s ≡ press_of s key at now
  unfolding press_of
  press_bad_time h g = rw (le-leb _ _ h, g)

  pub press_put : (o : Outcome) → key ≤ 2 → good_time at ≡ true → o ≡ put_of s key at now → o ≡ press_of s key at now
  unfolding press_of
  press_put o h g e = rw (le-leb _ _ h, g) e

  -- what holds after each answer holds after a press
  pub press_each : (P : Outcome → Type 0) → P (outcome BAD_KEY s) → P (outcome BAD_TIME s) → P (outcome KEYS_FULL s)
      → (key ≤ 2 → T (good_time at) → free_of s.starts s.count now < 64
      → P (outcome DONE (placed s (free_of s.starts s.count now) key at)))
      → P (press_of s key at now)
  unfolding press_of put_of
  press_each P k t f d = by (leb key 2) refl (good_time at) refl (ltb (free_of s.starts s.count now) 64) refl
    where
      by : (a : Bool) → leb key 2 ≡ a → (b : Bool) → good_time at ≡ b → (c : Bool)
          → ltb (free_of s.starts s.count now) 64 ≡ c
          → P (cond a (cond b (cond c (outcome DONE (placed s (free_of s.starts s.count now) key at))
          (outcome KEYS_FULL s)) (outcome BAD_TIME s)) (outcome BAD_KEY s))
      by false p b q c r = k
      by true p false q c r = t
      by true p true q false r = f
      by true p true q true r = d (leb-true key 2 p) (rw q tt) (ltb-true _ 64 r)

-- ---- live keys and taps

pub tap_good : (key : ℕ) (until : Float) → key ≤ 2 → good_time until ≡ true → Ok until ≡ tap_of key until
unfolding tap_of
tap_good key until l g = rw (le-leb _ _ l, g)

module _ (k : Keys) (key : ℕ) where
  -- a key past the three changes nothing
  pub live_by : (down : Bool) → live.outcome (number_of (key_refusal key)) (with_live k (held_with k.live key down))
      ≡ live_of k
      key down
  unfolding key_refusal live_of
  live_by down = by (leb key 2) refl
    where
      by : (b : Bool) → leb key 2 ≡ b
          → live.outcome (number_of {A = Unit} (cond b (Ok tt) (Err BadKey))) (with_live k
          (held_with k.live key down)) ≡ cond b
          (live.outcome DONE (with_live k (held_with k.live key down))) (live.outcome BAD_KEY k)
      by true e = refl
      by false e =
          let h : 2 < key = leb-false key 2 e in
          rw (ne_eqb key 0 (λ z. omega arith), ne_eqb key 1 (λ z. omega arith), ne_eqb key 2 (λ z. omega arith))

  pub hold_by : (until : Float) {t : Result Float Refusal} → t ≡ tap_of key until → tap_put k key t
      ≡ hold_of k key until
  unfolding tap_of hold_of
  hold_by until e = rw e (by (leb key 2) (good_time until))
    where
      by : (b g : Bool) → tap_put k key (cond b (cond g (Ok until) (Err BadTime)) (Err BadKey))
          ≡ cond b (cond g (live.outcome DONE (with_holds k (holds_with k.holds key until)))
          (live.outcome BAD_TIME k)) (live.outcome BAD_KEY k)
      by false g = refl
      by true false = refl
      by true true = refl

-- ---- the presses, one at a time

pub down_adds : (h : Held) (t : Float) (code : ℕ) (now : Float) → down_of t now ≡ true
    → record { a = h.a || eqb code 0; b = h.b || eqb code 1; c = h.c || eqb code 2 } ≡ also h t code now
down_adds h t code now d = rw (d, and-true (eqb code 0), and-true (eqb code 1), and-true (eqb code 2))

-- no key is down for a press that is not down
pub up_still : (h : Held) (t : Float) (code : ℕ) (now : Float) → down_of t now ≡ false → also h t code now ≡ h
up_still h t code now d =
    rw (d, and-false (eqb code 0), and-false (eqb code 1), and-false (eqb code 2))
    (rw (or-false h.a, or-false h.b, or-false h.c))

-- none of n presses from the i-th on is down
abbrev pub Up : List Float → Float → ℕ → ℕ → Type 0
Up starts now i n = (j : ℕ) → j < n → down_of (get_or starts (i + j) nan) now ≡ false

pub up_more : (starts : List Float) (now : Float) (i n : ℕ) (on down : Bool)
    → down ≡ down_of (get_or starts (i + n) nan) now → (on ≡ false → Up starts now i n) → (on || down) ≡ false
    → Up starts now i (n + 1)
up_more starts now i n true down e u h = absurd (true≢false h)
up_more starts now i n false down e u h =
    below_more (λ (j : ℕ). down_of (get_or starts (i + j) nan) now ≡ false) n (u refl) (sym e ∙ h)

module _ (starts : List Float) (codes : List ℕ) (now : Float) where
  pub held_none : (h : Held) → h ≡ held_from starts codes h now 0
  unfolding held_from
  held_none h = refl

  pub held_more : (h₀ h : Held) (i : ℕ) → h ≡ held_from starts codes h₀ now i
      → also h (get_or starts i nan) (get_or codes i 0) now ≡ held_from starts codes h₀ now (i + 1)
  unfolding held_from
  held_more h₀ h i e = rw (add-one, e)

  pub held_same : (h₀ h : Held) (i to : ℕ) → i ≡ to → h ≡ held_from starts codes h₀ now i
      → h ≡ held_from starts codes h₀ now to
  held_same h₀ h i to z e = e ∙ rw z

  -- presses that are not down change nothing, however many
  pub held_past : (h : Held) (i n : ℕ) → Up starts now i n
      → held_from starts codes h now i ≡ held_from starts codes h now (i + n)
  unfolding held_from
  held_past h i zero up = let z : i + 0 ≡ i = omega arith in rw z
  held_past h i (suc n) up =
      let z : i + suc n ≡ suc (i + n) = omega arith in
      rw z (held_past h i n (λ j l. up j (omega arith))
      ∙ sym (up_still _ (get_or starts (i + n) nan) (get_or codes (i + n) 0) now (up n (omega arith))))

  pub held_all : (k : Keys) (n : ℕ) (h₀ h : Held) → n ≡ places_of k.count → h₀ ≡ tapped k.live k.holds now
      → h ≡ held_from starts codes h₀ now n → h ≡ held_of starts codes k now
  unfolding held_of
  held_all k n h₀ h p q e = e ∙ rw (p, q)

module _ (starts : List Float) (now t : Float) where
  pub edges_none : t ≡ edges_from starts now t 0
  unfolding edges_from
  edges_none = refl

  pub edges_more : (r : Float) (i : ℕ) → r ≡ edges_from starts now t i → edges_of (get_or starts i nan) now r ≡
      edges_from
      starts now t (i + 1)
  unfolding edges_from
  edges_more r i e = rw (add-one, e)

  pub edges_all : (count n i : ℕ) (r : Float) → n ≡ places_of count → i ≤ n → n ≤ i → r ≡ edges_from starts now t i
      → r ≡ press_edges starts count now t
  unfolding press_edges
  edges_all count n i r p a b e = let z : i ≡ n = omega arith in e ∙ rw (z, p)

-- ---- the lines
module _ (gpio : List ℕ) (applied : ℕ) (h : Held) (w : ℕ) (e : w ≡ wanted h) where
  pub sync_same : w ≡ applied → lines gpio applied ≡ sync_of gpio applied h
  unfolding sync_of
  sync_same s = rw (← e, eq-eqb _ _ s)

  pub sync_new : (word d : ℕ) (out : List ℕ) → w ≢ applied → word ≡ loaded gpio 0x20 4 → d ≡ driven word applied w
      → out ≡ stored_at gpio 0x20 4 d
      → lines out w ≡ sync_of gpio applied h
  unfolding sync_of
  sync_new word d out s p q r = rw (← e, ne_eqb _ _ s, r, q, p)
