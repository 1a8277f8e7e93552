-- An accepted press is there, and no press that waits was lost; and a press keeps the limits.
use Prim.Native.Nat.{ℕ, zero, suc, ◌+◌, ◌≤◌, ◌<◌}
use mathlib.Core.Path.{◌≡◌, refl, sym, ap, ◌∙◌}
use mathlib.Core.Bool.{Bool, true, false, cond, true≢false, or-true}
use mathlib.Core.List.{List}
use mathlib.Core.Logic.{◌⊎◌, inl, inr, ◌≢◌}
use native.Mathlib.Omega.{arith}
use lib.Dec.{T, ltb, eqb}
use lib.ListN.{length, get_or, set, length-set}
use lib.Seq.{get_or-set_same, get_or-set_other}
use lib.Ieee.{Float, nan}
use borrow.Author.Tests.{ltb-true, ltb-false, eqb-true, eqb-false}
use Rattle.map.specs.Numbers.{DONE}
use Rattle.whole.specs.Limits.{good_time}
use Rattle.keys.specs.declared.Held.{Held}
use Rattle.keys.specs.declared.Keys.{Keys}
use Rattle.keys.specs.Keys.{Buttons}
use Rattle.keys.specs.Script.{places_of, waits, free_from, free_of, counted_of, Script, Outcome, placed, press_of}
use Rattle.keys.specs.Live.{down_of, also, tapped, held_from, held_of}
use Rattle.keys.specs.Within.{Press, Within, script_of, with_count, with_script, is_down, NoneLost}
use Rattle.keys.proofs.Cases.{places_most, counted_in, counted_after, press_each}
use Rattle.keys.proofs.Full.{free_between, free_at}
use Rattle.whole.proofs.Choice.{lt_or_ge}
use Rattle.keys.proofs.Expired.{down_at_once}

-- ---- the count
pub places_is : (n : ℕ) → n ≤ 64 → places_of n ≡ n
places_is n l = by (ltb n 64) refl
  where
    by : (b : Bool) → ltb n 64 ≡ b → cond b n 64 ≡ n
    by true h = refl
    by false h = let g : 64 ≤ n = ltb-false n 64 h in omega arith

-- the places after a press at place p: those before, and p
pub record Grown (p count : ℕ) : Type 0 where
  pub most : counted_of p count ≤ 64
  pub here : p < places_of (counted_of p count)
  pub more : places_of count ≤ places_of (counted_of p count)
  pub only : (i : ℕ) → i < places_of (counted_of p count) → i ≢ p → i < places_of count

pub grown : (p count : ℕ) → p ≤ places_of count → p < 64 → Grown p count
grown p count h l = by (ltb p (places_of count)) refl
  where
    from : (c : ℕ) → c ≡ counted_of p count → c ≤ 64 → p < c → places_of count ≤ c
        → ((i : ℕ) → i < c → i ≢ p → i < places_of count) → Grown p count
    from c e m a b o =
        let q : places_of (counted_of p count) ≡ c = ap places_of (sym e) ∙ places_is c m in
        record { most = omega arith; here = omega arith; more = omega arith; only = λ i k d. o i (omega arith) d }

    by : (b : Bool) → ltb p (places_of count) ≡ b → Grown p count
    by true t =
        let a : p < places_of count = ltb-true p (places_of count) t in
        from (places_of count) (counted_in p count (places_of count) refl a) (places_most count) a (omega arith)
        (λ i k d. k)
    by false t =
        let a : places_of count ≤ p = ltb-false p (places_of count) t in
        from (p + 1) (counted_after p count (places_of count) refl a) (omega arith) (omega arith) (omega arith)
        (λ i k d. omega arith)

-- the place of a press, among those that it finds
pub place_most : (starts : List Float) (count : ℕ) (now : Float) → free_of starts count now ≤ places_of count
unfolding free_of
place_most starts count now = let l : free_from (places_of count) 0 starts now ≤ 0 + places_of count =
    (free_between starts
    now (places_of count) 0).1 in omega arith

place_expired : (starts : List Float) (count : ℕ) (now : Float) → free_of starts count now < places_of count
    → waits (get_or starts (free_of starts count now) nan) now ≡ false
unfolding free_of
place_expired starts count now l = free_at starts now (places_of count) 0 (omega arith)

-- ---- no press that waits is lost
pub put_keeps : (s : Script) (key : ℕ) (at now : Float) → free_of s.starts s.count now < 64
    → NoneLost s (placed s (free_of s.starts s.count now) key at) now
unfolding placed
put_keeps s key at now l i m w =
    let p = free_of s.starts s.count now in
    let g : places_of s.count ≤ places_of (counted_of p s.count) = (grown p s.count
    (place_most s.starts s.count now) l).more in
    let apart : i ≢ p =
    λ e. true≢false (sym w ∙ ap (λ (j : ℕ). waits (get_or s.starts j nan) now) e ∙ place_expired s.starts s.count
    now (omega arith)) in
    record {
      place = omega arith;
      time = get_or-set_other s.starts p i at nan apart;
      code = get_or-set_other s.codes p i key 0 apart;
    }

pub none_lost : (s : Script) (key : ℕ) (at now : Float) → NoneLost s (press_of s key at now).script now
none_lost s key at now = press_each s key at now (λ (o : Outcome). NoneLost s o.script now) same same same
    (λ k g l. put_keeps s key at now l)
  where
    same : NoneLost s s now
    same i l w = record { place = l; time = refl; code = refl }

-- ---- an accepted press is down at its time
pub stays : (h : Held) (t : Float) (code : ℕ) (now : Float) (key : ℕ) → key ≤ 2 → is_down h key ≡ true
    → is_down (also h t code now) key ≡ true
stays h t code now zero k d = rw d
stays h t code now (suc zero) k d = rw d
stays h t code now (suc (suc zero)) k d = rw d
stays h t code now (suc (suc (suc key))) k d = absurd (let z : ⊥ = omega arith in z)

lands : (h : Held) (t now : Float) (key : ℕ) → key ≤ 2 → down_of t now ≡ true → is_down (also h t key now) key ≡ true
lands h t now zero k d = rw (d, or-true h.a)
lands h t now (suc zero) k d = rw (d, or-true h.b)
lands h t now (suc (suc zero)) k d = rw (d, or-true h.c)
lands h t now (suc (suc (suc key))) k d = absurd (let z : ⊥ = omega arith in z)

pub down_in : (starts : List Float) (codes : List ℕ) (h : Held) (now : Float) (key n i : ℕ) → key ≤ 2 → i < n
    → down_of (get_or starts i nan) now ≡ true
    → get_or codes i 0 ≡ key → is_down (held_from starts codes h now n) key ≡ true
unfolding held_from
down_in starts codes h now key zero i k l d e = absurd (let z : ⊥ = omega arith in z)
down_in starts codes h now key (suc n) i k l d e = by (lt_or_ge i n) (λ m. down_in starts codes h now key n i k m
    d e)
  where
    by : (i < n) ⊎ (n ≤ i) → (i < n → is_down (held_from starts codes h now n) key ≡ true)
        → is_down (also (held_from starts codes h now n) (get_or starts n nan) (get_or codes n 0) now) key ≡ true
    by (inl m) r = stays (held_from starts codes h now n) (get_or starts n nan) (get_or codes n 0) now key k
        (r (omega arith))
    by (inr m) r =
        let z : i ≡ n = omega arith in
        rw (← z, e) (lands (held_from starts codes h now i) (get_or starts i nan) now key k d)

pub press_kept : (s : Script) (key : ℕ) (at now : Float) (k : Keys) → 64 ≤ length s.starts → 64 ≤ length s.codes
    → (press_of s key at now).refusal ≡ DONE
    → is_down (held_of (press_of s key at now).script.starts (press_of s key at now).script.codes
    (with_count k (press_of s key at now).script.count) at) key ≡ true
unfolding placed held_of
press_kept s key at now k a b z =
    press_each s key at now
    (λ (o : Outcome). o.refusal ≡ DONE → is_down (held_of o.script.starts o.script.codes
    (with_count k o.script.count) at) key ≡ true)
    (λ z. absurd (let y : ⊥ = omega arith in y)) (λ z. absurd (let y : ⊥ = omega arith in y))
    (λ z. absurd (let y : ⊥ = omega arith in y)) put z
  where
    put : key ≤ 2 → T (good_time at) → free_of s.starts s.count now < 64 → ◌≡◌ {A = ℕ} 0 0
        → is_down (held_of (placed s (free_of s.starts s.count now) key at).starts
        (placed s (free_of s.starts s.count now) key at).codes
        (with_count k (placed s (free_of s.starts s.count now) key at).count) at) key ≡ true
    put h g l z =
        let p = free_of s.starts s.count now in
        let t : get_or (set s.starts p at) p nan ≡ at = get_or-set_same s.starts p at nan (omega arith) in
        down_in (set s.starts p at) (set s.codes p key) (tapped k.live k.holds at) at key
        (places_of (counted_of p s.count)) p h
        (grown p s.count (place_most s.starts s.count now) l).here (rw t (down_at_once at g))
        (get_or-set_same s.codes p key 0 (omega arith))

-- ---- the limits
pub set_both : (P : Float → ℕ → Type 0) (starts : List Float) (codes : List ℕ) (p key : ℕ) (at : Float) (i : ℕ)
    → p < length starts → p < length codes → P at key
    → (i ≢ p → P (get_or starts i nan) (get_or codes i 0)) → P (get_or (set starts p at) i nan)
    (get_or (set codes p key) i 0)
set_both P starts codes p key at i a b new old = by (eqb i p) refl
  where
    by : (t : Bool) → eqb i p ≡ t → P (get_or (set starts p at) i nan) (get_or (set codes p key) i 0)
    by true e = let z : i ≡ p = eqb-true i p e in rw (
      z,
      get_or-set_same starts p at nan a,
      get_or-set_same codes p key 0
          b,
    ) new
    by false e = let d : i ≢ p = eqb-false i p e in rw (
      get_or-set_other starts p i at nan d,
      get_or-set_other codes p i
          key 0 d,
    ) (old d)

pub press_within : (b : Buttons) (key : ℕ) (at now : Float) → Within b
    → Within (with_script b (press_of (script_of b) key at now).script)
unfolding placed
press_within b key at now w = press_each (script_of b) key at now (λ (o : Outcome). Within (with_script b o.script))
    w w w put
  where
    put : key ≤ 2 → T (good_time at) → free_of b.starts b.keys.count now < 64
        → Within (with_script b (placed (script_of b) (free_of b.starts b.keys.count now) key at))
    put h g l =
        let p = free_of b.starts b.keys.count now in
        let c : Grown p b.keys.count = grown p b.keys.count (place_most b.starts b.keys.count now) l in
        record {
          starts = length-set b.starts p at ∙ w.starts;
          codes = length-set b.codes p key ∙ w.codes;
          count = c.most;
          presses = λ i m. set_both Press b.starts b.codes p key at i (omega (arith, w.starts))
              (omega (arith, w.codes)) (record { time = g; key = h }) (λ d. w.presses i (c.only i m d));
          hold_a = w.hold_a;
          hold_b = w.hold_b;
          hold_c = w.hold_c;
          applied = w.applied;
        }
