-- Two lists of presses, of which each has what is down in the other: the same keys are down.
use Prim.Native.Nat.{ℕ, zero, suc, ◌≤◌, ◌<◌}
use mathlib.Core.Path.{◌≡◌, refl, sym, ap, ◌∙◌}
use mathlib.Core.Bool.{Bool, true, false, ◌&&◌, ◌||◌}
use mathlib.Core.List.{List}
use mathlib.Core.Logic.{◌⊎◌, inl, inr}
use native.Mathlib.Omega.{arith}
use lib.Dec.{eqb}
use lib.ListN.{get_or}
use lib.Ieee.{Float, nan}
use borrow.Author.Tests.{eqb-true}
use Rattle.whole.proofs.Choice.{both}
use Rattle.keys.specs.declared.Held.{Held}
use Rattle.keys.specs.Live.{down_of, also, held_from}
use Rattle.keys.specs.Within.{is_down}
use Rattle.keys.proofs.Kept.{stays, down_in}

-- a press is among the first n
pub record Found (starts : List Float) (codes : List ℕ) (n : ℕ) (t : Float) (code : ℕ) : Type 0 where
  pub place : ℕ
  pub below : place < n
  pub time : get_or starts place nan ≡ t
  pub key : get_or codes place 0 ≡ code

pub or_split : (x y : Bool) → (x || y) ≡ true → (x ≡ true) ⊎ (y ≡ true)
or_split true y h = inl refl
or_split false y h = inr h

-- a key is down for the press, or was before
was : (h : Held) (t : Float) (code : ℕ) (now : Float) (key : ℕ) → key ≤ 2 → is_down (also h t code now) key ≡ true
    → (is_down h key ≡ true) ⊎ ((code ≡ key) × (down_of t now ≡ true))
was h t code now key k d = by key k d
  where
    new : (key : ℕ) (x : Bool) → (x || (eqb code key && down_of t now)) ≡ true
        → (x ≡ true) ⊎ ((code ≡ key) × (down_of t now ≡ true))
    new key x d = elim (or_split x (eqb code key && down_of t now) d) [
      | inl y ↦ inl y
      | inr y ↦ inr (let z = both (eqb code key) (down_of t now) y in (eqb-true code key z.0, z.1))
    ]

    by : (key : ℕ) → key ≤ 2 → is_down (also h t code now) key ≡ true
        → (is_down h key ≡ true) ⊎ ((code ≡ key) × (down_of t now ≡ true))
    by zero k d = new 0 h.a d
    by (suc zero) k d = new 1 h.b d
    by (suc (suc zero)) k d = new 2 h.c d
    by (suc (suc (suc key))) k d = absurd (let z : ⊥ = omega arith in z)

-- what is down stays down with more presses
still : (starts : List Float) (codes : List ℕ) (h : Held) (now : Float) (key n : ℕ) → key ≤ 2 → is_down h key ≡ true
    → is_down (held_from starts codes h now n) key ≡ true
unfolding held_from
still starts codes h now key zero k d = d
still starts codes h now key (suc n) k d =
    stays (held_from starts codes h now n) (get_or starts n nan) (get_or codes n 0) now key k
    (still starts codes h now key n k d)

module _ (starts : List Float) (codes : List ℕ) (ts : List Float) (cs : List ℕ) (m : ℕ) (h : Held) (now : Float)
    (key : ℕ) (k : key ≤ 2) where
  covered : (n : ℕ) → ((i : ℕ) → i < n → down_of (get_or starts i nan) now ≡ true
      → Found ts cs m (get_or starts i nan) (get_or codes i 0))
      → is_down (held_from starts codes h now n) key ≡ true → is_down (held_from ts cs h now m) key ≡ true
  unfolding held_from
  covered zero f d = still ts cs h now key m k d
  covered (suc n) f d =
      by (was (held_from starts codes h now n) (get_or starts n nan) (get_or codes n 0) now key k d)
      (covered n (λ i l. f i (omega arith)))
    where
      by : (is_down (held_from starts codes h now n) key ≡ true) ⊎
          ((get_or codes n 0 ≡ key) × (down_of (get_or starts n nan) now ≡ true))
          → (is_down (held_from starts codes h now n) key ≡ true → is_down (held_from ts cs h now m) key ≡ true)
          → is_down (held_from ts cs h now m) key ≡ true
      by (inl y) r = r y
      by (inr y) r =
          let g : Found ts cs m (get_or starts n nan) (get_or codes n 0) = f n (omega arith) y.1 in
          down_in ts cs h now key m g.place k g.below (ap (λ (t : Float). down_of t now) g.time ∙ y.1)
          (g.key ∙ y.0)

same_bool : (x y : Bool) → (x ≡ true → y ≡ true) → (y ≡ true → x ≡ true) → x ≡ y
same_bool true y f g = sym (f refl)
same_bool false true f g = g refl
same_bool false false f g = refl

held_is : {a b c x y z : Bool} → a ≡ x → b ≡ y → c ≡ z → ◌≡◌ {A = Held} (record { a = a; b = b; c = c })
    (record { a = x; b = y; c = z })
held_is e f g = rw (e, f, g)

pub same_keys : (starts : List Float) (codes : List ℕ) (n : ℕ) (ts : List Float) (cs : List ℕ) (m : ℕ) (h : Held)
    (now : Float)
    → ((i : ℕ) → i < n → down_of (get_or starts i nan) now ≡ true → Found ts cs m (get_or starts i nan)
    (get_or codes i 0))
    → ((i : ℕ) → i < m → down_of (get_or ts i nan) now ≡ true → Found starts codes n (get_or ts i nan) (get_or cs i 0))
    → held_from starts codes h now n ≡ held_from ts cs h now m
same_keys starts codes n ts cs m h now f g = held_is (one 0 (omega arith)) (one 1 (omega arith)) (one 2 (omega arith))
  where
    one : (key : ℕ) → key ≤ 2 → is_down (held_from starts codes h now n) key ≡ is_down (held_from ts cs h now m) key
    one key k =
        same_bool (is_down (held_from starts codes h now n) key) (is_down (held_from ts cs h now m) key)
        (covered starts codes ts cs m h now key k n f) (covered ts cs starts codes n h now key k m g)
