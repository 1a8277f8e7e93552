-- The position that stands for a length: exact through the header, then going round.
use Rattle.std.proofs.Common.{◌≡◌, ℕ, suc, ◌+◌, ◌-◌, ◌%◌, ◌<◌, ◌≤◌, eqb, ltb, leb, sym, ap}
use Rattle.std.proofs.Common.{◌∙◌, mod-lt, mod-eq_of_lt, arith, le-ltb, lt-ltb, ne_eqb, le-leb}
use native.Mathlib.Nat.{mod_self, zero-mod, suc-mod, add-mod-mod, mod-mod_of_dvd}
use native.Mathlib.Nat.{dvd_of_mod-eq-zero}
use borrow.Author.Tests.{lt-leb}
use Rattle.whole.proofs.Choice.{by_less}
use Rattle.flash.specs.Pick.{either}
use Rattle.flash.specs.Board.{Sized}
use Rattle.flash.specs.Buf.{next_pos}
use Rattle.flash.proofs.Whole.{place}

pub place_lt : (n k : ℕ) → k < 5 → place n k ≡ k
place_lt n k h = rw (lt-ltb k 5 h)

pub place_ge : (n k : ℕ) → 5 ≤ k → place n k ≡ 5 + (k - 5) % n
place_ge n k h = rw (le-ltb k 5 h)

-- the tests of a length up to 5 are those of its position
pub eqb_place : (n k c : ℕ) → c < 5 → eqb (place n k) c ≡ eqb k c
eqb_place n k c h =
    by_less k 5
    (λ l. rw (place_lt n k l))
    (λ l. rw (place_ge n k l) (ne_eqb (5 + (k - 5) % n) c (λ e. omega arith) ∙ sym (ne_eqb k c (λ e. omega arith))))

pub ltb_place : (n k c : ℕ) → c ≤ 5 → ltb (place n k) c ≡ ltb k c
ltb_place n k c h =
    by_less k 5
    (λ l. rw (place_lt n k l))
    (λ l. rw (place_ge n k l) (le-ltb (5 + (k - 5) % n) c (omega arith) ∙ sym (le-ltb k c (omega arith))))

pub leb_place : (n k c : ℕ) → c ≤ 5 → leb c (place n k) ≡ leb c k
leb_place n k c h =
    by_less k 5
    (λ l. rw (place_lt n k l))
    (λ l. rw (place_ge n k l) (le-leb c (5 + (k - 5) % n) (omega arith) ∙ sym (le-leb c k (omega arith))))

-- the length is past 260
pub long_place : (n k : ℕ) → Sized n → either (ltb 260 k) (leb 260 (place n k)) ≡ ltb 260 (k + 1)
long_place n k s =
    by_less k 261
    (λ l. rw (le-ltb 260 k (omega arith), exact n k s l) (same k))
    (λ l. rw (lt-ltb 260 k l, lt-ltb 260 (k + 1) (omega arith)))
  where
    exact : (n k : ℕ) → Sized n → k < 261 → place n k ≡ k
    exact n k s l =
        by_less k 5 (λ h. place_lt n k h) (λ h. place_ge n k h ∙ rw (mod-eq_of_lt (below n k s l)) (whole k h))
      where
        below : (n k : ℕ) → Sized n → k < 261 → k - 5 < n
        below n k s l = omega arith

        whole : (k : ℕ) → 5 ≤ k → 5 + (k - 5) ≡ k
        whole k h = omega arith

    same : (k : ℕ) → leb 260 k ≡ ltb 260 (k + 1)
    same k =
        by_less k 260 (λ l. lt-leb 260 k l ∙ sym (le-ltb 260 (k + 1) (omega arith)))
        (λ l. le-leb 260 k l ∙ sym (lt-ltb 260 (k + 1) (omega arith)))

-- one more byte
pub next_place : (n k : ℕ) → Sized n → next_pos n (place n k) ≡ place n (k + 1)
next_place n k s = by_less k 5 short round
  where
    none : (k : ℕ) → k < 5 → k + 1 - 5 ≡ 0
    none k l = omega arith

    five : (k : ℕ) → k < 5 → 5 ≤ k + 1 → 5 + 0 ≡ k + 1
    five k l h = omega arith

    more : (k : ℕ) → 5 ≤ k → k + 1 - 5 ≡ suc (k - 5)
    more k l = omega arith

    up : (r : ℕ) → 5 + r + 1 ≡ 5 + suc r
    up r = omega arith

    full : (r n : ℕ) → r < n → n ≤ suc r → suc r ≡ n
    full r n l h = omega arith

    short : k < 5 → next_pos n (place n k) ≡ place n (k + 1)
    short l =
        rw (place_lt n k l, lt-leb (4 + n) k (omega arith))
        (by_less (k + 1) 5 (λ h. sym (place_lt n (k + 1) h))
        (λ h. sym (place_ge n (k + 1) h ∙ rw (none k l, zero-mod n) (five k l h))))

    round : 5 ≤ k → next_pos n (place n k) ≡ place n (k + 1)
    round l =
        rw (place_ge n k l, place_ge n (k + 1) (omega arith), more k l, suc-mod (k - 5) n)
        (by_less (suc ((k - 5) % n)) n
        (λ h. rw (lt-leb (4 + n) (5 + (k - 5) % n) (omega arith), mod-eq_of_lt h) (up ((k - 5) % n)))
        (λ h. rw (
          le-leb (4 + n) (5 + (k - 5) % n) (omega arith),
          full ((k - 5) % n) n (mod-lt (k - 5) (omega arith)) h,
          mod_self n,
        )))

-- how far a position is past the header, modulo what divides the size
pub far_place : (d n k c : ℕ) → n % d ≡ 0 → c ≤ 5 → c ≤ k → (place n k - c) % d ≡ (k - c) % d
far_place d n k c h f l =
    by_less k 5
    (λ u. rw (place_lt n k u))
    (λ u. rw (
      place_ge n k u,
      start ((k - 5) % n) c f,
      ← add-mod-mod,
      mod-mod_of_dvd d (k - 5) (dvd_of_mod-eq-zero d h),
      add-mod-mod,
    ) (ap (◌% d) (back k c u f)))
  where
    start : (r c : ℕ) → c ≤ 5 → 5 + r - c ≡ 5 - c + r
    start r c f = omega arith

    back : (k c : ℕ) → 5 ≤ k → c ≤ 5 → 5 - c + (k - 5) ≡ k - c
    back k c u f = omega arith
