-- The presses that wait, as they stand in a session and as they are read.
use Prim.Native.Nat.{ℕ, zero, suc, ◌+◌, ◌*◌, ◌≤◌, ◌<◌}
use mathlib.Core.Path.{◌≡◌, refl, sym, ap, subst, ◌∙◌}
use mathlib.Core.Bool.{Bool, true, false, cond}
use mathlib.Core.List.{List, [], ◌∷◌, ◌++◌, append-nil}
use native.Mathlib.Omega.{arith}
use lib.Ieee.{Float, nan}
use lib.ListN.{get_or, get_or-append, get_or-eq_default}
use lib.Seq.{get_or_at}
use borrow.Author.Tests.{lt-ltb, le-ltb}
use Rattle.memory.specs.Bytes.{bytes_of}
use Rattle.whole.specs.Forms.{nought}
use Rattle.whole.proofs.Rows.{tabled_alike}
use Rattle.whole.proofs.Choice.{by_less}
use Rattle.keys.specs.Script.{waits, waiting_in}
use Rattle.keys.specs.Closed.{waiting_of, padded}
use Rattle.keys.proofs.Closed.{waiting_long}
use Rattle.session.specs.Fields.{number, span}
use Rattle.session.specs.Sections.{press_row, press_if, press_bytes}
use Rattle.session.specs.Read.{float_at, start_in, code_in, starts_in, codes_in}
use Rattle.session.proofs.Digits.{length_bytes}
use Rattle.session.proofs.Stands.{Stands, stands_first, stands_number, rows_stand}
use Rattle.session.proofs.Long.{presses_long}
use Rattle.keeping.specs.Typed.{Fits}
use Rattle.keeping.proofs.Lists.{Fit}
use Rattle.keeping.proofs.Runs.{stands_then, float_stands}

module _ (starts : List Float) (now : Float) where
  abbrev waits_at : ℕ → Bool
  waits_at i = waits (get_or starts i nan) now

  -- one place more
  waiting_from_lem : {A : Type 0} (l : List A) (d : A) (p i : ℕ)
      → waiting_of l d starts now i (suc p)
      ≡ waiting_of l d starts now i p ++ cond (waits_at (i + p)) (get_or l (i + p) d ∷ []) []
  unfolding waiting_of
  waiting_from_lem l d zero i = let z : i + 0 ≡ i = omega arith in rw z
  waiting_from_lem {A} l d (suc p) i =
      let next : i + 1 + p ≡ i + suc p = omega arith in
      by (waits_at i) (subst
      (λ (j : ℕ). waiting_of l d starts now (i + 1) (suc p)
      ≡ waiting_of l d starts now (i + 1) p ++ cond (waits_at j) (get_or l j d ∷ []) [])
      next (waiting_from_lem l d p (i + 1)))
    where
      by : (b : Bool)
          → waiting_of l d starts now (i + 1) (suc p)
          ≡ waiting_of l d starts now (i + 1) p ++ cond (waits_at (i + suc p)) (get_or l (i + suc p) d ∷ []) []
          → cond b (get_or l i d ∷ waiting_of l d starts now (i + 1) (suc p))
          (waiting_of l d starts now (i + 1) (suc p))
          ≡ cond b (get_or l i d ∷ waiting_of l d starts now (i + 1) p) (waiting_of l d starts now (i + 1) p)
          ++ cond (waits_at (i + suc p)) (get_or l (i + suc p) d ∷ []) []
      by true h = ap (λ (t : List A). get_or l i d ∷ t) h
      by false h = h

  waiting_more : {A : Type 0} (l : List A) (d : A) (p : ℕ)
      → waiting_of l d starts now 0 (suc p)
      ≡ waiting_of l d starts now 0 p ++ cond (waits_at p) (get_or l p d ∷ []) []
  waiting_more l d p = let z : 0 + p ≡ p = omega arith in rw z at (waiting_from_lem l d p 0)

  -- what holds of each press that waits, with the place that it comes to, holds in those places
  pub waiting_each : (codes : List ℕ) (Q : ℕ → Float → ℕ → Type 0) (p : ℕ)
      → ((i : ℕ) → i < p → waits_at i ≡ true → Q (waiting_in starts now i) (get_or starts i nan) (get_or codes i 0))
      → (j : ℕ) → j < waiting_in starts now p
      → Q j (get_or (waiting_of starts nan starts now 0 p) j nought) (get_or (waiting_of codes 0 starts now 0 p) j 0)
  unfolding waiting_in
  waiting_each codes Q zero each j below = absurd (omega arith)
  waiting_each codes Q (suc p) each j below =
      rw (waiting_more starts nan p, waiting_more codes 0 p)
      (by (waits_at p) refl (waiting_each codes Q p (λ i less. each i (omega arith))) below)
    where
      ts : List Float
      ts = waiting_of starts nan starts now 0 p

      cs : List ℕ
      cs = waiting_of codes 0 starts now 0 p

      by : (b : Bool) → waits_at p ≡ b
          → ((j : ℕ) → j < waiting_in starts now p → Q j (get_or ts j nought) (get_or cs j 0))
          → j < cond b (waiting_in starts now p + 1) (waiting_in starts now p)
          → Q j (get_or (ts ++ cond b (get_or starts p nan ∷ []) []) j nought)
          (get_or (cs ++ cond b (get_or codes p 0 ∷ []) []) j 0)
      by false w before less = rw (append-nil ts, append-nil cs) (before j less)
      by true w before less =
          let long_t = waiting_long starts now starts nan p in
          let long_c = waiting_long starts now codes 0 p in
          by_less j (waiting_in starts now p)
          (λ inside.
          rw (
            get_or-append ts (get_or starts p nan ∷ []) nought j (omega arith),
            get_or-append cs (get_or codes p 0 ∷ []) 0 j (omega arith),
          )
          (before j inside))
          (λ past.
          let last : j ≡ waiting_in starts now p = omega arith in
          rw (
            get_or_at ts (get_or starts p nan) [] nought j (long_t ∙ sym last),
            get_or_at cs (get_or codes p 0) [] 0 j (long_c ∙ sym last),
            last,
          )
          (each p (omega arith) w))

-- ---- in a session

module _ (s : List ℕ) (at : ℕ) (starts : List Float) (codes : List ℕ) (now : Float) (p : ℕ)
    (h : Stands s at (press_bytes starts codes now p)) where
  abbrev k : ℕ
  k = waiting_in starts now p

  abbrev times : List Float
  times = waiting_of starts nan starts now 0 p

  abbrev keys : List ℕ
  keys = waiting_of codes 0 starts now 0 p

  row_from : (i : ℕ) → i < p → waits (get_or starts i nan) now ≡ true
      → Stands s (at + 9 * waiting_in starts now i) (press_row (get_or codes i 0) (get_or starts i nan))
  unfolding press_bytes
  row_from i below wait =
      let row = rows_stand s at (λ j. press_if (get_or codes j 0) (get_or starts j nan) now) p h i below in
      let long = presses_long starts codes now i in
      subst
      (λ (b : Bool). Stands s (at + 9 * waiting_in starts now i)
      (cond b (press_row (get_or codes i 0) (get_or starts i nan)) [])) wait
      (subst (λ (l : ℕ). Stands s (at + l) (press_if (get_or codes i 0) (get_or starts i nan) now)) long row)

  row_at : (j : ℕ) → j < k → Stands s (at + 9 * j) (press_row (get_or keys j 0) (get_or times j nought))
  row_at =
      waiting_each starts now codes (λ (j : ℕ) (t : Float) (c : ℕ). Stands s (at + 9 * j) (press_row c t)) p row_from

  pub start_read : Fits starts → (j : ℕ) → j < k → float_at s (at + 9 * j + 1) ≡ get_or times j nought
  start_read typed j below =
      float_stands s (at + 9 * j + 1) (get_or times j nought)
      (waiting_each starts now codes (λ (j : ℕ) (t : Float) (c : ℕ). Fit t) p (λ i less w. typed i) j below)
      (stands_then s (at + 9 * j) (bytes_of 1 (get_or keys j 0)) _ (at + 9 * j + 1)
      (ap (λ (l : ℕ). at + 9 * j + l) (length_bytes 1 (get_or keys j 0))) (row_at j below))

  module _ (low : (i : ℕ) → i < p → get_or codes i 0 ≤ 2) where
    pub key_low : (j : ℕ) → j < k → get_or keys j 0 ≤ 2
    key_low = waiting_each starts now codes (λ (j : ℕ) (t : Float) (c : ℕ). c ≤ 2) p (λ i less w. low i less)

    pub key_read : (j : ℕ) → j < k → number s (at + 9 * j) 1 ≡ get_or keys j 0
    unfolding span
    key_read j below =
        let small = key_low j below in
        stands_number s (at + 9 * j) 1 (get_or keys j 0) (omega arith)
        (stands_first s (at + 9 * j) _ _ (row_at j below))

    pub codes_read : codes_in s at k ≡ padded keys 0
    unfolding codes_in code_in padded
    codes_read =
        tabled_alike (λ i. code_in s at k i) (λ i. get_or keys i 0) 64 (λ i below. by_less i k
        (λ less. rw (lt-ltb i k less) (key_read i less))
        (λ least. rw (le-ltb i k least)
        (sym (get_or-eq_default keys 0 (let l = waiting_long starts now codes 0 p in omega arith)))))

  pub starts_read : Fits starts → starts_in s at k ≡ padded times nought
  unfolding starts_in start_in padded
  starts_read typed =
      tabled_alike (λ i. start_in s at k i) (λ i. get_or times i nought) 64 (λ i below. by_less i k
      (λ less. rw (lt-ltb i k less) (start_read typed i less))
      (λ least. rw (le-ltb i k least)
      (sym (get_or-eq_default times nought (let l = waiting_long starts now starts nan p in omega arith)))))
