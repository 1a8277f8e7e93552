-- Counts by the library's methods: how many places are used, and how many presses wait.
use Rattle.std.proofs.Common.{ℕ, zero, suc, ◌+◌, ◌-◌, ◌≤◌, ◌<◌, ◌≡◌, ◌≢◌, refl, sym, ap, ◌∙◌}
use Rattle.std.proofs.Common.{Bool, true, false, cond, ltb, eqb}
use Rattle.std.proofs.Common.{Option, Some, None, unwrap_or, List, length, get_or, take, filter, arith, add-one}
use Rattle.std.proofs.lemmas.List.Filters.{length-filter_more}
use Rattle.std.proofs.lemmas.List.Sums.{prefix_len-le-length, fails_before_first, passes_at_first}
use Rattle.std.specs.List.{position_or_len}
use lib.Ieee.{Float, nan}
use borrow.Author.Tests.{eq-eqb, ne_eqb, eqb-true, eqb-false, ltb-true, ltb-false}
use Rattle.keys.specs.Script.{waits, waiting_in}
use Rattle.session.specs.Sections.{used_from, used_of}

-- ---- places that are used

pub used_here : (values : List ℕ) (i n : ℕ) → i < n → get_or values i 0 ≡ 0 → used_from values i (n - i) ≡ i
unfolding used_from
used_here values i n below e =
    let more : n - i ≡ suc (n - (i + 1)) = omega arith in
    rw (more, eq-eqb (get_or values i 0) 0 e)

pub used_on : (values : List ℕ) (i n : ℕ) → i < n → get_or values i 0 ≢ 0
    → used_from values i (n - i) ≡ used_from values (i + 1) (n - (i + 1))
unfolding used_from
used_on values i n below e =
    let more : n - i ≡ suc (n - (i + 1)) = omega arith in
    rw (more, ne_eqb (get_or values i 0) 0 e)

pub used_end : (values : List ℕ) (i n : ℕ) → n ≤ i → used_from values i (n - i) ≡ i
unfolding used_from
used_end values i n past = let none : n - i ≡ 0 = omega arith in rw none

-- every place before the i-th is used
used_to : (values : List ℕ) (n i : ℕ) → i ≤ n → ((k : ℕ) → k < i → get_or values k 0 ≢ 0)
    → used_from values 0 n ≡ used_from values i (n - i)
used_to values n zero h before = ap (λ (m : ℕ). used_from values 0 m) (omega arith)
used_to values n (suc i) h before =
    used_to values n i (omega arith) (λ k below. before k (omega arith))
    ∙ used_on values i n (omega arith) (before i (omega arith))
    ∙ ap (λ (k : ℕ). used_from values k (n - k)) (add-one i)

used_is : (values : List ℕ) (n i : ℕ) → i ≤ n → ((k : ℕ) → k < i → get_or values k 0 ≢ 0)
    → (i < n → get_or values i 0 ≡ 0)
    → i ≡ used_from values 0 n
used_is values n i h before here =
    sym (used_to values n i h before ∙ by (ltb i n) refl)
  where
    by : (b : Bool) → ltb i n ≡ b → used_from values i (n - i) ≡ i
    by true e = used_here values i n (ltb-true i n e) (here (ltb-true i n e))
    by false e = used_end values i n (ltb-false i n e)

-- what the library's search finds
pub used_first : (values : List ℕ) (found : Option ℕ) (r : ℕ) → length values ≡ 256
    → found
    ≡ cond (ltb (position_or_len (λ x. eqb x 0) values) (length values)) (Some (position_or_len (λ x. eqb x 0) values))
    None
    → r ≡ unwrap_or found 256
    → (r ≡ used_of values) × (r ≤ 256)
used_first values found r size at e =
    let p = position_or_len (λ x. eqb x 0) values in
    let most : p ≤ length values = prefix_len-le-length _ values in
    let here : r ≡ p = by p most (ltb p (length values)) refl at in (
      here ∙ used_is values 256 p (omega (arith, most, size))
          (λ k below. eqb-false _ _ (fails_before_first (λ x. eqb x 0) values k 0 below))
          (λ below. eqb-true _ _ (passes_at_first (λ x. eqb x 0) values 0 (omega (arith, below, size)))),
      omega (arith, here, most, size),
    )
  where
    by : (p : ℕ) → p ≤ length values → (b : Bool) → ltb p (length values) ≡ b
        → found ≡ cond (ltb p (length values)) (Some p) None
        → r ≡ p
    by p most true t f = e ∙ ap (λ (o : Option ℕ). unwrap_or o 256) (f ∙ ap (λ (b : Bool). cond b (Some p) None) t)
    by p most false t f =
        e ∙ ap (λ (o : Option ℕ). unwrap_or o 256) (f ∙ ap (λ (b : Bool). cond b (Some p) None) t)
        ∙ omega (arith, most, size, ltb-false p (length values) t)

-- ---- presses that wait

one_more : (b : Bool) (k : ℕ) → k + cond b 1 0 ≡ cond b (k + 1) k
one_more true k = refl
one_more false k = omega arith

waiting_most : (starts : List Float) (now : Float) (n : ℕ) → waiting_in starts now n ≤ n
unfolding waiting_in
waiting_most starts now zero = omega arith
waiting_most starts now (suc n) = by (waits (get_or starts n nan) now) (waiting_most starts now n)
  where
    by : (b : Bool) → waiting_in starts now n ≤ n
        → cond b (waiting_in starts now n + 1) (waiting_in starts now n) ≤ suc n
    by true h = omega (arith, h)
    by false h = omega (arith, h)

waiting_taken : (starts : List Float) (now : Float) (n : ℕ) → n ≤ length starts
    → length (filter (λ s. waits s now) (take n starts)) ≡ waiting_in starts now n
unfolding waiting_in
waiting_taken starts now zero h = refl
waiting_taken starts now (suc n) h =
    ap (λ (k : ℕ). length (filter (λ s. waits s now) (take k starts))) (sym (add-one n))
    ∙ length-filter_more (λ s. waits s now) starts n nan (omega (arith, h))
    ∙ ap (λ (k : ℕ). k + cond (waits (get_or starts n nan) now) 1 0) (waiting_taken starts now n (omega (arith, h)))
    ∙ one_more (waits (get_or starts n nan) now) (waiting_in starts now n)

pub waiting_counted : (starts : List Float) (now : Float) (n : ℕ) {r : ℕ} → length starts ≡ 64 → n ≤ 64
    → r ≡ length (filter (λ s. waits s now) (take n starts))
    → (r ≡ waiting_in starts now n) × (r ≤ n)
waiting_counted starts now n size few e =
    let is = e ∙ waiting_taken starts now n (omega (arith, size, few)) in
    (is, omega (arith, is, waiting_most starts now n))
