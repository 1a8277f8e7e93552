-- Whether bytes are a good session, test by test.
use Prim.Native.Nat.{ℕ, ◌+◌, ◌*◌, ◌≤◌, ◌<◌}
use mathlib.Core.Path.{◌≡◌, refl, sym, ap, subst, ◌∙◌}
use mathlib.Core.Logic.{◌≢◌}
use mathlib.Core.Bool.{Bool, true, false}
use mathlib.Core.List.{List}
use native.Mathlib.Omega.{arith}
use lib.Dec.{leb}
use lib.ListN.{length}
use borrow.Author.Tests.{le-leb, lt-leb, eq-eqb, ne_eqb, leb-true, eqb-true}
use Rattle.whole.proofs.Choice.{both}
use Rattle.session.specs.Fields.{number}
use Rattle.session.specs.Layout.{flags_at, size_of}
use Rattle.session.specs.Good.{others_in, presses_in, events_in, good_body, good_session}
use Rattle.resuming.specs.Inner.{Shape}

pub too_short : (s : List ℕ) → length s < size_of 0 0 0 → false ≡ good_session s
unfolding good_session
too_short s h = rw (lt-leb (size_of 0 0 0) (length s) h)

module _ (s : List ℕ) (least : size_of 0 0 0 ≤ length s) {n : ℕ} (words : n ≡ number s 58 4) where
  pub over_words : 256 < n → false ≡ good_session s
  unfolding good_session
  over_words h = rw (le-leb (size_of 0 0 0) (length s) least, sym words, lt-leb n 256 h)

  module _ (few : n ≤ 256) {p k : ℕ} (flags : p ≡ flags_at n) (presses : k ≡ number s (p + 719) 4) where
    waiting : number s (flags_at n + 719) 4 ≡ k
    waiting = ap (λ (q : ℕ). number s (q + 719) 4) (sym flags) ∙ sym presses

    pub over_presses : 64 < k → false ≡ good_session s
    unfolding good_session
    over_presses h =
        rw (le-leb (size_of 0 0 0) (length s) least, sym words, le-leb n 256 few, waiting, lt-leb k 64 h)

    module _ (some : k ≤ 64) {q e : ℕ} (again : q ≡ flags_at n) (events : e ≡ number s (q + 719 + 4 + 9 * k) 4) where
      sounding : number s (flags_at n + 719 + 4 + 9 * k) 4 ≡ e
      sounding = ap (λ (r : ℕ). number s (r + 719 + 4 + 9 * k) 4) (sym again) ∙ sym events

      pub over_events : 256 < e → false ≡ good_session s
      unfolding good_session
      over_events h =
          rw (
            le-leb (size_of 0 0 0) (length s) least,
            sym words,
            le-leb n 256 few,
            waiting,
            le-leb k 64 some,
            sounding,
            lt-leb e 256 h,
          )

      module _ (all : e ≤ 256) where
        pub wrong_size : length s ≢ size_of n k e → false ≡ good_session s
        unfolding good_session
        wrong_size h =
            rw (
              le-leb (size_of 0 0 0) (length s) least,
              sym words,
              le-leb n 256 few,
              waiting,
              le-leb k 64 some,
              sounding,
              le-leb e 256 all,
              ne_eqb (length s) (size_of n k e) h,
            )

        pub right_size : length s ≡ size_of n k e → {r : Bool} → r ≡ good_body s n k e → r ≡ good_session s
        unfolding good_session
        right_size h {r} body =
            rw (
              le-leb (size_of 0 0 0) (length s) least,
              sym words,
              le-leb n 256 few,
              waiting,
              le-leb k 64 some,
              sounding,
              le-leb e 256 all,
              eq-eqb (length s) (size_of n k e) h,
            ) body

-- ---- what a good session has

own_shape : (s : List ℕ) → good_session s ≡ true → Shape s (others_in s) (presses_in s) (events_in s)
unfolding good_session
own_shape s h =
    let a = both (leb (size_of 0 0 0) (length s)) _ h in
    let b = both _ _ a.1 in
    let c = both _ _ b.1 in
    let d = both _ _ c.1 in
    let f = both _ _ d.1 in
    record {
      words = refl;
      presses = refl;
      events = refl;
      sized = (eqb-true _ _ f.0, (leb-true _ _ b.0, (leb-true _ _ c.0, leb-true _ _ d.0)));
    }

pub good_least : (s : List ℕ) → good_session s ≡ true → size_of 0 0 0 ≤ length s
good_least s good = let size = (own_shape s good).sized.0 in omega arith

module _ (s : List ℕ) (good : good_session s ≡ true) {n : ℕ} (words : n ≡ number s 58 4) where
  pub good_words : n ≤ 256
  good_words = subst (λ (k : ℕ). k ≤ 256) (sym words) (own_shape s good).sized.1.0

  module _ {p k : ℕ} (flags : p ≡ flags_at n) (presses : k ≡ number s (p + 719) 4) where
    presses_are : presses_in s ≡ k
    presses_are = rw (presses, flags, words)

    pub good_presses_few : k ≤ 64
    good_presses_few = subst (λ (j : ℕ). j ≤ 64) presses_are (own_shape s good).sized.1.1.0

    module _ {e : ℕ} (events : e ≡ number s (p + 719 + 4 + 9 * k) 4) where
      events_are : events_in s ≡ e
      events_are = sym (rw (events, flags, words, ← presses_are))

      pub good_shape : Shape s n k e
      good_shape =
          subst (λ (j : ℕ). Shape s j k e) (sym words)
          (subst (λ (j : ℕ). Shape s (others_in s) j e) presses_are
          (subst (λ (j : ℕ). Shape s (others_in s) (presses_in s) j) events_are (own_shape s good)))
