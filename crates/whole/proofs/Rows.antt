-- Laws of lists that are said place by place: what they hold, when a list is one, and a loop that fills one.
use Rattle.std.proofs.Common.{◌≡◌, ℕ, zero, suc, ◌+◌, ◌<◌, Bool, true, false, ltb, List, [], ◌∷◌, ◌++◌, length}
use Rattle.std.proofs.Common.{get_or, drop, set, sym, refl, ap, ◌∙◌, subst, append_assoc, add-one, arith}
use Rattle.std.proofs.Common.{length-append, drop-cons, ext_get_or, ltb-false, ltb-true}
use lib.ListN.{get_or-append}
use lib.Seq.{set_at, get_or_at}
use Rattle.whole.specs.Rows.{tabled}

module _ {A : Type 0} (f : ℕ → A) where
  pub length_tabled : (n : ℕ) → length (tabled f n) ≡ n
  unfolding tabled
  length_tabled zero = refl
  length_tabled (suc n) =
      length-append (tabled f n) (f n ∷ []) ∙ ap (λ (k : ℕ). k + 1) (length_tabled n) ∙ add-one n

  pub get_or_tabled : (n i : ℕ) (d : A) → i < n → get_or (tabled f n) i d ≡ f i
  unfolding tabled
  get_or_tabled zero i d below = elim below [ ]
  get_or_tabled (suc n) i d below = by (λ less. get_or_tabled n i d less) (ltb i n) refl
    where
      by : (i < n → get_or (tabled f n) i d ≡ f i) → (b : Bool) → ltb i n ≡ b → get_or (tabled f n ++ (f n ∷ [])) i
          d ≡ f i
      by before true e =
          let less : i < n = ltb-true i n e in
          let inside : i < length (tabled f n) = omega (arith, length_tabled n, less) in
          get_or-append (tabled f n) (f n ∷ []) d i inside ∙ before less
      by before false e =
          let same : i ≡ n = let most = ltb-false i n e in omega arith in
          get_or_at (tabled f n) (f n) [] d i (length_tabled n ∙ sym same) ∙ ap f (sym same)

  -- a list that holds f of each of its places is that
  pub tabled_is : (n : ℕ) (l : List A) (d : A) → length l ≡ n → ((i : ℕ) → i < n → get_or l i d ≡ f i) → l ≡ tabled f n
  tabled_is n l d size each =
      ext_get_or d l (tabled f n) (size ∙ sym (length_tabled n))
      (λ i below. let less : i < n = omega (arith, size, below) in each i less ∙ sym (get_or_tabled n i d less))

  -- a loop that fills a list from the front, one store a turn
  pub fills_none : (l : List A) → l ≡ tabled f 0 ++ drop 0 l
  unfolding tabled
  fills_none l = refl

  pub fills_more : (n : ℕ) (l : List A) (d : A) → n < length l
      → set (tabled f n ++ drop n l) n (f n) ≡ tabled f (n + 1) ++ drop (n + 1) l
  unfolding tabled
  fills_more n l d below =
      subst (λ (k : ℕ). set (tabled f n ++ drop n l) n (f n) ≡ tabled f k ++ drop k l) (sym (add-one n))
      (ap (λ (t : List A). set (tabled f n ++ t) n (f n)) (drop-cons l n d below)
      ∙ set_at (tabled f n) (get_or l n d) (drop (suc n) l) (f n) n (length_tabled n)
      ∙ sym (append_assoc (tabled f n) (f n ∷ []) (drop (suc n) l)))

-- alike in each place
pub tabled_alike : {A : Type 0} (f g : ℕ → A) (n : ℕ) → ((i : ℕ) → i < n → f i ≡ g i) → tabled f n ≡ tabled g n
unfolding tabled
tabled_alike f g zero each = refl
tabled_alike f g (suc n) each =
    let most : n < suc n = omega arith in
    rw (tabled_alike f g n (λ i below. each i (omega (arith, below))), each n most)
