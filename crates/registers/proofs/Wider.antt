-- A table with one more word than another: a place is put in, and the places from there on move down by one.
use Prim.Native.Nat.{ℕ, suc, ◌-◌, ◌<◌, ◌≤◌}
use mathlib.Core.Path.{◌≡◌, sym, ap, ◌∙◌}
use mathlib.Core.Bool.{cond}
use mathlib.Core.List.{List}
use mathlib.Core.Logic.{◌≢◌}
use native.Mathlib.Omega.{arith}
use lib.ListN.{length, get_or, get_or-eq_default}
use lib.Dec.{ltb}
use borrow.Author.Tests.{lt-ltb, le-ltb}
use Rattle.registers.specs.declared.Registers.{Registers}
use Rattle.registers.specs.Words.{removed, inserted, Others, others, others_of, word_at}
use Rattle.registers.specs.Within.{Other, TidyOthers}
use Rattle.whole.proofs.Choice.{by_same, by_less}
use Rattle.registers.proofs.Shifts.{removed_before, removed_behind}
use Rattle.registers.proofs.Shifts.{length_inserted, inserted_before, inserted_behind}
use Rattle.registers.proofs.Order.{word_is, word_absent, by_place}

-- ---- where a place comes to stand

-- place j, where place i is put in
unfoldable pub past : ℕ → ℕ → ℕ
past i j = cond (ltb j i) j (suc j)

module _ (i : ℕ) where
  past_before : (j : ℕ) → j < i → past i j ≡ j
  unfolding past
  past_before j less = rw (lt-ltb j i less)

  past_behind : (j : ℕ) → i ≤ j → past i j ≡ suc j
  unfolding past
  past_behind j upto = rw (le-ltb j i upto)

  pub past_less : (j k : ℕ) → j < k → past i j < past i k
  past_less j k less =
      by_less j i
      (λ h. by_less k i
      (λ g. omega (arith, past_before j h, past_before k g))
      (λ g. omega (arith, past_before j h, past_behind k g)))
      (λ h. omega (arith, past_behind j h, past_behind k (omega arith)))

  pub past_other : (j : ℕ) → past i j ≢ i
  past_other j e = by_less j i (λ h. omega (arith, past_before j h)) (λ h. omega (arith, past_behind j h))

  -- each place is the new one or was there
  pub by_past : {A : Type 0} (k : ℕ) → (k ≡ i → A) → ((j : ℕ) → past i j ≡ k → A) → A
  by_past k new old =
      by_less k i
      (λ less. old k (past_before k less))
      (λ most. by_same k i new
      (λ n.
      let upto : i ≤ k - 1 = omega arith in
      old (k - 1) (past_behind (k - 1) upto ∙ omega arith)))

  pub past_back : (j k : ℕ) → past i j < past i k → j < k
  past_back j k less =
      by_less j k (λ h. h)
      (λ most. by_same j k
      (λ e. let same : past i j ≡ past i k = ap (past i) e in absurd (omega arith))
      (λ n. absurd (omega (arith, past_less k j (omega arith)))))

  pub past_from : (j : ℕ) → i < past i j → i ≤ j
  past_from j less = by_less j i (λ h. absurd (omega (arith, past_before j h))) (λ h. h)

  pub past_upto : (j : ℕ) → past i j < i → (j < i) × (past i j ≡ j)
  past_upto j less =
      by_less j i (λ h. (h, past_before j h)) (λ h. absurd (omega (arith, past_behind j h)))

removed_wider : (l : List ℕ) (i j : ℕ) → get_or (removed l i) j 0 ≡ get_or l (past i j) 0
removed_wider l i j =
    by_less j i
    (λ less. rw (past_before i j less) (removed_before l i j less))
    (λ upto. rw (past_behind i j upto) (removed_behind l i j upto))

inserted_wider : (l : List ℕ) (i y j : ℕ) → length l ≡ 256 → get_or l 255 0 ≡ 0
    → get_or l j 0 ≡ get_or (inserted l i y) (past i j) 0
inserted_wider l i y j size free =
    by_less j i
    (λ less. rw (past_before i j less) (sym (inserted_before l i j y less)))
    (λ upto. rw (past_behind i j upto) (by_less j 255
    (λ less. sym (inserted_behind l i j y upto (omega arith)))
    (λ most. ends most ∙ sym (get_or-eq_default (inserted l i y) 0 (out most)))))
  where
    ends : 255 ≤ j → get_or l j 0 ≡ 0
    ends most =
        by_same j 255
        (λ e. ap (λ (k : ℕ). get_or l k 0) e ∙ free)
        (λ n. let far : length l ≤ j = omega arith in get_or-eq_default l 0 far)

    out : 255 ≤ j → length (inserted l i y) ≤ suc j
    out most = omega (arith, length_inserted l i y)

-- ---- a table that is wider by place i

pub record Wider (o w : Others) (i : ℕ) : Type 0 where
  pub address : (j : ℕ) → get_or o.addresses j 0 ≡ get_or w.addresses (past i j) 0
  pub value : (j : ℕ) → get_or o.values j 0 ≡ get_or w.values (past i j) 0

pub wider_removed : (w : Others) (i : ℕ) → Wider (others (removed w.addresses i) (removed w.values i)) w i
wider_removed w i = record { address = removed_wider w.addresses i; value = removed_wider w.values i }

pub wider_inserted : (o : Others) (i a v : ℕ) → TidyOthers o → get_or o.values 255 0 ≡ 0
    → Wider o (others (inserted o.addresses i a) (inserted o.values i v)) i
wider_inserted o i a v tidy free = record {
  address = λ j. inserted_wider o.addresses i a j tidy.addresses (tidy.free 255 free);
  value = λ j. inserted_wider o.values i v j tidy.values free;
}

-- all words but the new one read the same in both
pub wider_reads : (r w : Registers) (i b : ℕ) → TidyOthers (others_of r) → TidyOthers (others_of w)
    → Wider (others_of r) (others_of w) i → get_or w.addresses i 0 ≢ b → Other b → word_at r b ≡ word_at w b
wider_reads r w i b tidy tidy_w wider apart other =
    by_place r tidy b other
    (λ j e.
    word_is r tidy b other j e
    ∙ wider.value j
    ∙ sym (word_is w tidy_w b other (past i j) (sym (wider.address j) ∙ e)))
    (λ absent. word_absent r tidy b other absent ∙ sym (word_absent w tidy_w b other (none absent)))
  where
    none : ((j : ℕ) → get_or r.addresses j 0 ≢ b) → (k : ℕ) → get_or w.addresses k 0 ≢ b
    none absent k e =
        by_past i k
        (λ new. apart (ap (λ (m : ℕ). get_or w.addresses m 0) (sym new) ∙ e))
        (λ j old. absent j (wider.address j ∙ ap (λ (m : ℕ). get_or w.addresses m 0) old ∙ e))
