-- To move the places up to a free one is to move all.
use Prim.Native.Nat.{ℕ, zero, suc, ◌+◌, ◌-◌, ◌<◌, ◌≤◌}
use mathlib.Core.Path.{◌≡◌, refl, sym, ap, subst, ◌∙◌}
use mathlib.Core.List.{List, [], ◌∷◌, ◌++◌, append_assoc}
use native.Mathlib.Omega.{arith}
use lib.ListN.{length, get_or, take, drop, get_or-eq_default}
use lib.Seq.{get_or-take, get_or-drop}
use borrow.Author.Tests.{eq-eqb, ne_eqb, lt-ltb, le-ltb}
use Rattle.map.specs.Numbers.{DONE}
use Rattle.registers.specs.declared.Registers.{Registers}
use Rattle.registers.specs.Words.{removed, inserted, removed_to, inserted_to, Others, stride, strides, end_from}
use Rattle.registers.specs.Words.{end_of}
use Rattle.registers.specs.Words.{registers_of, others_of, Outcome, outcome}
use Rattle.registers.specs.Within.{TidyOthers}
use Rattle.whole.proofs.Choice.{by_same, by_less}
use Rattle.registers.proofs.Search.{place_within}
use Rattle.registers.proofs.Loops.{front, joined}
use Rattle.registers.proofs.Spots.{place_in, moved_up, moved_down, PutCases, put_cases}
use Rattle.registers.proofs.Order.{not_zero, falling}

-- ---- where all behind place n are free

abbrev Zeros : List ℕ → Type 0
Zeros l = (j : ℕ) → get_or l j 0 ≡ 0

zeros_turn : (l : List ℕ) → Zeros l → l ++ (0 ∷ []) ≡ 0 ∷ l
zeros_turn [] free = refl
zeros_turn (x ∷ xs) free =
    let e : x ≡ 0 = free 0 in
    rw (zeros_turn xs (λ j. free (suc j)), e)

zeros_inserted : (l : List ℕ) (x : ℕ) → Zeros l → x ≡ 0 → inserted l 0 x ≡ l
unfolding inserted
zeros_inserted [] x free z = refl
zeros_inserted (y ∷ ys) x free z =
    let e : y ≡ 0 = free 0 in
    rw (zeros_inserted ys y (λ j. free (suc j)) e, z, e)

removed_zeros : (p q : List ℕ) (i : ℕ) → Zeros q → i < length p → removed (p ++ q) i ≡ removed p i ++ q
unfolding removed
removed_zeros [] q i free less = absurd (omega arith)
removed_zeros (x ∷ xs) q zero free less =
    append_assoc xs q (0 ∷ [])
    ∙ ap (λ (m : List ℕ). xs ++ m) (zeros_turn q free)
    ∙ sym (append_assoc xs (0 ∷ []) q)
removed_zeros (x ∷ xs) q (suc i) free less = ap (λ (m : List ℕ). x ∷ m) (removed_zeros xs q i free (omega arith))

inserted_zeros : (p q : List ℕ) (n i y : ℕ) → Zeros q → n + 1 ≡ length p → get_or p n 0 ≡ 0 → i ≤ n
    → inserted (p ++ q) i y ≡ inserted p i y ++ q
unfolding inserted
inserted_zeros [] q n i y free size last upto = absurd (omega arith)
inserted_zeros (x ∷ xs) q zero zero y free size last upto = ap (λ (m : List ℕ). y ∷ m) (only xs (omega arith))
  where
    only : (l : List ℕ) → length l ≡ 0 → inserted (l ++ q) 0 x ≡ inserted l 0 x ++ q
    only [] none = zeros_inserted q x free last
    only (z ∷ zs) none = absurd (omega arith)
inserted_zeros (x ∷ xs) q zero (suc i) y free size last upto = absurd (omega arith)
inserted_zeros (x ∷ xs) q (suc n) zero y free size last upto =
    ap (λ (m : List ℕ). y ∷ m) (inserted_zeros xs q n zero x free (omega arith) last (omega arith))
inserted_zeros (x ∷ xs) q (suc n) (suc i) y free size last upto =
    ap (λ (m : List ℕ). x ∷ m) (inserted_zeros xs q n i y free (omega arith) last (omega arith))

module _ (n : ℕ) (l : List ℕ) (size : length l ≡ 256) (most : n ≤ 255) (free : (j : ℕ) → n < j → get_or l j 0 ≡ 0) where
  rest : Zeros (drop (n + 1) l)
  rest j = get_or-drop (n + 1) l j 0 ∙ free (n + 1 + j) (omega arith)

  pub removed_all : (i : ℕ) → i ≤ n → removed_to n l i ≡ removed l i
  unfolding removed_to
  removed_all i upto =
      sym (removed_zeros (take (n + 1) l) (drop (n + 1) l) i rest (omega (arith, front n l size most)))
      ∙ ap (λ (m : List ℕ). removed m i) (joined n l size most)

  pub inserted_all : (i y : ℕ) → get_or l n 0 ≡ 0 → i ≤ n → inserted_to n l i y ≡ inserted l i y
  unfolding inserted_to
  inserted_all i y last upto =
      let less : n < n + 1 = omega arith in
      sym (inserted_zeros (take (n + 1) l) (drop (n + 1) l) n i y rest (sym (front n l size most))
      (get_or-take (n + 1) l n 0 less ∙ last) upto)
      ∙ ap (λ (m : List ℕ). inserted m i y) (joined n l size most)

-- ---- the place that moving ends at, in a tidy table

-- it lies from place i on, and is free but for the last
pub record End (l : List ℕ) (i e : ℕ) : Type 0 where
  pub from : i ≤ e
  pub within : e ≤ 255
  pub free : e < 255 → get_or l e 0 ≡ 0

end_from_lem : (n : ℕ) (l : List ℕ) (i : ℕ) → i ≤ 255 → End l i (end_from n l i)
unfolding end_from
end_from_lem zero l i most = record { from = most; within = omega arith; free = λ less. absurd (omega arith) }
end_from_lem (suc n) l i most =
    by_less i (256 - stride)
    (λ less. by_same (get_or l i 0) 0
    (λ free. rw (lt-ltb _ _ less, eq-eqb _ _ free) (record { from = omega arith; within = most; free = λ _. free }))
    (λ some.
    let next = end_from_lem n l (i + stride) (omega arith) in
    rw (lt-ltb _ _ less, ne_eqb _ _ some)
    (record { from = omega (arith, next.from); within = next.within; free = next.free })))
    (λ past.
    rw (le-ltb _ _ past) (record { from = most; within = omega arith; free = λ less. absurd (omega arith) }))

module _ (o : Others) (tidy : TidyOthers o) where
  free_value : (j : ℕ) → get_or o.addresses j 0 ≡ 0 → get_or o.values j 0 ≡ 0
  free_value j z =
      by_same (get_or o.values j 0) 0 (λ e. e) (λ some. absurd (not_zero _ (tidy.belongs j some) z))

  module _ (i : ℕ) (most : i ≤ 255) where
    end_is : End o.addresses i (end_of o i)
    unfolding end_of
    end_is = end_from_lem strides o.addresses i most

    -- all behind it are free
    end_behind : (j : ℕ) → end_of o i < j → get_or o.addresses j 0 ≡ 0
    end_behind j less =
        by_less (end_of o i) 255
        (λ short. omega (arith, end_is.free short, falling o tidy (end_of o i) j (omega arith)))
        (λ last.
        let out : length o.addresses ≤ j = omega (arith, tidy.addresses) in
        get_or-eq_default o.addresses 0 out)

    -- and it is itself, where the last is
    end_room : get_or o.values 255 0 ≡ 0 → get_or o.addresses (end_of o i) 0 ≡ 0
    end_room free =
        by_less (end_of o i) 255 end_is.free
        (λ past.
        let last : end_of o i ≡ 255 = omega (arith, end_is.within) in
        ap (λ (j : ℕ). get_or o.addresses j 0) last ∙ tidy.free 255 free)

-- ---- a put

-- all places behind place i move up, or from it on down
abbrev pub given_back : Registers → ℕ → Registers
given_back r i = registers_of r.slots (removed r.addresses i) (removed r.values i)

abbrev pub taken_by : Registers → ℕ → ℕ → ℕ → Registers
taken_by r i a v = registers_of r.slots (inserted r.addresses i a) (inserted r.values i v)

module _ (r : Registers) (a v : ℕ) (tidy : TidyOthers (others_of r)) where
  most : place_in r a ≤ 255
  most = omega (arith, place_within r.addresses a (falling (others_of r) tidy))

  ends : End r.addresses (place_in r a) (end_of (others_of r) (place_in r a))
  ends = end_is (others_of r) tidy (place_in r a) most

  address_behind : (j : ℕ) → end_of (others_of r) (place_in r a) < j → get_or r.addresses j 0 ≡ 0
  address_behind = end_behind (others_of r) tidy (place_in r a) most

  value_behind : (j : ℕ) → end_of (others_of r) (place_in r a) < j → get_or r.values j 0 ≡ 0
  value_behind j less = free_value (others_of r) tidy j (address_behind j less)

  back_all : given_back r (place_in r a) ≡ moved_up r (place_in r a)
  back_all =
      rw (
        removed_all _ r.addresses tidy.addresses ends.within address_behind (place_in r a) ends.from,
        removed_all _ r.values tidy.values ends.within value_behind (place_in r a) ends.from,
      )

  taken_all : get_or r.values 255 0 ≡ 0 → taken_by r (place_in r a) a v ≡ moved_down r (place_in r a) a v
  taken_all free =
      let room = end_room (others_of r) tidy (place_in r a) most free in
      let room_value = free_value (others_of r) tidy _ room in
      rw (
        inserted_all _ r.addresses tidy.addresses ends.within address_behind (place_in r a) a room ends.from,
        inserted_all _ r.values tidy.values ends.within value_behind (place_in r a) v room_value ends.from,
      )

  -- so a put to a tidy table moves all
  pub tidy_cases : (P : Outcome → Type 0)
      → PutCases r a v (given_back r (place_in r a)) (taken_by r (place_in r a) a v) P
  tidy_cases P own never back set none taken full =
      put_cases r a v P own never
      (λ other here z. subst (λ (x : Registers). P (outcome DONE x)) back_all (back other here z))
      set none
      (λ other gone some free.
      subst (λ (x : Registers). P (outcome DONE x)) (taken_all free) (taken other gone some free))
      full
