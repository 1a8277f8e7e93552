-- The fresh registers are tidy, and a put keeps them so.
use Prim.Native.Nat.{ℕ, zero, suc, ◌<◌}
use mathlib.Core.Path.{◌≡◌, refl, sym, ap, subst, ◌∙◌}
use mathlib.Core.List.{List}
use mathlib.Core.Logic.{◌≢◌}
use native.Mathlib.Omega.{arith}
use lib.ListN.{length, get_or, set, replicate, length-set, length-replicate, get_or-eq_default}
use lib.Seq.{get_or-set_same, get_or-set_other}
use Rattle.registers.specs.declared.Registers.{Registers}
use Rattle.registers.specs.Words.{inserted, Others, others, registers_of, others_of}
use Rattle.registers.specs.Words.{fresh_registers, Outcome, put_word}
use Rattle.registers.specs.Within.{Other, TidyOthers, Tidy}
use Rattle.whole.proofs.Choice.{by_same, by_less}
use Rattle.registers.proofs.Own.{own_length}
use Rattle.registers.proofs.Spots.{Here, Gone, place_in, set_in}
use Rattle.registers.proofs.Order.{present, Gap, gap}
use Rattle.registers.proofs.Moving.{given_back, taken_by, tidy_cases}
use Rattle.registers.proofs.Shifts.{length_removed, length_inserted, inserted_here}
use Rattle.registers.proofs.Wider.{past, past_less, past_back, past_from, past_upto, by_past}
use Rattle.registers.proofs.Wider.{Wider, wider_removed, wider_inserted}

-- ---- fresh

pub zeros : (n i : ℕ) → ◌≡◌ {A = ℕ} (get_or (replicate n 0) i 0) 0
zeros zero i = refl
zeros (suc n) zero = refl
zeros (suc n) (suc i) = zeros n i

pub tidy_fresh : Tidy fresh_registers
unfolding fresh_registers
tidy_fresh = record {
  slots = length-replicate {A = ℕ} 76 0;
  others = record {
    addresses = length-replicate {A = ℕ} 256 0;
    values = length-replicate {A = ℕ} 256 0;
    free = λ i z. zeros 256 i;
    belongs = λ i some. absurd (some (zeros 256 i));
    falls = λ i j less some. absurd (some (zeros 256 j));
  };
}

-- ---- a place is given back

module _ (o w : Others) (i : ℕ) (wider : Wider o w i) where
  tidy_narrower : TidyOthers w → length o.addresses ≡ 256 → length o.values ≡ 256 → TidyOthers o
  tidy_narrower tidy addresses values = record {
    addresses = addresses;
    values = values;
    free = λ j z. wider.address j ∙ tidy.free (past i j) (sym (wider.value j) ∙ z);
    belongs = λ j some.
        subst Other (sym (wider.address j)) (tidy.belongs (past i j) (λ z. some (wider.value j ∙ z)));
    falls = λ j k less some. omega (
      arith,
      wider.address j,
      wider.address k,
      tidy.falls (past i j) (past i k) (past_less i j k less) (λ z. some (wider.value k ∙ z)),
    );
  }

-- ---- a place is taken

-- by a word whose address is between those before it and those behind
module _ (o w : Others) (i a : ℕ) (wider : Wider o w i) (tidy : TidyOthers o) (gap : Gap o tidy a i) (other : Other a)
    (here : get_or w.addresses i 0 ≡ a) (some_here : get_or w.values i 0 ≢ 0) where
  wider_some : (j k : ℕ) → past i j ≡ k → get_or w.values k 0 ≢ 0 → get_or o.values j 0 ≢ 0
  wider_some j k e some z = some (ap (λ (m : ℕ). get_or w.values m 0) (sym e) ∙ sym (wider.value j) ∙ z)

  wider_address : (j k : ℕ) → past i j ≡ k → get_or w.addresses k 0 ≡ get_or o.addresses j 0
  wider_address j k e = ap (λ (m : ℕ). get_or w.addresses m 0) (sym e) ∙ sym (wider.address j)

  wider_free : (k : ℕ) → get_or w.values k 0 ≡ 0 → get_or w.addresses k 0 ≡ 0
  wider_free k z =
      by_past i k
      (λ new. absurd (some_here (ap (λ (m : ℕ). get_or w.values m 0) (sym new) ∙ z)))
      (λ j old. wider_address j k old ∙ tidy.free j (wider.value j ∙ ap (λ (m : ℕ). get_or w.values m 0) old ∙ z))

  wider_belongs : (k : ℕ) → get_or w.values k 0 ≢ 0 → Other (get_or w.addresses k 0)
  wider_belongs k some =
      by_past i k
      (λ new. subst Other (sym here ∙ ap (λ (m : ℕ). get_or w.addresses m 0) (sym new)) other)
      (λ j old. subst Other (sym (wider_address j k old)) (tidy.belongs j (wider_some j k old some)))

  wider_falls : (j k : ℕ) → j < k → get_or w.values k 0 ≢ 0 → get_or w.addresses k 0 < get_or w.addresses j 0
  wider_falls j k less some =
      by_past i k
      (λ new. by_past i j
      (λ same. absurd (omega arith))
      (λ m old.
      let before = past_upto i m (omega arith) in
      let higher = gap.above m before.0 in
      omega (arith, here, ap (λ (n : ℕ). get_or w.addresses n 0) new, wider_address m j old, higher)))
      (λ n moved. by_past i j
      (λ same.
      omega (
        arith,
        here,
        ap (λ (m : ℕ). get_or w.addresses m 0) same,
        wider_address n k moved,
        gap.below n (past_from i n (omega arith)) (wider_some n k moved some),
      ))
      (λ m old.
      omega (
        arith,
        wider_address m j old,
        wider_address n k moved,
        tidy.falls m n (past_back i m n (omega arith)) (wider_some n k moved some),
      )))

  tidy_wider : length w.addresses ≡ 256 → length w.values ≡ 256 → TidyOthers w
  tidy_wider addresses values = record {
    addresses = addresses;
    values = values;
    free = wider_free;
    belongs = wider_belongs;
    falls = wider_falls;
  }

-- ---- a place is set

module _ (l : List ℕ) (i v : ℕ) (some_before : get_or l i 0 ≢ 0) (Some_after : v ≢ 0) where
  pub set_here : get_or (set l i v) i 0 ≡ v
  set_here =
      by_less i (length l)
      (λ less. get_or-set_same l i v 0 less)
      (λ out. absurd (some_before (get_or-eq_default l 0 out)))

  -- the same places are free
  free_before : (j : ℕ) → get_or (set l i v) j 0 ≡ 0 → get_or l j 0 ≡ 0
  free_before j z =
      by_same j i
      (λ e. absurd (Some_after (sym set_here ∙ ap (λ (m : ℕ). get_or (set l i v) m 0) (sym e) ∙ z)))
      (λ n. sym (get_or-set_other l i j v 0 n) ∙ z)

  pub free_after : (j : ℕ) → get_or l j 0 ≡ 0 → get_or (set l i v) j 0 ≡ 0
  free_after j z =
      by_same j i
      (λ e. absurd (some_before (ap (λ (m : ℕ). get_or l m 0) (sym e) ∙ z)))
      (λ n. get_or-set_other l i j v 0 n ∙ z)

tidy_set : (o : Others) (i v : ℕ) → TidyOthers o → get_or o.values i 0 ≢ 0 → v ≢ 0
    → TidyOthers (others o.addresses (set o.values i v))
tidy_set o i v tidy old new = record {
  addresses = tidy.addresses;
  values = length-set o.values i v ∙ tidy.values;
  free = λ j z. tidy.free j (free_before o.values i v old new j z);
  belongs = λ j some. tidy.belongs j (λ z. some (free_after o.values i v old new j z));
  falls = λ j k less some. tidy.falls j k less (λ z. some (free_after o.values i v old new k z));
}

-- ---- a put

pub tidy_back : (r : Registers) (i : ℕ) → TidyOthers (others_of r) → TidyOthers (others_of (given_back r i))
tidy_back r i tidy =
    tidy_narrower (others_of (given_back r i)) (others_of r) i (wider_removed (others_of r) i) tidy
    (length_removed r.addresses i ∙ tidy.addresses)
    (length_removed r.values i ∙ tidy.values)

module _ (r : Registers) (a v : ℕ) (tidy : TidyOthers (others_of r)) (other : Other a) (some : v ≢ 0) where
  pub tidy_here : Here r.addresses a → TidyOthers (others_of (set_in r (place_in r a) v))
  tidy_here here =
      tidy_set (others_of r) (place_in r a) v tidy (present (others_of r) tidy a other (place_in r a) here) some

  module _ (gone : Gone r.addresses a) (free : get_or r.values 255 0 ≡ 0) where
    pub taken_at : (l : List ℕ) (y : ℕ) → length l ≡ 256 → get_or (inserted l (place_in r a) y) (place_in r a) 0 ≡ y
    taken_at l y size = inserted_here l (place_in r a) y (omega (arith, (gap (others_of r) tidy a gone free).within))

    pub tidy_taken : TidyOthers (others_of (taken_by r (place_in r a) a v))
    tidy_taken =
        tidy_wider (others_of r) (others_of (taken_by r (place_in r a) a v)) (place_in r a) a
        (wider_inserted (others_of r) (place_in r a) a v tidy free) tidy (gap (others_of r) tidy a gone free) other
        (taken_at r.addresses a tidy.addresses)
        (λ z. some (sym (taken_at r.values v tidy.values) ∙ z))
        (length_inserted r.addresses (place_in r a) a ∙ tidy.addresses)
        (length_inserted r.values (place_in r a) v ∙ tidy.values)

pub tidy_put : (r : Registers) (a v : ℕ) → Tidy r → Tidy (put_word r a v).registers
tidy_put r a v tidy =
    tidy_cases r a v tidy.others (λ (p : Outcome). Tidy p.registers)
    (λ less. record { slots = own_length r.slots a v ∙ tidy.slots; others = tidy.others })
    (λ slot never. tidy)
    (λ other here z. beside_own (tidy_back r (place_in r a) tidy.others))
    (λ other here some. beside_own (tidy_here r a v tidy.others other some here))
    (λ other gone z. tidy)
    (λ other gone some free. beside_own (tidy_taken r a v tidy.others other some gone free))
    (λ other gone some full. tidy)
  where
    beside_own : {o : Others} → TidyOthers o → Tidy (registers_of r.slots o.addresses o.values)
    beside_own others = record { slots = tidy.slots; others = others }
