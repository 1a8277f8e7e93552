-- What holds of the address of each other word holds after a put, if it holds of the address that is put to.
use Prim.Native.Nat.{ℕ}
use mathlib.Core.Path.{◌≡◌, sym, ap, subst, ◌∙◌}
use mathlib.Core.Logic.{◌≢◌}
use lib.ListN.{get_or, set}
use Rattle.registers.specs.declared.Registers.{Registers}
use Rattle.registers.specs.Words.{Others, others, others_of, fresh_registers, Outcome, put_word}
use Rattle.registers.specs.Within.{Tidy, EachOther}
use Rattle.registers.proofs.Spots.{place_in}
use Rattle.registers.proofs.Order.{present}
use Rattle.registers.proofs.Moving.{given_back, taken_by, tidy_cases}
use Rattle.registers.proofs.Wider.{past, by_past, Wider, wider_removed, wider_inserted}
use Rattle.registers.proofs.Tidy.{zeros, free_after, taken_at}

module _ (P : ℕ → Type 0) where
  pub each_fresh : EachOther P (others_of fresh_registers)
  unfolding fresh_registers
  each_fresh i some = absurd (some (zeros 256 i))

  -- a place is given back
  each_narrower : (o w : Others) (i : ℕ) → Wider o w i → EachOther P w → EachOther P o
  each_narrower o w i wider all j some =
      subst P (sym (wider.address j)) (all (past i j) (λ z. some (wider.value j ∙ z)))

  -- a place is taken
  each_wider : (o w : Others) (i a : ℕ) → Wider o w i → get_or w.addresses i 0 ≡ a → EachOther P o → P a
      → EachOther P w
  each_wider o w i a wider here all put k some =
      by_past i k
      (λ new. subst P (sym here ∙ ap (λ (m : ℕ). get_or w.addresses m 0) (sym new)) put)
      (λ j old. subst P (wider.address j ∙ ap (λ (m : ℕ). get_or w.addresses m 0) old)
      (all j (λ z. some (ap (λ (m : ℕ). get_or w.values m 0) (sym old) ∙ sym (wider.value j) ∙ z))))

  -- a place is set
  each_set : (o : Others) (i v : ℕ) → get_or o.values i 0 ≢ 0 → v ≢ 0 → EachOther P o
      → EachOther P (others o.addresses (set o.values i v))
  each_set o i v old new all j some = all j (λ z. some (free_after o.values i v old new j z))

  pub each_put : (r : Registers) (a v : ℕ) → Tidy r → P a → EachOther P (others_of r)
      → EachOther P (others_of (put_word r a v).registers)
  each_put r a v tidy put all =
      tidy_cases r a v tidy.others (λ (p : Outcome). EachOther P (others_of p.registers))
      (λ less. all)
      (λ slot never. all)
      (λ other here z. each_narrower (others_of (given_back r (place_in r a))) (others_of r) (place_in r a)
      (wider_removed (others_of r) (place_in r a)) all)
      (λ other here some. each_set (others_of r) (place_in r a) v
      (present (others_of r) tidy.others a other (place_in r a) here) some all)
      (λ other gone z. all)
      (λ other gone some free. each_wider (others_of r) (others_of (taken_by r (place_in r a) a v)) (place_in r a) a
      (wider_inserted (others_of r) (place_in r a) a v tidy.others free)
      (taken_at r a v tidy.others other some gone free r.addresses a tidy.others.addresses) all put)
      (λ other gone some full. all)
