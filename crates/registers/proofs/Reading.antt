-- What was put is read back, and every other word is as it was.
use Prim.Native.Nat.{ℕ}
use mathlib.Core.Path.{◌≡◌, refl, sym, ap, ◌∙◌}
use mathlib.Core.Bool.{false, true≢false}
use mathlib.Core.List.{List}
use mathlib.Core.Logic.{◌≢◌}
use native.Mathlib.Omega.{arith}
use lib.ListN.{get_or}
use lib.Seq.{get_or-set_other}
use Rattle.map.specs.Numbers.{DONE}
use Rattle.registers.specs.declared.Registers.{Registers}
use Rattle.registers.specs.declared.Spot.{Spot}
use Rattle.registers.specs.Words.{unstored, removed, registers_of, others_of}
use Rattle.registers.specs.Ports.{slot_of}
use Rattle.registers.specs.Words.{word_in, word_at, Outcome, put_word}
use Rattle.registers.specs.Within.{Other, TidyOthers, Tidy}
use Rattle.registers.proofs.Own.{by_slot, slot_apart, own_own, own_stays, own_word}
use Rattle.registers.proofs.Spots.{Here, Gone, by_kind, by_spot, read_never, read_absent, place_in, set_in}
use Rattle.registers.proofs.Order.{once, present, word_is, word_absent, by_place}
use Rattle.registers.proofs.Moving.{given_back, taken_by, tidy_cases}
use Rattle.registers.proofs.Tidy.{set_here, tidy_back, tidy_here, taken_at, tidy_taken}
use Rattle.registers.proofs.Wider.{past, past_other, wider_removed, wider_inserted, wider_reads}

-- ---- the word itself

-- a word that has given its place back stands nowhere
back_absent : (r : Registers) (a : ℕ) → TidyOthers (others_of r) → Other a → Here r.addresses a
    → (j : ℕ) → get_or (removed r.addresses (place_in r a)) j 0 ≢ a
back_absent r a tidy other here j e =
    let p = place_in r a in
    let stands : get_or r.addresses (past p j) 0 ≡ a = sym ((wider_removed (others_of r) p).address j) ∙ e in
    let some = present (others_of r) tidy a other in
    past_other p j (once (others_of r) tidy (past p j) p (some (past p j) stands) (some p here) (stands ∙ sym here))

-- what was put and not refused is read back
pub get_same : (r : Registers) (a v : ℕ) → Tidy r → unstored a ≡ false → (put_word r a v).refusal ≡ DONE
    → word_at (put_word r a v).registers a ≡ v
get_same r a v tidy stored =
    tidy_cases r a v tidy.others (λ (p : Outcome). p.refusal ≡ DONE → word_at p.registers a ≡ v)
    (λ less done. own_word _ a less ∙ own_own r.slots a v tidy.slots less)
    (λ slot never done. absurd (true≢false (sym never ∙ stored)))
    (λ other here z done.
    word_absent (given_back r (place_in r a)) (tidy_back r (place_in r a) tidy.others) a other
    (back_absent r a tidy.others other here)
    ∙ sym z)
    (λ other here some done.
    word_is (set_in r (place_in r a) v) (tidy_here r a v tidy.others other some here) a other (place_in r a) here
    ∙ set_here r.values (place_in r a) v (present (others_of r) tidy.others a other (place_in r a) here) some)
    (λ other gone z done. read_absent r a other gone ∙ sym z)
    (λ other gone some free done.
    let at = taken_at r a v tidy.others other some gone free in
    word_is (taken_by r (place_in r a) a v) (tidy_taken r a v tidy.others other some gone free) a other (place_in r a)
    (at r.addresses a tidy.others.addresses)
    ∙ at r.values v tidy.others.values)
    (λ other gone some full done. absurd (omega arith))

-- ---- every other word

-- a word with no storage of its own is not read there
other_own : (slots slots' addresses values : List ℕ) (b : ℕ) → slot_of b ≡ 76
    → word_at (registers_of slots addresses values) b ≡ word_at (registers_of slots' addresses values) b
unfolding word_at
other_own slots slots' addresses values b none =
    by_spot addresses b (λ (s : Spot). word_in slots values s ≡ word_in slots' values s)
    (λ less. absurd (omega arith))
    (λ slot never. refl)
    (λ other here. refl)
    (λ other gone. refl)

-- of two tables beside the same own words only the others can tell
others_tell : (r : Registers) (addresses values : List ℕ) (b : ℕ)
    → (Other b → word_at (registers_of r.slots addresses values) b ≡ word_at r b)
    → word_at (registers_of r.slots addresses values) b ≡ word_at r b
others_tell r addresses values b =
    by_kind b
    (λ less rest. own_word (registers_of r.slots addresses values) b less ∙ sym (own_word r b less))
    (λ none never rest.
    read_never (registers_of r.slots addresses values) b none never ∙ sym (read_never r b none never))
    (λ other rest. rest other)

module _ (r : Registers) (a b v : ℕ) (tidy : TidyOthers (others_of r)) (other : Other a) (new : b ≢ a)
    (other_b : Other b) where
  back_stays : Here r.addresses a → word_at (given_back r (place_in r a)) b ≡ word_at r b
  back_stays here =
      wider_reads (given_back r (place_in r a)) r (place_in r a) b (tidy_back r (place_in r a) tidy) tidy
      (wider_removed (others_of r) (place_in r a))
      (λ e. new (sym e ∙ here))
      other_b

  set_stays : Here r.addresses a → v ≢ 0 → word_at (set_in r (place_in r a) v) b ≡ word_at r b
  set_stays here some =
      let after = tidy_here r a v tidy other some here in
      by_place r tidy b other_b
      (λ j e.
      let apart : j ≢ place_in r a = λ q. new (sym e ∙ ap (λ (k : ℕ). get_or r.addresses k 0) q ∙ here) in
      word_is (set_in r (place_in r a) v) after b other_b j e
      ∙ get_or-set_other r.values (place_in r a) j v 0 apart
      ∙ sym (word_is r tidy b other_b j e))
      (λ absent.
      word_absent (set_in r (place_in r a) v) after b other_b absent ∙ sym (word_absent r tidy b other_b absent))

  taken_stays : Gone r.addresses a → v ≢ 0 → get_or r.values 255 0 ≡ 0
      → word_at (taken_by r (place_in r a) a v) b ≡ word_at r b
  taken_stays gone some free =
      sym (wider_reads r (taken_by r (place_in r a) a v) (place_in r a) b
      tidy (tidy_taken r a v tidy other some gone free)
      (wider_inserted (others_of r) (place_in r a) a v tidy free)
      (λ e. new (sym e ∙ taken_at r a v tidy other some gone free r.addresses a tidy.addresses))
      other_b)

-- every other word is as it was, refused or not
pub get_other : (r : Registers) (a b v : ℕ) → Tidy r → b ≢ a → word_at (put_word r a v).registers b ≡ word_at r b
get_other r a b v tidy new =
    tidy_cases r a v tidy.others (λ (p : Outcome). word_at p.registers b ≡ word_at r b)
    (λ less. by_slot b
    (λ here. own_word _ b here ∙ own_stays r.slots a b v (slot_apart a b less new) ∙ sym (own_word r b here))
    (λ none. other_own _ r.slots r.addresses r.values b none))
    (λ slot never. refl)
    (λ other here z. others_tell r _ _ b (λ o. back_stays r a b v tidy.others other new o here))
    (λ other here some. others_tell r _ _ b (λ o. set_stays r a b v tidy.others other new o here some))
    (λ other gone z. refl)
    (λ other gone some free.
    others_tell r _ _ b (λ o. taken_stays r a b v tidy.others other new o gone some free))
    (λ other gone some full. refl)

-- ---- the places

-- each place that is not free is the word that its address reads
pub place_reads : (r : Registers) (i : ℕ) → Tidy r → get_or r.values i 0 ≢ 0
    → word_at r (get_or r.addresses i 0) ≡ get_or r.values i 0
place_reads r i tidy some =
    word_is r tidy.others (get_or r.addresses i 0) (tidy.others.belongs i some) i refl
