-- How many of the other words are not zero, and when there is no room.
use Prim.Native.Nat.{ℕ, zero, suc, ◌+◌, ◌<◌, ◌≤◌}
use mathlib.Core.Path.{◌≡◌, refl, sym, ap, ◌∙◌}
use mathlib.Core.Bool.{true≢false}
use mathlib.Core.List.{List, [], ◌∷◌, ◌++◌}
use mathlib.Core.Logic.{◌≢◌, ◌↔◌}
use native.Mathlib.Omega.{arith}
use lib.ListN.{length, get_or, set}
use borrow.Author.Tests.{eq-eqb, ne_eqb}
use Rattle.map.specs.Numbers.{DONE, REGISTERS_FULL}
use Rattle.registers.specs.declared.Registers.{Registers}
use Rattle.registers.specs.Words.{removed, inserted, others_of, word_at, Outcome, put_word}
use Rattle.registers.specs.Within.{Other, Tidy, count_of, non_zero, Full}
use Rattle.whole.proofs.Choice.{by_same}
use Rattle.registers.proofs.Spots.{place_in, read_present, read_absent, put_cases}
use Rattle.registers.proofs.Order.{free_behind, present_within, gap, some_present}
use Rattle.registers.proofs.Moving.{tidy_cases}

-- ---- counting

pub counted_none : (v : ℕ) → v ≡ 0 → count_of v ≡ 0
unfolding count_of
counted_none v z = rw (eq-eqb v 0 z)

pub counted_some : (v : ℕ) → v ≢ 0 → count_of v ≡ 1
unfolding count_of
counted_some v n = rw (ne_eqb v 0 n)

counted_most : (v : ℕ) → count_of v ≤ 1
counted_most v = by_same v 0 (λ z. omega (arith, counted_none v z)) (λ n. omega (arith, counted_some v n))

count_set : (l : List ℕ) (i v : ℕ) → i < length l → non_zero (set l i v) + count_of (get_or l i 0) ≡ non_zero l +
    count_of v
unfolding non_zero
count_set [] i v less = absurd (omega arith)
count_set (x ∷ xs) zero v less = omega arith
count_set (x ∷ xs) (suc i) v less = omega (arith, count_set xs i v (omega arith))

count_most : (l : List ℕ) → non_zero l ≤ length l
unfolding non_zero
count_most [] = omega arith
count_most (x ∷ xs) = omega (arith, counted_most x, count_most xs)

-- a list in which a word is zero is not full
count_less : (l : List ℕ) (i : ℕ) → i < length l → get_or l i 0 ≡ 0 → non_zero l < length l
unfolding non_zero
count_less [] i less z = absurd (omega arith)
count_less (x ∷ xs) zero less z = omega (arith, counted_none x z, count_most xs)
count_less (x ∷ xs) (suc i) less z = omega (arith, counted_most x, count_less xs i (omega arith) z)

count_all : (l : List ℕ) → ((i : ℕ) → i < length l → get_or l i 0 ≢ 0) → non_zero l ≡ length l
unfolding non_zero
count_all [] all = refl
count_all (x ∷ xs) all =
    omega (arith, counted_some x (all 0 (omega arith)), count_all xs (λ i less. all (suc i) (omega arith)))

count_zero : (l : List ℕ) → non_zero (l ++ (0 ∷ [])) ≡ non_zero l
unfolding non_zero
count_zero [] = omega (arith, counted_none 0 refl)
count_zero (x ∷ xs) = omega (arith, count_zero xs)

count_removed : (l : List ℕ) (i : ℕ) → non_zero (removed l i) + count_of (get_or l i 0) ≡ non_zero l
unfolding non_zero removed
count_removed [] i = omega (arith, counted_none 0 refl)
count_removed (x ∷ xs) zero = omega (arith, count_zero xs)
count_removed (x ∷ xs) (suc i) = omega (arith, count_removed xs i)

-- where the last place is free
count_inserted : (l : List ℕ) (n i y : ℕ) → suc n ≡ length l → i ≤ n → get_or l n 0 ≡ 0
    → non_zero (inserted l i y) ≡ non_zero l + count_of y
unfolding non_zero inserted
count_inserted [] n i y size upto free = absurd (omega arith)
count_inserted (x ∷ xs) zero zero y size upto free = last xs (omega arith)
  where
    last : (l : List ℕ) → length l ≡ 0 → count_of y + non_zero (inserted l 0 x) ≡ count_of x + non_zero l + count_of y
    last [] none = omega (arith, counted_none x free)
    last (z ∷ zs) none = absurd (omega arith)
count_inserted (x ∷ xs) zero (suc i) y size upto free = absurd (omega arith)
count_inserted (x ∷ xs) (suc n) zero y size upto free =
    omega (arith, count_inserted xs n zero x (omega arith) (omega arith) free)
count_inserted (x ∷ xs) (suc n) (suc i) y size upto free =
    omega (arith, count_inserted xs n i y (omega arith) (omega arith) free)

-- ---- the room

-- RegistersFull is given exactly where 01 says so
pub full_exactly : (r : Registers) (a v : ℕ) → Tidy r → ((put_word r a v).refusal ≡ REGISTERS_FULL) ↔ Full r a v
full_exactly r a v tidy =
    tidy_cases r a v tidy.others (λ (p : Outcome). (p.refusal ≡ REGISTERS_FULL) ↔ Full r a v)
    (λ less. (λ four. absurd (omega arith), λ full. absurd (omega (arith, full.other.slot))))
    (λ slot never. (λ four. absurd (omega arith), λ full. absurd (true≢false (sym never ∙ full.other.stored))))
    (λ other here z. (λ four. absurd (omega arith), λ full. absurd (full.value z)))
    (λ other here some.
    (λ four. absurd (omega arith), λ full. absurd (some_present r tidy.others a other here full.word)))
    (λ other gone z. (λ four. absurd (omega arith), λ full. absurd (full.value z)))
    (λ other gone some free. (λ four. absurd (omega arith), λ full. absurd (not_all free full.most)))
    (λ other gone some last. (
      λ four. record { value = some; word = read_absent r a other gone; other = other; most = all_present last },
      λ full. refl,
    ))
  where
    not_all : get_or r.values 255 0 ≡ 0 → non_zero r.values ≡ 256 → ⊥
    not_all free most =
        let within : 255 < length r.values = omega (arith, tidy.others.values) in
        omega (arith, tidy.others.values, count_less r.values 255 within free)

    all_present : get_or r.values 255 0 ≢ 0 → non_zero r.values ≡ 256
    all_present last =
        count_all r.values
        (λ i less z. last (free_behind (others_of r) tidy.others i 255 (omega (arith, tidy.others.values)) z))
        ∙ tidy.others.values

-- with the word that was there, the later count is the former one with the word that is there now
pub room_counts : (r : Registers) (a v : ℕ) → Tidy r → Other a → (put_word r a v).refusal ≡ DONE
    → non_zero (put_word r a v).registers.values + count_of (word_at r a) ≡ non_zero r.values + count_of v
room_counts r a v tidy other =
    tidy_cases r a v tidy.others Counts
    (λ less. absurd (omega (arith, other.slot)))
    (λ slot never. absurd (true≢false (sym never ∙ other.stored)))
    (λ o here z done.
    omega (arith, counted_none v z, ap count_of (read_present r a o here), count_removed r.values (place_in r a)))
    (λ o here some done.
    let less : place_in r a < 256 = present_within (others_of r) tidy.others a o (place_in r a) here in
    let within : place_in r a < length r.values = omega (arith, tidy.others.values) in
    omega (arith, ap count_of (read_present r a o here), count_set r.values (place_in r a) v within))
    (λ o gone z done. omega (arith, counted_none v z, counted_none (word_at r a) (read_absent r a o gone)))
    (λ o gone some free done.
    let upto : place_in r a ≤ 255 = omega (arith, (gap (others_of r) tidy.others a gone free).within) in
    let size : suc 255 ≡ length r.values = omega (arith, tidy.others.values) in
    let more = count_inserted r.values 255 (place_in r a) v size upto free in
    omega (arith, counted_none (word_at r a) (read_absent r a o gone), more))
    (λ o gone some full done. absurd (omega arith))
  where
    Counts : Outcome → Type 0
    Counts p =
        p.refusal ≡ DONE → non_zero p.registers.values + count_of (word_at r a) ≡ non_zero r.values + count_of v

module _ (r : Registers) (a v : ℕ) (tidy : Tidy r) (other : Other a) (done : (put_word r a v).refusal ≡ DONE) where
  pub room_taken : word_at r a ≡ 0 → v ≢ 0 → non_zero (put_word r a v).registers.values ≡ non_zero r.values + 1
  room_taken old new =
      omega (arith, room_counts r a v tidy other done, counted_none (word_at r a) old, counted_some v new)

  pub room_given : word_at r a ≢ 0 → v ≡ 0 → non_zero (put_word r a v).registers.values + 1 ≡ non_zero r.values
  room_given old new =
      omega (arith, room_counts r a v tidy other done, counted_some (word_at r a) old, counted_none v new)

  pub room_kept : count_of (word_at r a) ≡ count_of v → non_zero (put_word r a v).registers.values ≡ non_zero r.values
  room_kept same = omega (arith, room_counts r a v tidy other done)

-- a word that takes no place
pub room_apart : (r : Registers) (a v : ℕ) → (Other a → ⊥)
    → non_zero (put_word r a v).registers.values ≡ non_zero r.values
room_apart r a v not_other =
    put_cases r a v (λ (p : Outcome). non_zero p.registers.values ≡ non_zero r.values)
    (λ less. refl)
    (λ slot never. refl)
    (λ other here z. absurd (not_other other))
    (λ other here some. absurd (not_other other))
    (λ other gone z. refl)
    (λ other gone some free. absurd (not_other other))
    (λ other gone some full. refl)
