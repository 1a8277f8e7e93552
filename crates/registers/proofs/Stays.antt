-- Puts that change nothing: those that are refused, and those of words that are never stored.
use Prim.Native.Nat.{ℕ}
use mathlib.Core.Path.{◌≡◌, refl, sym, ap, ◌∙◌}
use mathlib.Core.Bool.{true, true≢false}
use native.Mathlib.Omega.{arith}
use borrow.Author.Tests.{ne_eqb}
use Rattle.map.specs.Numbers.{REGISTERS_FULL, RTC_SECONDS, RTC_MINUTES, RTC_HOURS, DONE}
use Rattle.registers.specs.declared.Registers.{Registers}
use Rattle.registers.specs.Words.{unstored}
use Rattle.registers.specs.Ports.{day_word, words_from, named_rows, own_words, index, slot_of}
use Rattle.registers.specs.Words.{word_at, Outcome, outcome, put_word}
use Rattle.whole.proofs.Choice.{by_same}
use Rattle.registers.proofs.Spots.{read_never, put_never, put_cases}

-- ---- refused

pub refused_stays : (r : Registers) (a v : ℕ) → (put_word r a v).refusal ≡ REGISTERS_FULL →
    (put_word r a v).registers ≡ r
refused_stays r a v =
    put_cases r a v (λ (p : Outcome). p.refusal ≡ REGISTERS_FULL → p.registers ≡ r)
    (λ less four. absurd (omega arith))
    (λ slot never four. refl)
    (λ other here z four. absurd (omega arith))
    (λ other here some four. absurd (omega arith))
    (λ other gone z four. refl)
    (λ other gone some free four. absurd (omega arith))
    (λ other gone some full four. refl)

-- ---- never stored

unstored_slot : (a : ℕ) → unstored a ≡ true → slot_of a ≡ 76
unfolding slot_of own_words words_from named_rows index unstored day_word
unstored_slot a u =
    by_same a 0 (λ e. ap slot_of e)
    (λ n0. by_same a RTC_SECONDS (λ e. ap slot_of e)
    (λ n1. by_same a RTC_MINUTES (λ e. ap slot_of e)
    (λ n2. by_same a RTC_HOURS (λ e. ap slot_of e)
    (λ n3. absurd (true≢false (sym u ∙ simp (ne_eqb _ _ n0, ne_eqb _ _ n1, ne_eqb _ _ n2, ne_eqb _ _ n3)))))))

module _ (r : Registers) (a : ℕ) (never : unstored a ≡ true) where
  pub unstored_word : word_at r a ≡ 0
  unstored_word = read_never r a (unstored_slot a never) never

  pub unstored_put : (v : ℕ) → put_word r a v ≡ outcome DONE r
  unstored_put v = put_never r a v (unstored_slot a never) never
