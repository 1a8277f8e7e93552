-- What the output holds once answers are laid into it.
use Prim.Native.Nat.{ℕ, ◌+◌, ◌*◌, ◌/◌, ◌%◌, ◌^◌, ◌≤◌}
use mathlib.Core.Path.{◌≡◌, refl, ◌∙◌}
use mathlib.Core.Logic.{inl, inr}
use mathlib.Core.List.{List, [], ◌∷◌}
use native.Mathlib.Omega.{arith}
use lib.ListN.{length, get_or}
use Rattle.memory.specs.Bytes.{loaded, stored_at}
use Rattle.memory.proofs.Stored.{store_length, byte_other, load_other, load_store}
use Rattle.entries.specs.declared.Answer.{Answer}
use Rattle.runner.specs.Format.{wide}
use Rattle.entries.specs.Answers.{answer_bytes, stored_wide, answer_laid, laid_all}
use Rattle.entries.proofs.Laying.{wide_length}
use Rattle.script.specs.Fold.{answer_at, fitted}

-- ---- eight bytes

module _ (l : List ℕ) (o v : ℕ) where
  -- what lies before
  load_before : (p k : ℕ) → p + k ≤ o → loaded (stored_wide l o v) p k ≡ loaded l p k
  unfolding stored_wide
  load_before p k h =
      let h' : p + k ≤ o + 4 = omega arith in
      load_other (stored_at l o 4 (v % 2 ^ 32)) (o + 4) 4 (v / 2 ^ 32) p k (inl h') ∙ load_other l o 4 (v % 2 ^ 32) p k
      (inl h)

  wide_before : (p : ℕ) → p + 8 ≤ o → wide (stored_wide l o v) p ≡ wide l p
  unfolding wide
  wide_before p h =
      let h₁ : p + 4 ≤ o = omega arith in
      let h₂ : p + 4 + 4 ≤ o = omega arith in
      rw (load_before p 4 h₁, load_before (p + 4) 4 h₂)

  wide_back : o + 8 ≤ length l → wide (stored_wide l o v) o ≡ v % 2 ^ 64
  unfolding wide stored_wide
  wide_back h =
      let k : List ℕ = stored_at l o 4 (v % 2 ^ 32) in
      let a : o + 4 ≤ length l = omega arith in
      let b : o + 4 + 4 ≤ length k = rw (store_length l o 4 (v % 2 ^ 32)) (omega arith) in
      let s : o + 4 ≤ o + 4 = omega arith in
      let n : 4 ≤ 4 = omega arith in
      let low : loaded (stored_at k (o + 4) 4 (v / 2 ^ 32)) o 4 ≡ v % 2 ^ 32 % 2 ^ 32 =
      load_other k (o + 4) 4 (v / 2 ^ 32) o 4 (inl s) ∙ load_store l o 4 (v % 2 ^ 32) n a in
      let high : loaded (stored_at k (o + 4) 4 (v / 2 ^ 32)) (o + 4) 4 ≡ v / 2 ^ 32 % 2 ^ 32 = load_store k (o + 4) 4
      (v / 2 ^ 32) n b in
      rw (low, high) (omega arith)

  wide_byte : (p : ℕ) → o + 8 ≤ p → get_or (stored_wide l o v) p 0 ≡ get_or l p 0
  unfolding stored_wide
  wide_byte p h =
      let a : o + 4 + 4 ≤ p = omega arith in
      let b : o + 4 ≤ p = omega arith in
      byte_other (stored_at l o 4 (v % 2 ^ 32)) (o + 4) 4 (v / 2 ^ 32) p (inr a) ∙ byte_other l o 4 (v % 2 ^ 32) p
      (inr b)

-- ---- one answer

module _ (l : List ℕ) (at : ℕ) (x : Answer) where
  abbrev l₀ : List ℕ
  l₀ = stored_at l at 1 x.refusal

  abbrev l₁ : List ℕ
  l₁ = stored_wide l₀ (at + 1) x.a

  abbrev l₂ : List ℕ
  l₂ = stored_wide l₁ (at + 9) x.b

  pub laid_length : length (answer_laid l at x) ≡ length l
  unfolding answer_laid
  laid_length = wide_length l₂ (at + 17) x.c ∙ wide_length l₁ (at + 9) x.b ∙ wide_length l₀ (at + 1) x.a ∙
      store_length l at 1 x.refusal

  pub laid_before : (p k : ℕ) → p + k ≤ at → loaded (answer_laid l at x) p k ≡ loaded l p k
  unfolding answer_laid
  laid_before p k h =
      let a : p + k ≤ at + 17 = omega arith in
      let b : p + k ≤ at + 9 = omega arith in
      let c : p + k ≤ at + 1 = omega arith in
      load_before l₂ (at + 17) x.c p k a ∙ load_before l₁ (at + 9) x.b p k b ∙ load_before l₀ (at + 1) x.a p
      k c ∙ load_other l at 1 x.refusal p k (inl h)

  pub laid_behind : (p : ℕ) → at + answer_bytes ≤ p → get_or (answer_laid l at x) p 0 ≡ get_or l p 0
  unfolding answer_laid
  laid_behind p h =
      let a : at + 17 + 8 ≤ p = omega arith in
      let b : at + 9 + 8 ≤ p = omega arith in
      let c : at + 1 + 8 ≤ p = omega arith in
      let d : at + 1 ≤ p = omega arith in
      wide_byte l₂ (at + 17) x.c p a ∙ wide_byte l₁ (at + 9) x.b p b ∙ wide_byte l₀ (at + 1) x.a p c ∙
      byte_other l at 1 x.refusal p (inr d)

  pub laid_back : at + answer_bytes ≤ length l → answer_at (answer_laid l at x) at ≡ fitted x
  unfolding answer_laid answer_at
  laid_back h = rw (first, second, third, fourth)
    where
      room₀ : at + 1 ≤ length l
      room₀ = omega arith

      size₀ : length l₀ ≡ length l
      size₀ = store_length l at 1 x.refusal

      size₁ : length l₁ ≡ length l
      size₁ = wide_length l₀ (at + 1) x.a ∙ size₀

      size₂ : length l₂ ≡ length l
      size₂ = wide_length l₁ (at + 9) x.b ∙ size₁

      room₁ : at + 1 + 8 ≤ length l₀
      room₁ = rw size₀ (omega arith)

      room₂ : at + 9 + 8 ≤ length l₁
      room₂ = rw size₁ (omega arith)

      room₃ : at + 17 + 8 ≤ length l₂
      room₃ = rw size₂ (omega arith)

      one : 1 ≤ 4
      one = omega arith

      near : at + 1 ≤ at + 1
      near = omega arith

      far : at + 1 ≤ at + 9
      far = omega arith

      farther : at + 1 ≤ at + 17
      farther = omega arith

      next₁ : at + 1 + 8 ≤ at + 9
      next₁ = omega arith

      next₂ : at + 1 + 8 ≤ at + 17
      next₂ = omega arith

      next₃ : at + 9 + 8 ≤ at + 17
      next₃ = omega arith

      first : loaded (stored_wide l₂ (at + 17) x.c) at 1 ≡ x.refusal % 256
      first =
          load_before l₂ (at + 17) x.c at 1 farther ∙ load_before l₁ (at + 9) x.b at 1 far ∙ load_before l₀
          (at + 1) x.a at 1 near
          ∙ load_store l at 1 x.refusal one room₀

      second : wide (stored_wide l₂ (at + 17) x.c) (at + 1) ≡ x.a % 2 ^ 64
      second = wide_before l₂ (at + 17) x.c (at + 1) next₂ ∙ wide_before l₁ (at + 9) x.b (at + 1) next₁ ∙
          wide_back l₀ (at + 1) x.a room₁

      third : wide (stored_wide l₂ (at + 17) x.c) (at + 9) ≡ x.b % 2 ^ 64
      third = wide_before l₂ (at + 17) x.c (at + 9) next₃ ∙ wide_back l₁ (at + 9) x.b room₂

      fourth : wide (stored_wide l₂ (at + 17) x.c) (at + 17) ≡ x.c % 2 ^ 64
      fourth = wide_back l₂ (at + 17) x.c room₃

-- ---- answers one behind the other

pub all_length : (l : List ℕ) (at : ℕ) (xs : List Answer) → length (laid_all l at xs) ≡ length l
unfolding laid_all
all_length l at [] = refl
all_length l at (x ∷ xs) = all_length (answer_laid l at x) (at + answer_bytes) xs ∙ laid_length l at x

pub all_before : (l : List ℕ) (at : ℕ) (xs : List Answer) (p k : ℕ) → p + k ≤ at
    → loaded (laid_all l at xs) p k ≡ loaded l p k
unfolding laid_all
all_before l at [] p k h = refl
all_before l at (x ∷ xs) p k h =
    let h' : p + k ≤ at + answer_bytes = omega arith in all_before (answer_laid l at x) (at + answer_bytes) xs p k h' ∙
    laid_before l at x p k h

-- the bytes behind the last
pub all_behind : (l : List ℕ) (at : ℕ) (xs : List Answer) (p : ℕ) → at + answer_bytes * length xs ≤ p
    → get_or (laid_all l at xs) p 0 ≡ get_or l p 0
unfolding laid_all
all_behind l at [] p h = refl
all_behind l at (x ∷ xs) p h =
    let h₁ : at + answer_bytes + answer_bytes * length xs ≤ p = omega arith in
    let h₂ : at + answer_bytes ≤ p = omega arith in
    all_behind (answer_laid l at x) (at + answer_bytes) xs p h₁ ∙ laid_behind l at x p h₂

-- an answer is read off its bytes
answers_same : (k l : List ℕ) (at : ℕ) → ((p n : ℕ) → p + n ≤ at + answer_bytes → loaded k p n ≡ loaded l p n)
    → answer_at k at ≡ answer_at l at
unfolding answer_at wide
answers_same k l at same =
    let a : at + 1 ≤ at + answer_bytes = omega arith in
    let b : at + 1 + 4 ≤ at + answer_bytes = omega arith in
    let c : at + 1 + 4 + 4 ≤ at + answer_bytes = omega arith in
    let d : at + 9 + 4 ≤ at + answer_bytes = omega arith in
    let e : at + 9 + 4 + 4 ≤ at + answer_bytes = omega arith in
    let f : at + 17 + 4 ≤ at + answer_bytes = omega arith in
    let g : at + 17 + 4 + 4 ≤ at + answer_bytes = omega arith in
    rw (
      same at 1 a,
      same (at + 1) 4 b,
      same (at + 1 + 4) 4 c,
      same (at + 9) 4 d,
      same (at + 9 + 4) 4 e,
      same
          (at + 17) 4 f,
      same (at + 17 + 4) 4 g,
    )

-- the first stands as it was laid
pub all_first : (l : List ℕ) (at : ℕ) (x : Answer) (xs : List Answer) → at + answer_bytes ≤ length l
    → answer_at (laid_all (answer_laid l at x) (at + answer_bytes) xs) at ≡ fitted x
all_first l at x xs h = answers_same (laid_all (answer_laid l at x) (at + answer_bytes) xs) (answer_laid l at x) at
    (all_before (answer_laid l at x) (at + answer_bytes) xs) ∙ laid_back l at x h
