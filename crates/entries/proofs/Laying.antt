-- Where an answer is stored: in a part of the output it is what it is in the whole.
use Prim.Native.Nat.{ℕ, zero, suc, ◌+◌, ◌-◌, ◌/◌, ◌%◌, ◌^◌, ◌≤◌, ◌<◌}
use mathlib.Core.Path.{◌≡◌, refl, sym, ap, ◌∙◌}
use mathlib.Core.Bool.{true}
use mathlib.Core.List.{List, [], ◌∷◌, ◌++◌}
use native.Mathlib.Nat.{zero-add, suc-add, add-sub_cancel_left}
use native.Mathlib.Omega.{arith}
use lib.ListN.{length, set, take, drop, take-append-drop, length-append, length-drop, length-set}
use lib.Seq.{sets, set-append_left, length-take-le}
use borrow.Author.Tests.{le-leb, lt-leb}
use borrow.Rule.Slice.PartMut.{put_mid, put_same}
use Rattle.memory.specs.Bytes.{bytes_of, stored_at}
use Rattle.memory.proofs.Stored.{store_length}
use Rattle.system.specs.System.{Machine}
use Rattle.entries.specs.declared.Answer.{Answer}
use Rattle.entries.specs.declared.Entry.{Entry}
use Rattle.entries.specs.Answers.{answer_bytes, stored_wide, answer_laid, laid_within}
use Rattle.entries.specs.Turn.{kind_in, turn_of, RunState, run_state, after_entry, after_step}

pub wide_length : (l : List ℕ) (o v : ℕ) → length (stored_wide l o v) ≡ length l
unfolding stored_wide
wide_length l o v = store_length (stored_at l o 4 (v % 2 ^ 32)) (o + 4) 4 (v / 2 ^ 32) ∙ store_length l o 4 (v % 2 ^ 32)

-- j bytes from o on, as the code lends them
abbrev pub part : List ℕ → ℕ → ℕ → List ℕ
part s o j = take (o + j - o) (drop o s)

pub part_long : (s : List ℕ) (o j : ℕ) → o + j ≤ length s → length (part s o j) ≡ j
part_long s o j h =
    length-take-le (o + j - o) (drop o s) (rw length-drop (omega arith)) ∙ add-sub_cancel_left o j

-- ---- stores, between what lies before and what lies behind

set_behind : (a q : List ℕ) (k v : ℕ) → set (a ++ q) (length a + k) v ≡ a ++ set q k v
set_behind [] q k v = rw zero-add
set_behind (x ∷ a) q k v = rw (suc-add, set_behind a q k v)

sets_inside : (vs a p b : List ℕ) (k q : ℕ) → q ≡ length a + k → k + length vs ≤ length p
    → sets (a ++ (p ++ b)) q vs ≡ a ++ (sets p k vs ++ b)
sets_inside [] a p b k q e h = refl
sets_inside (v ∷ vs) a p b k q e h =
    let one : set (a ++ (p ++ b)) q v ≡ a ++ (set p k v ++ b) = rw (
      e,
      set_behind a (p ++ b) k v,
      set-append_left p b
          k v (omega arith),
    ) in
    let l : suc k + length vs ≤ length (set p k v) = rw length-set (omega arith) in
    rw one (sets_inside vs a (set p k v) b (suc k) (suc q) (omega arith) l)

bytes_length : (n v : ℕ) → length (bytes_of n v) ≡ n
unfolding bytes_of
bytes_length zero v = refl
bytes_length (suc n) v = ap suc (bytes_length n (v / 256))

module _ (a p b : List ℕ) where
  store_inside : (k n v q : ℕ) → q ≡ length a + k → k + n ≤ length p
      → stored_at (a ++ (p ++ b)) q n v ≡ a ++ (stored_at p k n v ++ b)
  unfolding stored_at
  store_inside k n v q e h =
      let l : q + n ≤ length (a ++ (p ++ b)) = rw (length-append a (p ++ b), length-append p b) (omega arith) in
      let m : k + length (bytes_of n v) ≤ length p = rw (bytes_length n v) h in
      rw (le-leb _ _ h, le-leb _ _ l) (sets_inside (bytes_of n v) a p b k q e m)

wide_inside : (a p b : List ℕ) (k v q : ℕ) → q ≡ length a + k → k + 8 ≤ length p
    → stored_wide (a ++ (p ++ b)) q v ≡ a ++ (stored_wide p k v ++ b)
unfolding stored_wide
wide_inside a p b k v q e h =
    let l : k + 4 + 4 ≤ length (stored_at p k 4 (v % 2 ^ 32)) = rw store_length (omega arith) in
    rw (store_inside a p b k 4 (v % 2 ^ 32) q e (omega arith)) (store_inside a (stored_at p k 4 (v % 2 ^ 32)) b (k + 4)
    4 (v / 2 ^ 32) (q + 4) (omega arith) l)

laid_inside : (a p b : List ℕ) (x : Answer) (k q : ℕ) → q ≡ length a + k → k + answer_bytes ≤ length p
    → answer_laid (a ++ (p ++ b)) q x ≡ a ++ (answer_laid p k x ++ b)
unfolding answer_laid
laid_inside a p b x k q e h =
    let p₀ : List ℕ = stored_at p k 1 x.refusal in
    let p₁ : List ℕ = stored_wide p₀ (k + 1) x.a in
    let p₂ : List ℕ = stored_wide p₁ (k + 9) x.b in
    let e₀ : length p₀ ≡ length p = store_length p k 1 x.refusal in
    let e₁ : length p₁ ≡ length p = wide_length p₀ (k + 1) x.a ∙ e₀ in
    let e₂ : length p₂ ≡ length p = wide_length p₁ (k + 9) x.b ∙ e₁ in
    let s₀ : stored_at (a ++ (p ++ b)) q 1 x.refusal ≡ a ++ (p₀ ++ b) = store_inside a p b k 1 x.refusal q
    (omega arith) (omega arith) in
    let s₁ : stored_wide (a ++ (p₀ ++ b)) (q + 1) x.a ≡ a ++ (p₁ ++ b) = wide_inside a p₀ b (k + 1) x.a (q + 1)
    (omega arith) (omega arith) in
    let s₂ : stored_wide (a ++ (p₁ ++ b)) (q + 9) x.b ≡ a ++ (p₂ ++ b) = wide_inside a p₁ b (k + 9) x.b (q + 9)
    (omega arith) (omega arith) in
    rw (s₀, s₁, s₂) (wide_inside a p₂ b (k + 17) x.c (q + 17) (omega arith) (omega arith))

-- an answer that was laid into its own bytes of the output, and these have come back
pub laid_part : (l ys : List ℕ) (at : ℕ) (x : Answer) → at + answer_bytes ≤ length l
    → ys ≡ answer_laid (part l at answer_bytes) 0 x → put_mid at (at + answer_bytes - at) l ys ≡ answer_laid l at x
laid_part l ys at x h e =
    let b : length (take at l) ≡ at = length-take-le at l (omega arith) in
    let p : answer_bytes ≤ length (part l at answer_bytes) = rw (part_long l at answer_bytes h) (omega arith) in
    let z : at ≡ length (take at l) + 0 = omega (arith, b) in
    rw e (sym (laid_inside (take at l) (part l at answer_bytes) (drop (at + answer_bytes - at) (drop at l)) x 0 at z p)
    ∙ ap (λ (k : List ℕ). answer_laid k at x) (put_same at (at + answer_bytes - at) l))

-- ---- and in the front of the output, up to the answer's end

pub front_long : (l : List ℕ) (end : ℕ) → end ≤ length l → end ≤ length (take end l)
front_long l end h = rw (length-take-le end l h) (omega arith)

pub laid_front : (l ys : List ℕ) (at : ℕ) (x : Answer) → at + answer_bytes ≤ length l
    → ys ≡ answer_laid (take (at + answer_bytes) l) at x → ys ++ drop (at + answer_bytes) l ≡ answer_laid l at x
laid_front l ys at x h e =
    let z : at ≡ 0 + at = omega arith in
    rw e (sym (laid_inside [] (take (at + answer_bytes) l) (drop (at + answer_bytes) l) x at at z (front_long l _ h))
    ∙ ap (λ (k : List ℕ). answer_laid k at x) (take-append-drop (at + answer_bytes) l))

pub entry_front : (m m₁ : Machine) (l ys : List ℕ) (at : ℕ) (e : Entry) → at + answer_bytes ≤ length l
    → run_state m₁ ys ≡ after_entry (run_state m (take (at + answer_bytes) l)) at e
    → run_state m₁ (ys ++ drop (at + answer_bytes) l) ≡ after_entry (run_state m l) at e
entry_front m m₁ l ys at e h i =
    let a : m₁ ≡ (turn_of m e).machine = ap (λ (z : RunState). z.machine) i in
    let b : ys ≡ answer_laid (take (at + answer_bytes) l) at (turn_of m e).answer = ap (λ (z : RunState). z.out) i in
    ap (λ (n : Machine). run_state n (ys ++ drop (at + answer_bytes) l)) a
    ∙ ap (run_state (turn_of m e).machine) (laid_front l ys at (turn_of m e).answer h b)

-- ---- with room for it or not

module _ (l : List ℕ) (at : ℕ) (x : Answer) where
  pub laid_room : at + answer_bytes ≤ length l → laid_within l at x ≡ answer_laid l at x
  unfolding laid_within
  laid_room h = rw (le-leb _ _ h)

  pub no_room : length l < at + answer_bytes → l ≡ laid_within l at x
  unfolding laid_within
  no_room h = rw (lt-leb _ _ h)

-- a step of a script, whose answer there is room for
pub step_entry : (m : Machine) (l : List ℕ) (at : ℕ) (e : Entry) → kind_in e.kind ≡ true → at + answer_bytes ≤ length l
    → after_step (run_state m l) at e ≡ after_entry (run_state m l) at e
step_entry m l at e k h = rw (k, laid_room l at (turn_of m e).answer h)
