-- A script's loops and ends: what the code computes on the way, and the definitions.
use Prim.Native.Nat.{ℕ, zero, suc, ◌+◌, ◌-◌, ◌*◌, ◌%◌, ◌^◌, ◌≤◌, ◌<◌}
use mathlib.Core.Path.{◌≡◌, refl, sym, ap, ◌∙◌}
use mathlib.Core.Bool.{Bool, true, false, not, ◌&&◌}
use mathlib.Core.List.{List}
use mathlib.Core.Logic.{◌≢◌}
use native.Mathlib.Nat.{add-sub_cancel_left}
use native.Mathlib.Omega.{arith}
use lib.Dec.{eqb, ltb, leb}
use lib.Ieee.{Float}
use lib.ListN.{length, get_or, set, replicate}
use lib.Seq.{get_or-set_same, get_or-set_other}
use borrow.Author.Tests.{eq-eqb, ne_eqb, lt-ltb, le-ltb, lt-leb, le-leb, ltb-true, ltb-false, eqb-true}
use borrow.Author.Tests.{eqb-false, not-false}
use Rattle.map.specs.Numbers.{BAD_MEMORY, BAD_SCRIPT, OUT_TOO_SHORT, PRESS}
use Rattle.memory.specs.Bytes.{loaded, stored_at}
use Rattle.memory.proofs.Cases.{load_none, load_front}
use Rattle.whole.proofs.Choice.{both, by_same, by_less}
use Rattle.state.specs.Packed.{Answered}
use Rattle.system.specs.declared.System.{System}
use Rattle.system.specs.System.{Machine, machine, fresh_system}
use Rattle.entries.specs.declared.Entry.{Entry}
use Rattle.entries.specs.Answers.{answer_bytes}
use Rattle.entries.specs.Turn.{kind_in, last_kind, RunState, run_state, after_entry}
use Rattle.runner.specs.Format.{press_bytes, step_bytes, most_presses, most_steps, presses_in, steps_in, entries_in}
use Rattle.runner.specs.Format.{kinds_from}
use Rattle.runner.specs.Inner.{Kinds}
use Rattle.runner.specs.Format.{behind_presses, bad_with, bad_script, press_from, step_from, entry_at, entries_from}
use Rattle.runner.specs.Script.{after_entries, bad_memory, out_too_short, Continued, continued, stop_of}
use Rattle.runner.specs.Script.{continued_of, script_from, Ended, ended, end_of, run_of, script_of}

-- ---- the kinds of n steps, by a table of the known ones

-- the table so far: the kinds below k
abbrev pub Below : List Bool → ℕ → Type 0
Below t k = (j : ℕ) → get_or t j false ≡ (ltb 0 j && ltb j k)

all_false : (n j : ℕ) → get_or (replicate n false) j false ≡ false
all_false zero j = refl
all_false (suc n) zero = refl
all_false (suc n) (suc j) = all_false n j

pub below_first : Below (replicate 256 false) 1
below_first j = all_false 256 j ∙ none j
  where
    none : (j : ℕ) → false ≡ (ltb 0 j && ltb j 1)
    none zero = refl
    none (suc j) = let h : 1 ≤ suc j = omega arith in rw (le-ltb (suc j) 1 h, lt-ltb 0 (suc j) (omega arith))

pub below_more : (t : List Bool) (k : ℕ) → 0 < k → k < length t → Below t k → Below (set t k true) (k + 1)
below_more t k h l b j =
    by_same j k
    (λ e. rw e (get_or-set_same t k true false l ∙ rw (lt-ltb 0 k h, lt-ltb k (k + 1) (omega arith))))
    (λ n. get_or-set_other t k j true false n ∙ b j ∙ ap (λ (x : Bool). ltb 0 j && x) (beside n))
  where
    beside : j ≢ k → ltb j k ≡ ltb j (k + 1)
    beside n =
        by_less j k
        (λ l. lt-ltb j k l ∙ sym (lt-ltb j (k + 1) (omega arith)))
        (λ m. let o : k + 1 ≤ j = omega arith in le-ltb j k m ∙ sym (le-ltb j (k + 1) o))

pub below_known : (t : List Bool) (k : ℕ) → k ≡ last_kind + 1 → Below t k → Kinds t
below_known t k e b j l = b j ∙ ap (λ (x : Bool). ltb 0 j && x) (rw e (within j))
  where
    within : (j : ℕ) → ltb j (last_kind + 1) ≡ leb j last_kind
    within j =
        by_less j (last_kind + 1)
        (λ l. let m : j ≤ last_kind = omega arith in lt-ltb j (last_kind + 1) l ∙ sym (le-leb j last_kind m))
        (λ m. let l : last_kind < j = omega arith in le-ltb j (last_kind + 1) m ∙ sym (lt-leb j last_kind l))

-- the kind of one step
pub kind_is : (t : List Bool) (s : List ℕ) (at : ℕ) {r : Bool} → at + 1 ≤ length s → get_or s at 0 < 256
    → r ≡ get_or t (get_or s at 0) false → Kinds t
    → r ≡ kind_in (loaded s at 1)
kind_is t s at h l e known =
    let z : get_or s at 0 ≡ loaded s at 1 = load_front s at 0 0 (get_or s at 0) h (load_none s (at + 1) 0) (omega arith)
    in
    e ∙ known (get_or s at 0) l ∙ ap (λ (k : ℕ). kind_in k) z

-- so many are good so far, and the rest is still to be looked at
module _ (s : List ℕ) where
  -- one more
  pub one_kind : (at q n : ℕ) {a : Bool} → q ≡ at + step_bytes → a ≡ kind_in (loaded s at 1)
      → kinds_from s at (suc n) ≡ (a && kinds_from s q n)
  unfolding kinds_from
  one_kind at q n e f = rw (e, f)

  -- four more
  pub four_kinds : (at q r t u n : ℕ) {a b c d : Bool} → q ≡ at + step_bytes → r ≡ q + step_bytes
      → t ≡ r + step_bytes → u ≡ t + step_bytes
      → a ≡ kind_in (loaded s at 1) → b ≡ kind_in (loaded s q 1) → c ≡ kind_in (loaded s r 1) → d ≡ kind_in
      (loaded s t 1)
      → kinds_from s at (suc (suc (suc (suc n)))) ≡ ((a && (b && (c && d))) && kinds_from s u n)
  four_kinds at q r t u n {a} {b} {c} {d} f g h i j k l m =
      let x : kinds_from s t (suc n) ≡ (d && kinds_from s u n) = one_kind t u n i m in
      let y : kinds_from s r (suc (suc n)) ≡ (c && kinds_from s t (suc n)) = one_kind r t (suc n) h l in
      let z : kinds_from s q (suc (suc (suc n))) ≡ (b && kinds_from s r (suc (suc n))) = one_kind q r (suc (suc n)) g k
      in
      one_kind at q (suc (suc (suc n))) f j ∙ rw (z, y, x) (sym (four a b c d (kinds_from s u n)))
    where
      four : (a b c d r : Bool) → ((a && (b && (c && d))) && r) ≡ (a && (b && (c && (d && r))))
      four false b c d r = refl
      four true false c d r = refl
      four true true false d r = refl
      four true true true d r = refl

  pub more_kinds : (good now r : Bool) {v w : Bool} → (good && v) ≡ w → v ≡ (now && r) → ((good && now) && r) ≡ w
  more_kinds good now r e f = assoc good now r ∙ ap (λ (x : Bool). good && x) (sym f) ∙ e
    where
      assoc : (a b c : Bool) → ((a && b) && c) ≡ (a && (b && c))
      assoc true b c = refl
      assoc false b c = refl

  -- none has been looked at
  pub all_kinds : (at' n' : ℕ) {at n : ℕ} → at ≡ at' → n ≡ n' → (true && kinds_from s at n) ≡ kinds_from s at' n'
  all_kinds at' n' a b = rw (a, b)

  pub no_kinds : (good : Bool) (at n : ℕ) {w : Bool} → n ≤ 0 → (good && kinds_from s at n) ≡ w → good ≡ w
  unfolding kinds_from
  no_kinds good at n h e = let z : n ≡ 0 = omega arith in sym (right good) ∙ (rw z at e)
    where
      right : (a : Bool) → (a && true) ≡ a
      right true = refl
      right false = refl

-- one of them
kinds_at : (s : List ℕ) (at n j : ℕ) → kinds_from s at n ≡ true → j < n
    → kind_in (loaded s (at + step_bytes * j) 1) ≡ true
unfolding kinds_from
kinds_at s at zero j k h = absurd (omega arith)
kinds_at s at (suc n) zero k h =
    let z : at + step_bytes * 0 ≡ at = omega arith in rw z (both (kind_in (loaded s at 1)) (kinds_from s (at +
    step_bytes) n) k).0
kinds_at s at (suc n) (suc j) k h =
    let z : at + step_bytes * suc j ≡ at + step_bytes + step_bytes * j = omega arith in
    let h' : j < n = omega arith in
    rw z (kinds_at s (at + step_bytes) n j (both (kind_in (loaded s at 1)) (kinds_from s (at + step_bytes) n) k).1 h')

-- so no step's kind is another
pub kind_known : (s : List ℕ) (p k i : ℕ) {e : Entry} → kinds_from s (behind_presses p) k ≡ true → i < k
    → e ≡ step_from s (behind_presses p + step_bytes * i)
    → kind_in e.kind ≡ true
unfolding step_from
kind_known s p k i known h e = rw e (kinds_at s (behind_presses p) k i known h)

-- ---- 10 BadScript

module _ (s : List ℕ) (p : ℕ) (e : p ≡ presses_in s) where
  bad_with_lem : (n : ℕ) → n ≡ steps_in s p → bad_with s p n ≡ bad_script s
  unfolding bad_script
  bad_with_lem n h = rw (h, e)

  pub bad_presses : most_presses < p → true ≡ bad_script s
  bad_presses h = rw (lt-ltb _ _ h) refl ∙ bad_with_lem (steps_in s p) refl

  module _ (l : p ≤ most_presses) (n : ℕ) (h : n ≡ steps_in s p) where
    pub bad_steps : most_steps < n → true ≡ bad_script s
    bad_steps g = rw (le-ltb _ _ l, lt-ltb _ _ g) refl ∙ bad_with_lem n h

    pub bad_length : n ≤ most_steps → (length s ≡ behind_presses p + step_bytes * n → ⊥) → true ≡ bad_script s
    bad_length g d = rw (le-ltb _ _ l, le-ltb _ _ g, ne_eqb _ _ d) refl ∙ bad_with_lem n h

    pub bad_kinds : n ≤ most_steps → length s ≡ behind_presses p + step_bytes * n → (k : Bool)
        → k ≡ kinds_from s (behind_presses p) n → not k ≡ bad_script s
    bad_kinds g d k i = rw (le-ltb _ _ l, le-ltb _ _ g, eq-eqb _ _ d, ← i) refl ∙ bad_with_lem n h

-- of a script that is none of these the counts are not above the greatest
module _ (s : List ℕ) (b : bad_script s ≡ false) where
  presses_few : presses_in s ≤ most_presses
  presses_few = by (ltb most_presses (presses_in s)) refl
    where
      by : (t : Bool) → ltb most_presses (presses_in s) ≡ t → presses_in s ≤ most_presses
      by true t = let z : true ≡ false = bad_presses s (presses_in s) refl (ltb-true _ _ t) ∙ b in let y : ◌≡◌ {A = ℕ}
          0 1 = cc in omega arith
      by false t = ltb-false _ _ t

  steps_few : steps_in s (presses_in s) ≤ most_steps
  steps_few = by (ltb most_steps (steps_in s (presses_in s))) refl
    where
      by : (t : Bool) → ltb most_steps (steps_in s (presses_in s)) ≡ t → steps_in s (presses_in s) ≤ most_steps
      by true t = let z : true ≡ false = bad_steps s (presses_in s) refl presses_few _ refl (ltb-true _ _ t) ∙ b in
          let y : ◌≡◌ {A = ℕ} 0 1 = cc in omega arith
      by false t = ltb-false _ _ t

  -- and the length is what they say
  steps_fit : length s ≡ behind_presses (presses_in s) + step_bytes * steps_in s (presses_in s)
  steps_fit = by (eqb (length s) (behind_presses (presses_in s) + step_bytes * steps_in s (presses_in s))) refl
    where
      by : (t : Bool) → eqb (length s) (behind_presses (presses_in s) + step_bytes * steps_in s (presses_in s)) ≡ t
          → length s ≡ behind_presses (presses_in s) + step_bytes * steps_in s (presses_in s)
      by true t = eqb-true _ _ t
      by false t = let z : true ≡ false = bad_length s (presses_in s) refl presses_few _ refl steps_few (eqb-false _ _
          t) ∙ b in let y : ◌≡◌ {A = ℕ} 0 1 = cc in absurd (omega arith)

  kinds_good : kinds_from s (behind_presses (presses_in s)) (steps_in s (presses_in s)) ≡ true
  kinds_good = not-false _ (bad_kinds s (presses_in s) refl presses_few _ refl steps_few steps_fit _ refl ∙ b)

module _ (s : List ℕ) {b : Bool} (e : b ≡ bad_script s) (h : b ≡ false) {p : ℕ} (i : p ≡ presses_in s) where
  pub few_presses : p ≤ most_presses
  few_presses = rw i (presses_few s (sym e ∙ h))

  pub few : {k : ℕ} → k ≡ steps_in s p → (p ≤ most_presses) × (k ≤ most_steps)
  few j = (few_presses, rw (j, i) (steps_few s (sym e ∙ h)))

  pub long : {k : ℕ} → k ≡ steps_in s p → length s ≡ behind_presses p + step_bytes * k
  long j = rw (j, i) (steps_fit s (sym e ∙ h))

  pub known : {k : ℕ} → k ≡ steps_in s p → kinds_from s (behind_presses p) k ≡ true
  known j = rw (j, i) (kinds_good s (sym e ∙ h))

-- so the count fits four bytes
pub few_entries : (s : List ℕ) → bad_script s ≡ false → entries_in s % 2 ^ 32 ≡ entries_in s
few_entries s b =
    let p : presses_in s ≤ most_presses = presses_few s b in
    let n : steps_in s (presses_in s) ≤ most_steps = steps_few s b in
    omega arith

-- ---- the loops over entries

module _ (s : List ℕ) (p : ℕ) where
  -- entry i is a press, or a step
  pub entry_press : (i from : ℕ) {e : Entry} → i < p → from ≡ 4 + press_bytes * i → e ≡ press_from s from
      → e ≡ entry_at s p i
  unfolding entry_at
  entry_press i from h f e = rw (lt-ltb _ _ h, ← f) e

  pub press_kind : (from : ℕ) {e : Entry} → e ≡ press_from s from → e.kind ≡ PRESS
  unfolding press_from
  press_kind from e = ap (λ (z : Entry). z.kind) e

  pub entry_step : (i from : ℕ) {e : Entry} → p ≤ i → from ≡ behind_presses p + step_bytes * (i - p)
      → e ≡ step_from s from → e ≡ entry_at s p i
  unfolding entry_at
  entry_step i from h f e = rw (le-ltb _ _ h, ← f) e

  -- what is left to run from here is what there was to run before entry i
  pub run_next : (n n' i i' at : ℕ) (t : RunState) {e : Entry} {t' : RunState} → n ≡ suc n' → i' ≡ i + 1
      → e ≡ entry_at s p i → t' ≡ after_entry t at e
      → after_entries t' (at + answer_bytes) (entries_from s p n' i') ≡ after_entries t at (entries_from s p n i)
  unfolding after_entries entries_from
  run_next n n' i i' at t z y e f = rw (z, y, f, e)

  -- entry i was a press
  pub press_next : (n i at : ℕ) (t : RunState) {e : Entry} {t' : RunState} {at' : ℕ} → i < p → p ≤ n
      → e ≡ press_from s (4 + press_bytes * i) → t' ≡ after_entry t at e → at' ≡ at + answer_bytes
      → after_entries t' at' (entries_from s p (n - (i + 1)) (i + 1)) ≡ after_entries t at (entries_from s p (n - i) i)
  press_next n i at t h m e g behind =
      let z : n - i ≡ suc (n - (i + 1)) = omega arith in
      rw behind (run_next _ _ i _ at t z refl (entry_press i _ h refl e) g)

  -- the i-th step of k
  pub step_next : (k i at : ℕ) (t : RunState) {e : Entry} {t' : RunState} {at' : ℕ} → i < k
      → e ≡ step_from s (behind_presses p + step_bytes * i) → t' ≡ after_entry t at e → at' ≡ at + answer_bytes
      → after_entries t' at' (entries_from s p (k - (i + 1)) (p + (i + 1)))
      ≡ after_entries t at (entries_from s p (k - i) (p + i))
  step_next k i at t h e g behind =
      let o : behind_presses p + step_bytes * i ≡ behind_presses p + step_bytes * (p + i - p) = omega arith in
      let z : k - i ≡ suc (k - (i + 1)) = omega arith in
      let y : p + (i + 1) ≡ p + i + 1 = omega arith in
      rw behind (run_next _ _ (p + i) _ at t z y (entry_step (p + i) _ (omega arith) o e) g)

  pub same_run : (t : RunState) {at at' n n' i i' : ℕ} → at ≡ at' → n ≡ n' → i ≡ i'
      → after_entries t at (entries_from s p n i) ≡ after_entries t at' (entries_from s p n' i')
  same_run t a b c = rw (a, b, c)

  pub none_left : (t : RunState) (at n i : ℕ) {u : RunState} → n ≡ 0 → after_entries t at (entries_from s p n i) ≡ u
      → t ≡ u
  unfolding after_entries entries_from
  none_left t at n i e f = rw e at f

  -- the presses, and then the steps
  pub both_run : (k : ℕ) (u : RunState) {t v : RunState} → v ≡ after_entries u (4 + answer_bytes * p)
      (entries_from s p k p)
      → after_entries u (4 + answer_bytes * p) (entries_from s p (p + k - p) p) ≡ t → v ≡ t
  both_run k u e f = e ∙ (rw (add-sub_cancel_left p k) at f)

-- ---- the ends of a script

-- of the bank's words where a script is refused
pub unchanged : (n : ℕ) (l : List ℕ) (f : List Float) → Answered n l f l f
unchanged n l f = record { packed = λ k. k; still = λ _. (refl, refl) }

module _ (m : Machine) (script out : List ℕ) where
  pub continue_bad : {b : Bool} → b ≡ bad_script script → b ≡ true
      → continued BAD_SCRIPT m out ≡ continued_of m script out
  unfolding continued_of
  continue_bad e h = rw (← e, h)

  module _ {b : Bool} (e : b ≡ bad_script script) (h : b ≡ false) {p k : ℕ} (i : p ≡ presses_in script)
      (j : k ≡ steps_in script p) where
    pub continue_short : length out < 4 + answer_bytes * (p + k)
        → continued OUT_TOO_SHORT m out ≡ continued_of m script out
    unfolding continued_of out_too_short
    continue_short d = rw (← e, h, ← i, ← j, lt-ltb _ _ d)

    pub continue_done : 4 + answer_bytes * (p + k) ≤ length out → {out' : List ℕ} {t : RunState}
        → out' ≡ stored_at out 0 4 (p + k)
        → t ≡ after_entries (run_state m out') 4 (entries_from script p (p + k) 0)
        → stop_of t ≡ continued_of m script out
    unfolding continued_of out_too_short
    continue_done d y x = rw (← e, h, ← i, ← j, le-ltb _ _ d, ← y) (ap stop_of x)

module _ (ram sram gpio fb script out : List ℕ) where
  -- from whatever turns out to be the fresh state
  pub run_fresh : {s : System} {x : Continued} → s ≡ fresh_system
      → x ≡ continued_of (machine s ram sram gpio fb) script out → end_of x ≡ run_of ram sram gpio fb script out
  unfolding run_of
  run_fresh h e =
      ap end_of e ∙ ap (λ (z : System). end_of (continued_of (machine z ram sram gpio fb) script out)) h

  pub script_bad : {b : Bool} → b ≡ bad_memory ram sram gpio fb → b ≡ true
      → ended BAD_MEMORY ram sram gpio fb out ≡ script_of ram sram gpio fb script out
  unfolding script_of script_from
  script_bad e h = rw (← e, h)

  pub script_run : {b : Bool} {x : Ended} → b ≡ bad_memory ram sram gpio fb → b ≡ false
      → x ≡ run_of ram sram gpio fb script out
      → x ≡ script_of ram sram gpio fb script out
  unfolding script_of script_from run_of
  script_run e h x = rw (← e, h) x

-- a script from where a unit stands
module _ (m : Machine) (script out : List ℕ) {b : Bool} (e : b ≡ bad_memory m.ram m.sram m.gpio m.fb) where
  pub script_refused : b ≡ true → continued BAD_MEMORY m out ≡ script_from m script out
  unfolding script_from
  script_refused h = rw (← e, h)

  pub script_goes : {x : Continued} → b ≡ false → x ≡ continued_of m script out → x ≡ script_from m script out
  unfolding script_from
  script_goes h i = rw (← e, h) i
