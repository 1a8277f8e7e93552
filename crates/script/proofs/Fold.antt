-- The runner is the fold of the bus's definitions, and its answers are the bus's.
use Prim.Native.Nat.{ℕ, zero, suc, ◌+◌, ◌*◌, ◌%◌, ◌^◌, ◌≤◌}
use mathlib.Core.Path.{◌≡◌, refl, ap, ◌∙◌}
use mathlib.Core.Logic.{◌≢◌, inr}
use mathlib.Core.Bool.{Bool, true, false, cond}
use mathlib.Core.List.{List, [], ◌∷◌, ◌++◌}
use native.Mathlib.Omega.{arith}
use lib.ListN.{length, get_or}
use borrow.Author.Tests.{ltb-false}
use Rattle.map.specs.Numbers.{DONE, BAD_MEMORY, BAD_SCRIPT, OUT_TOO_SHORT}
use Rattle.whole.specs.Forms.{bits_of}
use Rattle.memory.specs.Bytes.{loaded}
use Rattle.memory.proofs.Stored.{store_length, byte_other, load_store}
use Rattle.system.specs.System.{Machine, machine}
use Rattle.system.specs.Steps.{Outcome, step, after, plainly}
use Rattle.system.proofs.Unchanged.{refused_unchanged}
use Rattle.entries.specs.declared.Entry.{Entry}
use Rattle.runner.specs.Format.{presses_in, entries_in, bad_script, entries_from, entries_of}
use Rattle.entries.specs.Answers.{reply, in_bits, reply_of, answer_bytes, answer_laid, laid_all}
use Rattle.entries.specs.Turn.{turn, op_of, turn_of, RunState, run_state}
use Rattle.runner.specs.Script.{after_entries, bad_memory, out_too_short, Continued, continued, start_of, stop_of}
use Rattle.runner.specs.Script.{continued_of, script_from, Ended, ended, end_of, script_of}
use Rattle.script.specs.Fold.{Runs, Accepted, start, ops_of, replies_of, answered, with_count, answer_at, fitted}
use Rattle.entries.proofs.Turns.{no_bits}
use Rattle.runner.proofs.Runs.{few_entries}
use Rattle.script.proofs.Laid.{laid_length, all_length, all_before, all_behind, all_first}

-- ---- entries in turn

turn_step : (m : Machine) (e : Entry) → (turn_of m e).machine ≡ (step m (op_of e)).machine
unfolding turn_of
turn_step m e = refl

-- THE RUNNER IS THE FOLD: the machine after the operations, and their answers one behind the other
pub runner_folds : (t : RunState) (at : ℕ) (es : List Entry)
    → after_entries t at es ≡ run_state (after t.machine (ops_of es)) (laid_all t.out at (replies_of t.machine es))
unfolding after_entries after ops_of laid_all replies_of
runner_folds t at [] = refl
runner_folds t at (e ∷ es) =
    runner_folds (run_state (turn_of t.machine e).machine (answer_laid t.out at (turn_of t.machine e).answer))
    (at + answer_bytes) es
    ∙ ap (λ (m : Machine). run_state (after m (ops_of es))
    (laid_all (answer_laid t.out at (turn_of t.machine e).answer)
    (at + answer_bytes) (replies_of (turn_of t.machine e).machine es))) (turn_step t.machine e)

answers_count : (m : Machine) (es : List Entry) → length (replies_of m es) ≡ length es
unfolding replies_of
answers_count m [] = refl
answers_count m (e ∷ es) = ap suc (answers_count (turn_of m e).machine es)

entries_count : (s : List ℕ) (p n i : ℕ) → length (entries_from s p n i) ≡ n
unfolding entries_from
entries_count s p zero i = refl
entries_count s p (suc n) i = ap suc (entries_count s p n (i + 1))

-- the answer of one entry, behind those of others
one_answer : (m : Machine) (before : List Entry) (e : Entry) (later : List Entry) (l : List ℕ) (at : ℕ)
    → at + answer_bytes * length (before ++ (e ∷ later)) ≤ length l
    → answer_at (laid_all l at (replies_of m (before ++ (e ∷ later)))) (at + answer_bytes * length before) ≡ fitted
    (turn_of (after m (ops_of before)) e).answer
unfolding replies_of laid_all after ops_of
one_answer m [] e later l at h =
    let z : at + answer_bytes * 0 ≡ at = omega arith in
    let room : at + answer_bytes ≤ length l = omega arith in
    rw z (all_first l at (turn_of m e).answer (replies_of (turn_of m e).machine later) room)
one_answer m (b ∷ before) e later l at h =
    let z : at + answer_bytes * suc (length before) ≡ at + answer_bytes + answer_bytes * length before = omega arith in
    let room : at + answer_bytes + answer_bytes * length (before ++ (e ∷ later)) ≤ length
    (answer_laid l at (turn_of m b).answer) =
    rw (laid_length l at (turn_of m b).answer) (omega arith) in
    rw z (one_answer (turn_of m b).machine before e later (answer_laid l at (turn_of m b).answer)
    (at + answer_bytes) room ∙
    ap (λ (n : Machine). fitted (turn_of (after n (ops_of before)) e).answer) (turn_step m b))

-- ---- a script from where a machine stands

module _ (m : Machine) (script out : List ℕ) where
  -- by whether it is 10, 11
  abbrev continuing : Bool → Bool → Continued
  continuing b c = cond b (continued BAD_SCRIPT m out) (cond c (continued OUT_TOO_SHORT m out)
      (stop_of (after_entries (start_of m script out) 4 (entries_of script))))

  -- 10, 11 in this order, or done
  pub continued_in_order : (continued_of m script out).refusal
      ≡ cond (bad_script script) BAD_SCRIPT (cond (out_too_short script out) OUT_TOO_SHORT DONE)
  unfolding continued_of
  continued_in_order = by (bad_script script) (out_too_short script out)
    where
      by : (b c : Bool) → (continuing b c).refusal ≡ cond b BAD_SCRIPT (cond c OUT_TOO_SHORT DONE)
      by true c = refl
      by false true = refl
      by false false = refl

  -- A SCRIPT THAT IS REFUSED CHANGES NOTHING: machine and output as they were
  pub continued_unchanged : (continued_of m script out).refusal ≢ DONE
      → continued_of m script out ≡ continued (continued_of m script out).refusal m out
  unfolding continued_of
  continued_unchanged h = by (bad_script script) (out_too_short script out) h
    where
      by : (b c : Bool) → (continuing b c).refusal ≢ DONE → continuing b c ≡ continued (continuing b c).refusal m out
      by true c h = refl
      by false true h = refl
      by false false h = absurd (h refl)

module _ (m : Machine) (script out : List ℕ) (ok : Runs script out) where
  -- WHAT A SCRIPT LEAVES: the machine after its operations; the count, and their answers behind it
  pub continued_folds : continued_of m script out
      ≡ stop_of (run_state (after m (ops_of (entries_of script)))
      (laid_all (with_count script out) 4 (replies_of m (entries_of script))))
  unfolding continued_of
  continued_folds = rw (ok.script, ok.room) (ap stop_of (runner_folds (start_of m script out) 4 (entries_of script)))

  out_is : (continued_of m script out).out ≡ laid_all (with_count script out) 4 (replies_of m (entries_of script))
  out_is = ap (λ (x : Continued). x.out) continued_folds

  room : 4 + answer_bytes * entries_in script ≤ length out
  unfolding out_too_short
  room = ltb-false (length out) (4 + answer_bytes * entries_in script) ok.room

  -- the output begins with the count p + s
  pub count_leads : loaded (continued_of m script out).out 0 4 ≡ entries_in script
  count_leads = rw out_is (all_before (with_count script out) 4 (replies_of m (entries_of script)) 0 4 four
      ∙ load_store out 0 4 (entries_in script) four enough ∙ small)
    where
      four : 4 ≤ 4
      four = omega arith

      enough : 4 ≤ length out
      enough = let h : 4 + answer_bytes * entries_in script ≤ length out = room in omega arith

      small : entries_in script % 2 ^ 32 ≡ entries_in script
      small = few_entries script ok.script

  -- EACH ANSWER IS THE BUS'S: that of the entry's operation in the machine after those before it
  pub continued_answer : (before later : List Entry) (e : Entry) → entries_of script ≡ before ++ (e ∷ later)
      → answer_at (continued_of m script out).out (4 + answer_bytes * length before) ≡ fitted
      (reply_of (in_bits e.kind) (step (after m (ops_of before)) (op_of e)))
  unfolding turn_of
  continued_answer before later e split =
      let full : 4 + answer_bytes * length (before ++ (e ∷ later)) ≤ length (with_count script out) =
      rw (
        ← split,
        entries_count script (presses_in script) (entries_in script) 0,
        store_length out 0 4 (entries_in script),
      ) room in
      rw (out_is, split) (one_answer m before e later (with_count script out) 4 full)

  -- later bytes stay, and so does the length
  pub behind_stay : (p : ℕ) → 4 + answer_bytes * entries_in script ≤ p
      → get_or (continued_of m script out).out p 0 ≡ get_or out p 0
  behind_stay p h =
      let n : length (replies_of m (entries_of script)) ≡ entries_in script =
      answers_count m (entries_of script) ∙ entries_count script (presses_in script) (entries_in script) 0 in
      let h₁ : 4 + answer_bytes * length (replies_of m (entries_of script)) ≤ p = rw n h in
      let h₂ : 0 + 4 ≤ p = omega arith in
      rw out_is (all_behind (with_count script out) 4 (replies_of m (entries_of script)) p h₁
      ∙ byte_other out 0 4 (entries_in script) p (inr h₂))

  pub out_length : length (continued_of m script out).out ≡ length out
  out_length = rw out_is (all_length (with_count script out) 4 (replies_of m (entries_of script))
      ∙ store_length out 0 4 (entries_in script))

-- ---- the whole, from the fresh state

module _ (ram sram gpio fb script out : List ℕ) where
  -- tg18_fresh AND tg18_continue_script IN ONE
  pub script_continues : bad_memory ram sram gpio fb ≡ false
      → script_of ram sram gpio fb script out ≡ end_of (continued_of (start ram sram gpio fb) script out)
  unfolding script_of script_from
  script_continues h = rw h

  -- by whether it is 7
  abbrev whole : Bool → Ended
  whole a = end_of (cond a (continued BAD_MEMORY (start ram sram gpio fb) out)
      (continued_of (start ram sram gpio fb) script out))

  -- 7, 10, 11 IN THIS ORDER, or done
  pub refusals_in_order : (script_of ram sram gpio fb script out).refusal ≡ cond (bad_memory ram sram gpio fb)
      BAD_MEMORY
      (cond (bad_script script) BAD_SCRIPT (cond (out_too_short script out) OUT_TOO_SHORT DONE))
  unfolding script_of script_from
  refusals_in_order = by (bad_memory ram sram gpio fb)
    where
      by : (a : Bool) → (whole a).refusal ≡ cond a BAD_MEMORY (cond (bad_script script) BAD_SCRIPT
          (cond (out_too_short script out) OUT_TOO_SHORT DONE))
      by true = refl
      by false = continued_in_order (start ram sram gpio fb) script out

  -- A SCRIPT THAT IS REFUSED CHANGES NOTHING: memories and output as they were
  pub script_unchanged : (script_of ram sram gpio fb script out).refusal ≢ DONE
      → script_of ram sram gpio fb script out
      ≡ ended (script_of ram sram gpio fb script out).refusal ram sram gpio fb out
  unfolding script_of script_from
  script_unchanged h = by (bad_memory ram sram gpio fb) h
    where
      by : (a : Bool) → (whole a).refusal ≢ DONE → whole a ≡ ended (whole a).refusal ram sram gpio fb out
      by true h = refl
      by false h = ap end_of (continued_unchanged (start ram sram gpio fb) script out h)

module _ (ram sram gpio fb script out : List ℕ) (ok : Accepted ram sram gpio fb script out) where
  abbrev runs : Runs script out
  runs = record { script = ok.script; room = ok.room }

  -- WHAT A SCRIPT LEAVES: the machine after its operations; the count, and their answers behind it
  pub script_folds : script_of ram sram gpio fb script out
      ≡ end_of (stop_of (run_state (after (start ram sram gpio fb) (ops_of (entries_of script)))
      (laid_all (with_count script out) 4 (answered ram sram gpio fb script))))
  script_folds = script_continues ram sram gpio fb script out ok.memory
      ∙ ap end_of (continued_folds (start ram sram gpio fb) script out runs)

  same_out : (script_of ram sram gpio fb script out).out ≡ (continued_of (start ram sram gpio fb) script out).out
  same_out = ap (λ (x : Ended). x.out) (script_continues ram sram gpio fb script out ok.memory)

  -- the output begins with the count p + s
  pub count_first : loaded (script_of ram sram gpio fb script out).out 0 4 ≡ entries_in script
  count_first = rw same_out (count_leads (start ram sram gpio fb) script out runs)

  -- EACH ANSWER IS THE BUS'S: that of the entry's operation in the machine after those before it
  pub each_answer : (before later : List Entry) (e : Entry) → entries_of script ≡ before ++ (e ∷ later)
      → answer_at (script_of ram sram gpio fb script out).out (4 + answer_bytes * length before) ≡ fitted
      (reply_of (in_bits e.kind) (step (after (start ram sram gpio fb) (ops_of before)) (op_of e)))
  each_answer before later e split =
      rw same_out (continued_answer (start ram sram gpio fb) script out runs before later e split)

  -- later bytes stay, and so does the length
  pub later_stay : (p : ℕ) → 4 + answer_bytes * entries_in script ≤ p
      → get_or (script_of ram sram gpio fb script out).out p 0 ≡ get_or out p 0
  later_stay p h = rw same_out (behind_stay (start ram sram gpio fb) script out runs p h)

  pub length_stays : length (script_of ram sram gpio fb script out).out ≡ length out
  length_stays = rw same_out (out_length (start ram sram gpio fb) script out runs)

-- ---- a refused entry

plain_reply : (m : Machine) (b : Bool) (o : Outcome) → (o.refusal ≢ DONE → o ≡ plainly m o.refusal)
    → (reply_of b o).refusal ≢ DONE
    → turn o.machine (reply_of b o) ≡ turn m (reply (reply_of b o).refusal 0 0 0)
unfolding reply_of
plain_reply m true o plain h =
    ap (λ (z : Outcome). turn z.machine (reply z.refusal (bits_of z.x) (bits_of z.y) (bits_of z.z)))
    (plain h) ∙ rw no_bits
plain_reply m false o plain h = ap (λ (z : Outcome). turn z.machine (reply z.refusal z.a z.b z.c))
    (plain h)

-- A REFUSED PRESS OR STEP CHANGES NOTHING: the same machine, zeros beside the number
pub entry_unchanged : (m : Machine) (e : Entry) → (turn_of m e).answer.refusal ≢ DONE
    → turn_of m e ≡ turn m (reply (turn_of m e).answer.refusal 0 0 0)
unfolding turn_of
entry_unchanged m e h = plain_reply m (in_bits e.kind) (step m (op_of e)) (refused_unchanged m (op_of e)) h
