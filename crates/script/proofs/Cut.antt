-- A SCRIPT CUT IN TWO GIVES THE ANSWERS AND MEMORIES OF THE WHOLE: the first part from where a machine stands, the
-- second from where the first left it. Presses come first in a script, so the second part has some only where the first
-- has no steps.
use Prim.Native.Nat.{ℕ, ◌+◌, ◌*◌}
use mathlib.Core.Path.{◌≡◌, refl, sym, ap, ◌∙◌}
use mathlib.Core.List.{List, ◌∷◌, ◌++◌, append_assoc}
use lib.ListN.{length, replicate}
use Rattle.map.specs.Numbers.{PENDING}
use Rattle.memory.specs.Bytes.{le, loaded}
use Rattle.system.specs.System.{Machine}
use Rattle.system.specs.Steps.{Op, step, after}
use Rattle.system.proofs.Wiped.{after_both}
use Rattle.entries.specs.declared.Entry.{Entry}
use Rattle.entries.specs.Answers.{in_bits, reply_of, answer_bytes}
use Rattle.entries.specs.Turn.{op_of}
use Rattle.runner.specs.Format.{kinds_from, bad_script, wide, step_from, entry_at, entries_from, entries_of}
use Rattle.runner.specs.Script.{out_too_short, Continued, continued_of}
use Rattle.script.specs.Fold.{Runs, ops_of, answer_at, fitted}
use Rattle.script.proofs.Fold.{continued_folds, continued_answer}
use Rattle.script.proofs.Wiped.{ops_both}

-- the machine after a script
machine_is : (m : Machine) (script out : List ℕ) → Runs script out
    → (continued_of m script out).machine ≡ after m (ops_of (entries_of script))
machine_is m script out ok = ap (λ (x : Continued). x.machine) (continued_folds m script out ok)

module _ (m : Machine) (whole first second out out₁ out₂ : List ℕ) (ok : Runs whole out) (ok₁ : Runs first out₁)
    (ok₂ : Runs second out₂) (cut : entries_of whole ≡ entries_of first ++ entries_of second) where
  abbrev pub half : Continued
  half = continued_of m first out₁

  abbrev pub rest : Continued
  rest = continued_of half.machine second out₂

  -- the machine, so the memories too
  pub cut_machine : (continued_of m whole out).machine ≡ rest.machine
  cut_machine =
      machine_is m whole out ok
      ∙ ap (λ (es : List Entry). after m (ops_of es)) cut
      ∙ ap (λ (os : List Op). after m os) (ops_both (entries_of first) (entries_of second))
      ∙ after_both m (ops_of (entries_of first)) (ops_of (entries_of second))
      ∙ ap (λ (n : Machine). after n (ops_of (entries_of second))) (sym (machine_is m first out₁ ok₁))
      ∙ sym (machine_is half.machine second out₂ ok₂)

  -- each answer of the first part
  pub cut_first : (before later : List Entry) (e : Entry) → entries_of first ≡ before ++ (e ∷ later)
      → answer_at (continued_of m whole out).out (4 + answer_bytes * length before)
      ≡ answer_at half.out (4 + answer_bytes * length before)
  cut_first before later e split =
      continued_answer m whole out ok before (later ++ entries_of second) e
      (cut ∙ ap (λ (es : List Entry). es ++ entries_of second) split
      ∙ append_assoc before (e ∷ later) (entries_of second))
      ∙ sym (continued_answer m first out₁ ok₁ before later e split)

  -- and of the second
  pub cut_second : (before later : List Entry) (e : Entry) → entries_of second ≡ before ++ (e ∷ later)
      → answer_at (continued_of m whole out).out (4 + answer_bytes * length (entries_of first ++ before))
      ≡ answer_at rest.out (4 + answer_bytes * length before)
  cut_second before later e split =
      continued_answer m whole out ok (entries_of first ++ before) later e
      (cut ∙ ap (λ (es : List Entry). entries_of first ++ es) split
      ∙ sym (append_assoc (entries_of first) before (e ∷ later)))
      ∙ ap (λ (n : Machine). fitted (reply_of (in_bits e.kind) (step n (op_of e)))) same
      ∙ sym (continued_answer half.machine second out₂ ok₂ before later e split)
    where
      same : after m (ops_of (entries_of first ++ before)) ≡ after half.machine (ops_of before)
      same =
          ap (λ (os : List Op). after m os) (ops_both (entries_of first) before)
          ∙ after_both m (ops_of (entries_of first)) (ops_of before)
          ∙ ap (λ (n : Machine). after n (ops_of before)) (sym (machine_is m first out₁ ok₁))

-- ---- such cuts are there: two steps that ask for the interrupt are twice one

abbrev asks : List ℕ
asks = PENDING ∷ replicate 15 0

abbrev counted : ℕ → List ℕ → List ℕ
counted n steps = replicate 4 0 ++ ((n ∷ replicate 3 0) ++ steps)

pub cut_there : entries_of (counted 2 (asks ++ asks)) ≡ entries_of (counted 1 asks) ++ entries_of (counted 1 asks)
unfolding entries_from entry_at step_from wide loaded le
cut_there = refl

-- the whole and its parts are run, each with an output of just the needed length
pub cut_runs : Runs (counted 2 (asks ++ asks)) (replicate (4 + answer_bytes * 2) 0)
    × Runs (counted 1 asks) (replicate (4 + answer_bytes) 0)
unfolding bad_script kinds_from out_too_short loaded le
cut_runs = (record { script = refl; room = refl }, record { script = refl; room = refl })
