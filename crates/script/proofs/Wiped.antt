-- A step of kind 12 makes all that follows independent of all that came before, in whatever scripts, memories and
-- output.
use Prim.Native.Nat.{ℕ, ◌+◌, ◌*◌}
use mathlib.Core.Path.{◌≡◌, refl, sym, ap, ◌∙◌}
use mathlib.Core.Bool.{false, not}
use mathlib.Core.List.{List, [], ◌∷◌, ◌++◌, append_assoc}
use lib.Dec.{eqb}
use lib.ListN.{length}
use borrow.Author.Tests.{not-false, eqb-true}
use Rattle.map.specs.Numbers.{WIPE, RAM_SIZE, SRAM_SIZE, GPIO_SIZE, FRAMEBUFFER_SIZE}
use Rattle.whole.proofs.Choice.{neither}
use Rattle.system.specs.System.{Machine}
use Rattle.system.specs.Steps.{Op, wipe, step, after}
use Rattle.system.specs.Lengths.{SameLengths}
use Rattle.system.proofs.Wiped.{wipe_after}
use Rattle.entries.specs.declared.Entry.{Entry}
use Rattle.runner.specs.Format.{entries_of}
use Rattle.entries.specs.Answers.{in_bits, reply_of, answer_bytes}
use Rattle.entries.specs.Turn.{op_of}
use Rattle.runner.specs.Script.{Ended, bad_memory, script_of}
use Rattle.script.specs.Fold.{Accepted, start, ops_of, answer_at, fitted}
use Rattle.script.proofs.Fold.{script_folds, each_answer}

-- ---- the lengths of accepted memories

has_length : (l : List ℕ) (n : ℕ) → not (eqb (length l) n) ≡ false → length l ≡ n
has_length l n h = eqb-true (length l) n (not-false (eqb (length l) n) h)

pub record Unit (ram sram gpio fb : List ℕ) : Type 0 where
  pub ram_size : length ram ≡ RAM_SIZE
  pub sram_size : length sram ≡ SRAM_SIZE
  pub gpio_size : length gpio ≡ GPIO_SIZE
  pub fb_size : length fb ≡ FRAMEBUFFER_SIZE

pub good_memory : (ram sram gpio fb : List ℕ) → bad_memory ram sram gpio fb ≡ false → Unit ram sram gpio fb
unfolding bad_memory
good_memory ram sram gpio fb h =
    let a = neither _ _ h in
    let b = neither _ _ a.1 in
    let c = neither _ _ b.1 in
    record {
      ram_size = has_length ram _ a.0;
      sram_size = has_length sram _ b.0;
      gpio_size = has_length gpio _ c.0;
      fb_size = has_length fb _ c.1;
    }

-- ---- operations

pub ops_both : (es fs : List Entry) → ops_of (es ++ fs) ≡ ops_of es ++ ops_of fs
unfolding ops_of
ops_both [] fs = refl
ops_both (e ∷ es) fs = ap (λ (os : List Op). op_of e ∷ os) (ops_both es fs)

ops_wipe : (before later : List Entry) (e : Entry) → e.kind ≡ WIPE → ops_of (before ++ (e ∷ later)) ≡ ops_of before ++
    (wipe ∷ ops_of later)
unfolding ops_of op_of
ops_wipe before later e k = ops_both before (e ∷ later) ∙ ap (λ (o : Op). ops_of before ++ (o ∷ ops_of later)) (rw k)

-- ---- two scripts that go on alike from a wipe on

module _ (ram sram gpio fb script out ram' sram' gpio' fb' script' out' : List ℕ)
    (ok : Accepted ram sram gpio fb script out) (ok' : Accepted ram' sram' gpio' fb' script' out')
    (before others later : List Entry) (e e' : Entry)
    (kind : e.kind ≡ WIPE) (kind' : e'.kind ≡ WIPE) (split : entries_of script ≡ before ++ (e ∷ later))
    (split' : entries_of script' ≡ others ++ (e' ∷ later)) where
  lengths : SameLengths (start ram sram gpio fb) (start ram' sram' gpio' fb')
  lengths =
      let a = good_memory ram sram gpio fb ok.memory in
      let b = good_memory ram' sram' gpio' fb' ok'.memory in
      record {
        ram = a.ram_size ∙ sym b.ram_size;
        sram = a.sram_size ∙ sym b.sram_size;
        gpio = a.gpio_size ∙ sym b.gpio_size;
        fb = a.fb_size ∙ sym b.fb_size;
      }

  -- the machine after the wipe and whatever entries follow
  machine_same : (es : List Entry) → after (start ram sram gpio fb) (ops_of (before ++ (e ∷ es)))
      ≡ after (start ram' sram' gpio' fb') (ops_of (others ++ (e' ∷ es)))
  machine_same es =
      rw (ops_wipe before es e kind, ops_wipe others es e' kind')
      (wipe_after (start ram sram gpio fb) (start ram' sram' gpio' fb') (ops_of before) (ops_of others)
      (ops_of es) lengths)

  ends : after (start ram sram gpio fb) (ops_of (entries_of script))
      ≡ after (start ram' sram' gpio' fb') (ops_of (entries_of script'))
  ends = rw (split, split') (machine_same later)

  -- what the memories hold at the end
  pub wipe_memories : ((script_of ram sram gpio fb script out).ram ≡ (script_of ram' sram' gpio' fb' script' out').ram)
      × ((script_of ram sram gpio fb script out).sram ≡ (script_of ram' sram' gpio' fb' script' out').sram)
      × ((script_of ram sram gpio fb script out).gpio ≡ (script_of ram' sram' gpio' fb' script' out').gpio)
      × ((script_of ram sram gpio fb script out).fb ≡ (script_of ram' sram' gpio' fb' script' out').fb)
  wipe_memories =
      let a = script_folds ram sram gpio fb script out ok in
      let b = script_folds ram' sram' gpio' fb' script' out' ok' in (
        ap (λ (x : Ended). x.ram) a ∙ ap (λ (x : Machine). x.ram) ends ∙ sym (ap (λ (x : Ended). x.ram) b),
        ap (λ (x : Ended). x.sram) a ∙ ap (λ (x : Machine). x.sram) ends ∙ sym (ap (λ (x : Ended). x.sram) b),
        ap (λ (x : Ended). x.gpio) a ∙ ap (λ (x : Machine). x.gpio) ends ∙ sym (ap (λ (x : Ended). x.gpio) b),
        ap (λ (x : Ended). x.fb) a ∙ ap (λ (x : Machine). x.fb) ends ∙ sym (ap (λ (x : Ended). x.fb) b),
      )

  -- and every answer behind the wipe
  pub wipe_answers : (es fs : List Entry) (x : Entry) → later ≡ es ++ (x ∷ fs)
      → answer_at (script_of ram sram gpio fb script out).out (4 + answer_bytes * length (before ++ (e ∷ es)))
      ≡ answer_at (script_of ram' sram' gpio' fb' script' out').out (4 + answer_bytes * length (others ++ (e' ∷ es)))
  wipe_answers es fs x goes =
      each_answer ram sram gpio fb script out ok (before ++ (e ∷ es)) fs x (split ∙ on before e)
      ∙ ap (λ (n : Machine). fitted (reply_of (in_bits x.kind) (step n (op_of x)))) (machine_same es)
      ∙ sym (each_answer ram' sram' gpio' fb' script' out' ok' (others ++ (e' ∷ es)) fs x (split' ∙ on others e'))
    where
      on : (bs : List Entry) (b : Entry) → bs ++ (b ∷ later) ≡ (bs ++ (b ∷ es)) ++ (x ∷ fs)
      on bs b = ap (λ (z : List Entry). bs ++ (b ∷ z)) goes ∙ sym (append_assoc bs (b ∷ es) (x ∷ fs))
