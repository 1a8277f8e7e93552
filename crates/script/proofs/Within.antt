-- A script's machine is within the limits all along, so each of its refusals is the one that the paper's table and
-- order give.
use mathlib.Core.Path.{◌≡◌, refl, ◌∙◌}
use mathlib.Core.Bool.{Bool, true, false}
use mathlib.Core.List.{List}
use Prim.Native.Nat.{ℕ}
use Rattle.system.specs.Steps.{Outcome, step, after}
use Rattle.system.specs.Limits.{WithinLimits}
use Rattle.system.specs.Refusals.{refusal_of}
use Rattle.system.proofs.Kept.{fresh_limits_over}
use Rattle.system.proofs.Limits.{after_limits}
use Rattle.system.proofs.Refusals.{refused_in_order}
use Rattle.entries.specs.declared.Entry.{Entry}
use Rattle.entries.specs.Answers.{in_bits, reply_of}
use Rattle.entries.specs.Turn.{op_of, turn_of}
use Rattle.script.specs.Fold.{start, ops_of}

-- whatever memories are lent
pub start_limits : (ram sram gpio fb : List ℕ) → WithinLimits (start ram sram gpio fb)
start_limits = fresh_limits_over

pub script_limits : (ram sram gpio fb : List ℕ) (es : List Entry)
    → WithinLimits (after (start ram sram gpio fb) (ops_of es))
script_limits ram sram gpio fb es = after_limits (start ram sram gpio fb) (ops_of es) (start_limits ram sram gpio fb)

reply_refusal : (b : Bool) (o : Outcome) → (reply_of b o).refusal ≡ o.refusal
unfolding reply_of
reply_refusal true o = refl
reply_refusal false o = refl

-- the number that an entry is answered, behind those before it
pub entry_in_order : (ram sram gpio fb : List ℕ) (before : List Entry) (e : Entry)
    → (turn_of (after (start ram sram gpio fb) (ops_of before)) e).answer.refusal ≡ refusal_of
    (after (start ram sram gpio fb) (ops_of before)) (op_of e)
unfolding turn_of
entry_in_order ram sram gpio fb before e =
    let now = after (start ram sram gpio fb) (ops_of before) in
    reply_refusal (in_bits e.kind) (step now (op_of e))
    ∙ refused_in_order now (op_of e) (script_limits ram sram gpio fb before)
