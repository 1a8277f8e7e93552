-- What one entry of a script does: the bus's operation of its kind, and its answer.
use Rattle.std.specs.Prelude.{ℕ, ◌%◌, ◌^◌, Bool, not, cond, ◌&&◌, List, eqb, ltb, leb}
use Rattle.std.specs.Float.{binary64}
use Rattle.std.specs.Float.Ieee.{of_bits}
use Rattle.map.specs.Numbers.{PRESS, READ, WRITE, ADVANCE, NEXT, PENDING, TURBO, KEY, HOLD, SOUND, COUNTERS, WIPE}
use Rattle.map.specs.Numbers.{BAD_SCRIPT}
use Rattle.system.specs.System.{Machine}
use Rattle.system.specs.Steps as steps
use Rattle.system.specs.Steps.{Op, step}
use Rattle.entries.specs.declared.Entry.{Entry}
use Rattle.entries.specs.declared.Answer.{Answer}
use Rattle.entries.specs.Answers.{reply, in_bits, reply_of, answer_laid, laid_within}

-- the kinds of steps begin at 1; 0 is a press
abbrev pub last_kind : ℕ
last_kind = WIPE

abbrev pub kind_in : ℕ → Bool
kind_in k = ltb 0 k && leb k last_kind

-- ---- the operation of an entry, by its kind: 01, Scripts, Kinds. The only other one is COLOUR

abbrev pub kind_op : ℕ → ℕ → ℕ → ℕ → Op
kind_op kind size address value =
    cond (eqb kind PRESS) (steps.press address (of_bits binary64 value))
    (cond (eqb kind READ) (steps.read address size)
    (cond (eqb kind WRITE) (steps.write address size (value % 2 ^ 32))
    (cond (eqb kind ADVANCE) (steps.advance (of_bits binary64 value))
    (cond (eqb kind NEXT) steps.next_event
    (cond (eqb kind PENDING) steps.pending
    (cond (eqb kind TURBO) (steps.turbo (of_bits binary64 value))
    (cond (eqb kind KEY) (steps.live address (not (eqb value 0)))
    (cond (eqb kind HOLD) (steps.hold address (of_bits binary64 value))
    (cond (eqb kind SOUND) steps.take_event
    (cond (eqb kind COUNTERS) steps.counters
    (cond (eqb kind WIPE) steps.wipe (steps.pixel address))))))))))))

unfoldable pub op_of : Entry → Op
op_of e = kind_op e.kind e.size e.address e.value

-- ---- one entry

pub record Turn : Type 0 where
  pub machine : Machine
  pub answer : Answer

abbrev pub turn : Machine → Answer → Turn
turn m x = record { machine = m; answer = x }

unfoldable pub turn_of : Machine → Entry → Turn
turn_of m e = turn (step m (op_of e)).machine (reply_of (in_bits e.kind) (step m (op_of e)))

-- ---- one entry in a run, whose answer goes to a place in the output

-- where a run stands
pub record RunState : Type 0 where
  pub machine : Machine
  pub out : List ℕ

abbrev pub run_state : Machine → List ℕ → RunState
run_state m l = record { machine = m; out = l }

-- an entry that is part of a script, in an output that has room for its answer
abbrev pub after_entry : RunState → ℕ → Entry → RunState
after_entry t at e = run_state (turn_of t.machine e).machine (answer_laid t.out at (turn_of t.machine e).answer)

-- any entry, in any output: a step acts, and its answer is laid where there is room; what is no step does nothing,
-- and is answered BadScript. A press goes another way, since it reaches less.
abbrev pub after_step : RunState → ℕ → Entry → RunState
after_step t at e =
    cond (kind_in e.kind)
    (run_state (turn_of t.machine e).machine (laid_within t.out at (turn_of t.machine e).answer))
    (run_state t.machine (laid_within t.out at (reply BAD_SCRIPT 0 0 0)))
