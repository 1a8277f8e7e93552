-- A script as operations and answers, one behind the other: what the theorems are stated with.
use Rattle.std.specs.Prelude.{ℕ, ◌+◌, ◌%◌, ◌^◌, ◌≡◌, false, List, [], ◌∷◌}
use Rattle.memory.specs.Bytes.{loaded, stored_at}
use Rattle.system.specs.System.{Machine, machine, fresh_system}
use Rattle.system.specs.Steps.{Op}
use Rattle.entries.specs.declared.Entry.{Entry}
use Rattle.entries.specs.declared.Answer.{Answer}
use Rattle.runner.specs.Format.{wide, entries_in, entries_of, bad_script}
use Rattle.entries.specs.Answers.{reply}
use Rattle.entries.specs.Turn.{op_of, turn_of}
use Rattle.runner.specs.Script.{bad_memory, out_too_short}

-- a script that is run from where a machine stands: neither 10 nor 11
pub record Runs (bytes out : List ℕ) : Type 0 where
  pub script : bad_script bytes ≡ false
  pub room : out_too_short bytes out ≡ false

-- no refusal as a whole
pub record Accepted (ram sram gpio fb bytes out : List ℕ) : Type 0 where
  pub memory : bad_memory ram sram gpio fb ≡ false
  pub script : bad_script bytes ≡ false
  pub room : out_too_short bytes out ≡ false

-- the machine that a script starts from
abbrev pub start : List ℕ → List ℕ → List ℕ → List ℕ → Machine
start ram sram gpio fb = machine fresh_system ram sram gpio fb

-- the operations of entries
unfoldable pub ops_of : List Entry → List Op
ops_of [] = []
ops_of (e ∷ es) = op_of e ∷ ops_of es

-- the answers, each the bus's in the machine as it is then
unfoldable pub replies_of : Machine → List Entry → List Answer
replies_of m [] = []
replies_of m (e ∷ es) = (turn_of m e).answer ∷ replies_of (turn_of m e).machine es

-- the answers of a script, and the output with their count in front
abbrev pub answered : List ℕ → List ℕ → List ℕ → List ℕ → List ℕ → List Answer
answered ram sram gpio fb script = replies_of (start ram sram gpio fb) (entries_of script)

abbrev pub with_count : List ℕ → List ℕ → List ℕ
with_count script out = stored_at out 0 4 (entries_in script)

-- the answer that stands at a place of the output
unfoldable pub answer_at : List ℕ → ℕ → Answer
answer_at l at = reply (loaded l at 1) (wide l (at + 1)) (wide l (at + 9)) (wide l (at + 17))

-- what fits into its bytes
abbrev pub fitted : Answer → Answer
fitted x = reply (x.refusal % 256) (x.a % 2 ^ 64) (x.b % 2 ^ 64) (x.c % 2 ^ 64)
