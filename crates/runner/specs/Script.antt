-- What a script answers and leaves: the bus's definitions, folded over its presses and steps, from where a machine
-- stands or from the fresh state.
use Rattle.std.specs.Prelude.{ℕ, ◌+◌, ◌*◌, Bool, not, cond, ◌||◌, List, [], ◌∷◌, length, eqb, ltb}
use Rattle.map.specs.Numbers.{RAM_SIZE, SRAM_SIZE, GPIO_SIZE, FRAMEBUFFER_SIZE, DONE, BAD_MEMORY, BAD_SCRIPT}
use Rattle.map.specs.Numbers.{OUT_TOO_SHORT}
use Rattle.memory.specs.Bytes.{stored_at}
use Rattle.system.specs.System.{Machine, machine, fresh_system}
use Rattle.entries.specs.declared.Entry.{Entry}
use Rattle.entries.specs.Answers.{answer_bytes}
use Rattle.entries.specs.Turn.{RunState, run_state, after_entry}
use Rattle.runner.specs.Format.{entries_in, entries_of, bad_script}

-- ---- entries in turn; each answer goes to its place in the output

unfoldable pub after_entries : RunState → ℕ → List Entry → RunState
after_entries t at [] = t
after_entries t at (e ∷ es) = after_entries (after_entry t at e) (at + answer_bytes) es

-- ---- the refusals of a whole script

-- 7 BadMemory
unfoldable pub bad_memory : List ℕ → List ℕ → List ℕ → List ℕ → Bool
bad_memory ram sram gpio fb =
    not (eqb (length ram) RAM_SIZE)
    || (not (eqb (length sram) SRAM_SIZE) || (not (eqb (length gpio) GPIO_SIZE) || not
    (eqb (length fb) FRAMEBUFFER_SIZE)))

-- 11 OutTooShort: no room for the count and p + s answers
unfoldable pub out_too_short : List ℕ → List ℕ → Bool
out_too_short script out = ltb (length out) (4 + answer_bytes * entries_in script)

-- ---- from where a machine stands, over memories of any length

-- 01's number, the machine, and what is in the output
pub record Continued : Type 0 where
  pub refusal : ℕ
  pub machine : Machine
  pub out : List ℕ

abbrev pub continued : ℕ → Machine → List ℕ → Continued
continued n m l = record { refusal = n; machine = m; out = l }

-- the count p + s, and the answers behind it
abbrev pub start_of : Machine → List ℕ → List ℕ → RunState
start_of m script out = run_state m (stored_at out 0 4 (entries_in script))

abbrev pub stop_of : RunState → Continued
stop_of t = continued DONE t.machine t.out

unfoldable pub continued_of : Machine → List ℕ → List ℕ → Continued
continued_of m script out =
    cond (bad_script script) (continued BAD_SCRIPT m out)
    (cond (out_too_short script out) (continued OUT_TOO_SHORT m out)
    (stop_of (after_entries (start_of m script out) 4 (entries_of script))))

-- the same over a unit's memories
unfoldable pub script_from : Machine → List ℕ → List ℕ → Continued
script_from m script out =
    cond (bad_memory m.ram m.sram m.gpio m.fb) (continued BAD_MEMORY m out) (continued_of m script out)

-- ---- from the fresh state: the same again, and of the machine the memories are left

-- 01's number, and what is in the four memories and in the output
pub record Ended : Type 0 where
  pub refusal : ℕ
  pub ram : List ℕ
  pub sram : List ℕ
  pub gpio : List ℕ
  pub fb : List ℕ
  pub out : List ℕ

abbrev pub ended : ℕ → List ℕ → List ℕ → List ℕ → List ℕ → List ℕ → Ended
ended n ram sram gpio fb l = record { refusal = n; ram = ram; sram = sram; gpio = gpio; fb = fb; out = l }

abbrev pub end_of : Continued → Ended
end_of x = ended x.refusal x.machine.ram x.machine.sram x.machine.gpio x.machine.fb x.out

-- over memories of any length
unfoldable pub run_of : List ℕ → List ℕ → List ℕ → List ℕ → List ℕ → List ℕ → Ended
run_of ram sram gpio fb script out = end_of (continued_of (machine fresh_system ram sram gpio fb) script out)

-- over a unit's: a fresh unit, and a script from there
unfoldable pub script_of : List ℕ → List ℕ → List ℕ → List ℕ → List ℕ → List ℕ → Ended
script_of ram sram gpio fb script out = end_of (script_from (machine fresh_system ram sram gpio fb) script out)
