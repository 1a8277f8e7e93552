use Rattle.std.proofs.Common.{List, ℕ, ◌+◌, ◌-◌, ◌*◌, ◌≤◌, ◌≡◌, Float}
use Rattle.entries.specs.Turn.{run_state}
use Rattle.runner.specs.Script.{after_entries}
use Rattle.runner.specs.Format.{press_bytes, entries_from}
use Rattle.entries.specs.Answers.{answer_bytes}
use Rattle.state.specs.Bank.{parts_in}
use Rattle.state.specs.Packed.{StaysPacked}
use Rattle.system.specs.Bank.{machine_of}
use Rattle.runner.proofs.loops.run_presses.Given as goal

abbrev pub invariant-loop-i : goal.invariant-loop-i
invariant-loop-i l =
    (l.from ≡ 4 + press_bytes * l._i) × (l.to ≡ 4 + answer_bytes * l._i)
    × ((slots addresses values rtc page : List ℕ) (onsets frequencies duties : List Float) (ram sram gpio fb : List ℕ)
    (n : ℕ) → l.p ≤ n
    → after_entries (run_state (machine_of slots addresses values rtc page onsets frequencies duties l.starts l.codes
    (parts_in l.cells l.floats) ram sram gpio fb) l.out) l.to
    (entries_from l.script l.p (n - l._i) l._i)
    ≡ after_entries (run_state (machine_of slots addresses values rtc page onsets frequencies duties
    l.initial.starts l.initial.codes (parts_in l.initial.cells l.floats) ram sram gpio fb) l.initial.out) 4
    (entries_from l.script l.p n 0))
    × StaysPacked l.initial.cells l.floats l.cells l.floats
