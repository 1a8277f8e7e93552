use Rattle.std.proofs.Common.{◌+◌, ◌-◌, ◌*◌, ◌≡◌}
use Rattle.entries.specs.Turn.{run_state}
use Rattle.runner.specs.Script.{after_entries}
use Rattle.runner.specs.Format.{step_bytes, behind_presses, entries_from}
use Rattle.entries.specs.Answers.{answer_bytes}
use Rattle.state.specs.Bank.{parts_in}
use Rattle.state.specs.Packed.{StaysPacked}
use Rattle.system.specs.Bank.{machine_of}
use Rattle.runner.proofs.loops.run_entries.Given as goal

abbrev pub invariant-loop-i : goal.invariant-loop-i
invariant-loop-i l =
    (l.from ≡ behind_presses l.p + step_bytes * l._i) × (l.to ≡ 4 + answer_bytes * (l.p + l._i))
    × (after_entries (run_state (machine_of l.slots l.addresses l.values l.rtc l.page l.onsets l.frequencies
    l.duties l.starts l.codes (parts_in l.cells l.floats) l.ram l.sram l.gpio l.fb) l.out)
    l.to (entries_from l.script l.p (l.k - l._i) (l.p + l._i))
    ≡ after_entries (run_state (machine_of l.initial.slots l.initial.addresses l.initial.values l.initial.rtc
    l.initial.page l.initial.onsets l.initial.frequencies l.initial.duties l.initial.starts l.initial.codes
    (parts_in l.initial.cells l.initial.floats) l.initial.ram l.initial.sram l.initial.gpio l.initial.fb)
    l.initial.out) (4 + answer_bytes * l.p) (entries_from l.script l.p l.k l.p))
    × StaysPacked l.initial.cells l.initial.floats l.cells l.floats
