use Rattle.runner.proofs.Runs.{script_bad, script_run}
use Rattle.script.proofs.tg18_run_script.Goals as goal

pub returns-then-bad_memory : goal.returns-then-bad_memory
returns-then-bad_memory c = script_bad _ _ _ _ _ _ c.bad_memory.ensures c.if-bad_memory.true

pub returns : goal.returns
returns c =
    rw c.status.ensures
    (script_run _ _ _ _ _ _ c.bad_memory.ensures c.if-bad_memory.false c.run_script.ensures)
