use Rattle.runner.proofs.Runs.{bad_presses, bad_steps, bad_kinds, bad_length}
use Rattle.runner.proofs.format.bad_script.Goals as goal

pub returns-then-p-gt-MOST_PRESSES : goal.returns-then-p-gt-MOST_PRESSES
returns-then-p-gt-MOST_PRESSES c = bad_presses _ _ c.presses-p.ensures c.if-p-gt-MOST_PRESSES.true

pub returns-then-n-gt-MOST_STEPS : goal.returns-then-n-gt-MOST_STEPS
returns-then-n-gt-MOST_STEPS c =
    bad_steps _ _ c.presses-p.ensures c.if-p-gt-MOST_PRESSES.false _
    c.steps-n.ensures c.if-n-gt-MOST_STEPS.true

pub returns-then-script-from : goal.returns-then-script-from
returns-then-script-from c =
    bad_kinds _ _ c.presses-p.ensures c.if-p-gt-MOST_PRESSES.false _
    c.steps-n.ensures c.if-n-gt-MOST_STEPS.false c.if-script-from.true _ c.kinds.ensures

pub returns : goal.returns
returns c =
    bad_length _ _ c.presses-p.ensures c.if-p-gt-MOST_PRESSES.false _ c.steps-n.ensures
    c.if-n-gt-MOST_STEPS.false c.if-script-from.false
