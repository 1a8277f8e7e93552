use Rattle.std.proofs.Common.{ap, ◌∙◌}
use Rattle.timer.specs.Timers.{control_of}
use Rattle.timer.specs.declared.Timer.{Timer}
use Rattle.bus.proofs.read.timer_read.Goals as goal

pub returns : goal.returns
returns c =
    c.read_ctrl.ensures ∙ ap (λ (t : Timer). control_of t c.args.old)
    c.timer_of-t.ensures
