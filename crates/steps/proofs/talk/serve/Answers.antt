use Rattle.steps.proofs.Runs.{run_end}
use Rattle.steps.proofs.talk.serve.Goals as goal

pub returns : goal.returns
returns g c =
    run_end c.args.mode c.made-chip.result _ c.erase.result c.begin.result c.made-chip.ensures c.erase.ensures.array
    c.begin.ensures c.converse-turn.ensures c.close.ensures
