-- `talk::serve` meets its contract: each turn reads one step more and answers it.
use Rattle.lines.specs.Served.{Turned}
use Rattle.lines.proofs.talk.serve.Given as goal

abbrev pub invariant-loop : goal.invariant-loop
invariant-loop g l =
    Turned g.M.Machine.steps l.fn.machine l.machine (g.R.Read.remaining l.fn.input) (g.R.Read.remaining l.input)
