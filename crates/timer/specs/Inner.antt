-- What contracts of inner functions speak of. No public contract and no theorem that docs/PROMISES.md cites does, so
-- a reader may pass it over.
use Rattle.std.specs.Prelude.{List, ℕ, length}
use Rattle.timer.specs.declared.Event.{Event}
use Rattle.timer.specs.declared.Queue.{Queue}
use Rattle.timer.specs.Events.{waiting, fit_of, laid_over}

-- how many, and the later records
pub record LayOutcome : Type 0 where
  pub count : ℕ
  pub records : List Event

abbrev pub lay_outcome : ℕ → List Event → LayOutcome
lay_outcome n ys = record { count = n; records = ys }

abbrev pub lay_of : Queue → List Event → LayOutcome
lay_of q ys = lay_outcome (fit_of q.ring.count (length ys)) (laid_over (waiting q) ys)
