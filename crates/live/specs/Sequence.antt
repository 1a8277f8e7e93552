-- Live calls one behind the other: what they leave, and the bus's operations that they are.
use Rattle.std.specs.Prelude.{ℕ, cond, ◌||◌, List, [], ◌∷◌, ◌++◌, length, replicate}
use Rattle.timer.specs.declared.Event.{Event}
use Rattle.timer.specs.Events.{fit_of}
use Rattle.system.specs.System.{Machine}
use Rattle.system.specs.Steps.{Op, take_event}
use Rattle.runner.specs.Format.{bad_script, entries_of}
use Rattle.runner.specs.Script.{out_too_short, script_from}
use Rattle.script.specs.Fold.{ops_of}
use Rattle.live.specs.Live.{called, take_many}

-- by what a call can change: one operation of the bus; sound events into these records; a script with this output; and
-- those that only look (blocks, the screen, what the clocks say, a save). tg18_fresh and tg18_resume are none of them:
-- a sequence starts there. Crate keeping has sequences with resumes in them.
pub data Call : Type 0 where
  acts : Op → Call
  takes : List Event → Call
  runs : List ℕ → List ℕ → Call
  looks : Call

-- over memories of a unit's lengths; over others a call that is lent none does its operation all the same
unfoldable pub left_by : Machine → Call → Machine
left_by m (acts o) = (called m o).machine
left_by m (takes records) = (take_many m records).machine
left_by m (runs script out) = (script_from m script out).machine
left_by m looks = m

unfoldable pub left_by_all : Machine → List Call → Machine
left_by_all m [] = m
left_by_all m (c ∷ cs) = left_by_all (left_by m c) cs

-- ---- the same as operations

-- a script that is refused is none
unfoldable pub ops_in : Machine → Call → List Op
ops_in m (acts o) = o ∷ []
ops_in m (takes records) = replicate (fit_of m.system.queue.ring.count (length records)) take_event
ops_in m (runs script out) = cond (bad_script script || out_too_short script out) [] (ops_of (entries_of script))
ops_in m looks = []

unfoldable pub ops_in_all : Machine → List Call → List Op
ops_in_all m [] = []
ops_in_all m (c ∷ cs) = ops_in m c ++ ops_in_all (left_by m c) cs
