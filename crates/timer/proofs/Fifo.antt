-- The events come out in the order in which they were put in.
use mathlib.Core.Path.{◌≡◌, refl, sym, ◌∙◌, ap}
use mathlib.Core.Bool.{Bool, true, false}
use mathlib.Core.List.{List, [], ◌∷◌, ◌++◌, append-nil, append_assoc}
use Prim.Native.Nat.{ℕ}
use lib.Dec.{ltb}
use lib.ListN.{length, take, take-append-drop}
use borrow.Author.Tests.{ltb-true, ltb-false}
use Rattle.timer.specs.declared.Event.{Event}
use Rattle.timer.specs.declared.Queue.{Queue}
use Rattle.timer.specs.Events.{empty_queue, waiting, waiting_from, fit_of, laid_over, bulk_of, put_of, take_of}
use Rattle.timer.specs.Canonical.{Canonical}
use Rattle.timer.specs.Story.{Step, puts, takes, fills, Story, story_of, story_after_step, story_after_steps, story}
use Rattle.timer.proofs.Laid.{laid_first}
use Rattle.timer.proofs.Waiting.{waiting_count, without_drops, put_adds, put_refuses, take_refuses, take_gives}
use Rattle.timer.proofs.Tidy.{empty_canonical, put_canonical, take_canonical, without_canonical}

-- what was accepted is what was given and then what waits
pub record InOrder (s : Story) : Type 0 where
  pub canonical : Canonical s.queue
  pub order : s.accepted ≡ s.given ++ waiting s.queue

empty_waits : waiting empty_queue ≡ []
unfolding waiting waiting_from empty_queue
empty_waits = refl

puts_order : (s : Story) (e : Event) (t : Bool) → ltb (length (waiting s.queue)) 256 ≡ t → InOrder s
    → (story_after_step s (puts e)).accepted ≡ s.given ++ waiting (put_of s.queue e).queue
unfolding story_after_step
puts_order s e true h good =
    let adds = put_adds s.queue e good.canonical (ltb-true (length (waiting s.queue)) 256 h) in
    rw (adds.0, adds.1, good.order, append_assoc)
puts_order s e false h good =
    rw (put_refuses s.queue e (ltb-false (length (waiting s.queue)) 256 h), append-nil) good.order

takes_order : (s : Story) (l : List Event) → waiting s.queue ≡ l → InOrder s
    → s.accepted ≡ (story_after_step s takes).given ++ waiting (take_of s.queue).queue
unfolding story_after_step
takes_order s [] wait good = rw (take_refuses s.queue wait, append-nil) good.order
takes_order s (e ∷ l) wait good =
    let gives = take_gives s.queue e l good.canonical.most wait in
    rw (gives.0, gives.1, append_assoc) (good.order ∙ ap (λ (k : List Event). s.given ++ k) wait)

fills_order : (s : Story) (ys : List Event) → InOrder s
    → s.accepted ≡ (story_after_step s (fills ys)).given ++ waiting (bulk_of s.queue ys).bulk.queue
unfolding story_after_step
fills_order s ys good =
    let q : Queue = s.queue in
    let n : ℕ = fit_of q.ring.count (length ys) in
    let first : take n (laid_over (waiting q) ys) ≡ take n (waiting q) = rw (waiting_count q) at
    (laid_first (waiting q) ys) in
    rw (first, without_drops q n good.canonical.most, append_assoc, take-append-drop) good.order

step_order : (s : Story) (step : Step) → InOrder s → InOrder (story_after_step s step)
unfolding story_after_step
step_order s (puts e) good = record {
  canonical = put_canonical s.queue e good.canonical;
  order = puts_order s e (ltb (length (waiting s.queue)) 256) refl good;
}
step_order s takes good = record {
  canonical = take_canonical s.queue good.canonical;
  order = takes_order s (waiting s.queue) refl good;
}
step_order s (fills ys) good = record {
  canonical = without_canonical s.queue (fit_of s.queue.ring.count (length ys)) good.canonical;
  order = fills_order s ys good;
}

after_order : (s : Story) (steps : List Step) → InOrder s → InOrder (story_after_steps s steps)
unfolding story_after_steps
after_order s [] good = good
after_order s (step ∷ steps) good = after_order (story_after_step s step) steps (step_order s step good)

start_order : InOrder (story_of empty_queue [] [])
start_order = record { canonical = empty_canonical; order = sym empty_waits }

-- FIRST IN, FIRST OUT: story_after_steps any steps, in any order
pub fifo : (steps : List Step) → (story steps).accepted ≡ (story steps).given ++ waiting (story steps).queue
unfolding story
fifo steps = (after_order (story_of empty_queue [] []) steps start_order).order

-- the state that any steps leave is canonical
pub canonical : (steps : List Step) → Canonical (story steps).queue
unfolding story
canonical steps = (after_order (story_of empty_queue [] []) steps start_order).canonical
