-- What a caller of the queue sees over a run: the events that it was not refused, and those that it was given.
use Rattle.std.specs.Prelude.{cond, List, [], ◌∷◌, ◌++◌, ℕ, eqb, take}
use Rattle.timer.specs.declared.Event.{Event}
use Rattle.timer.specs.declared.Queue.{Queue}
use Rattle.timer.specs.Events.{empty_queue, put_of, take_of, bulk_of}

-- one event is put in; one is taken; some are taken over the records of a slice
pub data Step : Type 0 where
  puts : Event → Step
  takes : Step
  fills : List Event → Step

pub record Story : Type 0 where
  pub queue : Queue
  pub accepted : List Event
  pub given : List Event

-- the event, where the number is not a refusal's
abbrev pub unless_refused : ℕ → Event → List Event
unless_refused refusal e = cond (eqb refusal 0) (e ∷ []) []

abbrev pub story_of : Queue → List Event → List Event → Story
story_of q accepted given = record { queue = q; accepted = accepted; given = given }

unfoldable pub story_after_step : Story → Step → Story
story_after_step s (puts e) =
    story_of (put_of s.queue e).queue (s.accepted ++ unless_refused (put_of s.queue e).refusal e) s.given
story_after_step s takes =
    story_of (take_of s.queue).queue s.accepted
    (s.given ++ unless_refused (take_of s.queue).refusal (take_of s.queue).event)
story_after_step s (fills ys) =
    story_of (bulk_of s.queue ys).bulk.queue s.accepted
    (s.given ++ take (bulk_of s.queue ys).bulk.count (bulk_of s.queue ys).records)

unfoldable pub story_after_steps : Story → List Step → Story
story_after_steps s [] = s
story_after_steps s (step ∷ steps) = story_after_steps (story_after_step s step) steps

-- from the state story_after_steps a wipe
unfoldable pub story : List Step → Story
story steps = story_after_steps (story_of empty_queue [] []) steps
