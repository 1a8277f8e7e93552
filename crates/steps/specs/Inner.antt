-- What contracts of inner functions speak of. No public contract and no theorem that docs/PROMISES.md cites does, so
-- a reader may pass it over.
use Rattle.std.specs.Prelude.{◌≡◌, ℕ, List}
use Rattle.steps.specs.declared.Output.{Output}
use Rattle.steps.specs.declared.Session.{Session}
use Rattle.steps.specs.declared.Fed.{Fed}
use Rattle.steps.specs.declared.talk.Desk.{Desk}
use Rattle.steps.specs.Machine.{World, world, after_bytes}

abbrev pub fed_with : Session → Output → Fed
fed_with s t = record { session = s; output = t }

-- what a desk holds
abbrev pub world_of : Desk → World
world_of d = world d.session d.page d.array

-- from one world to a later one by some bytes
pub record Reaches (w v : World) : Type 0 where
  pub input : List ℕ
  pub stands : v ≡ (after_bytes w input).world
