-- The bus's world and a write's answer over the lent lists and the bank's parts.
use Rattle.std.specs.Prelude.{ℕ, List}
use Rattle.registers.specs.Words.{registers_of}
use Rattle.state.specs.declared.Parts.{Parts}
use Rattle.bus.specs.Answers.{WriteAnswer}
use Rattle.bus.specs.World.{World, world, Out, out}

-- the registers' three lists, the RTC's registers, the page's running AND, the four memories, the bank's parts
abbrev pub world_of : List ℕ → List ℕ → List ℕ → List ℕ → List ℕ → List ℕ → List ℕ → List ℕ → List ℕ → Parts → World
world_of slots addresses values rtc page ram sram gpio fb x =
    world (registers_of slots addresses values) rtc page ram sram gpio fb x.devices

-- an answer, with the world that it leaves
abbrev pub out_of : World → WriteAnswer → Out
out_of w r = out w r.refusal r.event
