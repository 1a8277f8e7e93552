-- What contracts of inner functions speak of. No public contract and no theorem that docs/PROMISES.md cites does, so
-- a reader may pass it over.
use Rattle.std.specs.Prelude.{ℕ, List}
use Rattle.state.specs.declared.Parts.{Parts}
use Rattle.state.specs.Parts.{clocks_put, vsync_put, converting_put, irq_put}
use Rattle.time.specs.Advance as move
use Rattle.time.specs.Advance.{Synced, Converted, Ticking}

-- the words with storage of their own, and the parts
pub record Went : Type 0 where
  pub slots : List ℕ
  pub parts : Parts

abbrev pub went : List ℕ → Parts → Went
went slots x = record { slots = slots; parts = x }

abbrev pub synced_put : Parts → Synced → Went
synced_put x s = went s.slots (vsync_put x s.vsync)

abbrev pub converted_put : Parts → Converted → Went
converted_put x s = went s.slots (converting_put x s.converting)

abbrev pub ticked_put : Parts → Ticking → Went
ticked_put x s = went s.slots (irq_put x s.irq)

abbrev pub went_of : Parts → move.Devices → Went
went_of x d = went d.slots (clocks_put x d.clocks)
