-- Demand 2 for the presses from any state on, as from a session that is resumed: the Rust's list that stands for the
-- places, and what it is to do as that list does.
use Rattle.std.specs.Prelude.{ℕ, ◌<◌, List, T, get_or, take, Float}
use Rattle.std.specs.Float.{nan, binary64}
use Rattle.std.specs.Float.Ieee.{fits}
use Rattle.whole.specs.Limits.{good_time}
use Rattle.keys.specs.declared.Keys.{Keys}
use Rattle.keys.specs.Keys.{Buttons}
use Rattle.keys.specs.Script.{places_of}
use Rattle.keys.specs.Rust.{Pushed, Act, Sides, sides, after, Onward, SameHeld, SameEdge}
use Rattle.keys.specs.Within.{Within, script_of}

-- the presses in the places, in their order
abbrev pub list_of : Buttons → Pushed
list_of b =
    let n = places_of b.keys.count in
    record { starts = take n b.starts; codes = take n b.codes }

abbrev pub sides_of : Buttons → Float → Sides
sides_of b now = sides (script_of b) (list_of b) now

-- what the type of the places says: the time of each press is an f64
abbrev pub Floats : Buttons → Type 0
Floats b = (i : ℕ) → i < places_of b.keys.count → T (fits binary64 (get_or b.starts i nan))

-- whatever comes, from any such state at any good time on; the keys held down live, which both sides share, may be any
abbrev pub AsRustFrom : Type 0
AsRustFrom =
    (b : Buttons) (now : Float) → Within b → Floats b → T (good_time now) → (acts : List Act) → Onward now acts
    → (k : Keys) → SameHeld (after (sides_of b now) acts) k × SameEdge (after (sides_of b now) acts) k
