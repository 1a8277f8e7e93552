-- `key_script` of core/src/sys.rs is a list that only grows. The 64 places are to do as that list does.
use Rattle.std.specs.Prelude.{ℕ, ◌≡◌, cond, List, [], ◌∷◌, ◌++◌, T, eqb, length, Float}
use Rattle.std.specs.Float.{binary64}
use Rattle.std.specs.Float.Ieee.{fits, le}
use Rattle.map.specs.Numbers.{DONE}
use Rattle.whole.specs.Bounds.{Clear}
use Rattle.whole.specs.Limits.{good_time}
use Rattle.keys.specs.declared.Held.{Held}
use Rattle.keys.specs.declared.Keys.{Keys}
use Rattle.keys.specs.Keys.{fresh_buttons}
use Rattle.whole.specs.Forms.{nought}
use Rattle.keys.specs.Script.{Script, press_of}
use Rattle.keys.specs.Live.{tapped, held_from, held_of}
use Rattle.keys.specs.Edges.{edges_from, hold_edges, next_edge}
use Rattle.keys.specs.Within.{script_of, with_count}

-- Vec<(f64, Key)>, the times and the keys apart
pub record Pushed : Type 0 where
  pub starts : List Float
  pub codes : List ℕ

unfoldable pub push : Pushed → Float → ℕ → Pushed
push v at key = record { starts = v.starts ++ (at ∷ []); codes = v.codes ++ (key ∷ []) }

-- keys_held, with the loop over the whole list
unfoldable pub rust_held : Pushed → Keys → Float → Held
rust_held v k now = held_from v.starts v.codes (tapped k.live k.holds now) now (length v.starts)

-- next_event's loops over key_script and hold_until
unfoldable pub rust_edge : Pushed → Keys → Float → Float → Float
rust_edge v k now t = hold_edges k.holds now (edges_from v.starts now t (length v.starts))

-- ---- a run: presses are asked for, and time goes on

pub data Act : Type 0 where
  presses : ℕ → Float → Act
  goes : Float → Act

-- the places, the Rust's list of the presses that were accepted, and now
pub record Sides : Type 0 where
  pub script : Script
  pub list : Pushed
  pub now : Float

abbrev pub sides : Script → Pushed → Float → Sides
sides s v now = record { script = s; list = v; now = now }

unfoldable pub fresh_sides : Sides
fresh_sides = sides (script_of fresh_buttons) (record { starts = []; codes = [] }) nought

unfoldable pub sides_after : Sides → Act → Sides
sides_after s (presses key at) =
    sides (press_of s.script key at s.now).script (cond (eqb (press_of s.script key at s.now).refusal DONE)
    (push s.list at key) s.list)
    s.now
sides_after s (goes time) = sides s.script s.list time

unfoldable pub after : Sides → List Act → Sides
after s [] = s
after s (act ∷ acts) = after (sides_after s act) acts

-- every press's time is an f64, and time goes on within the limits
abbrev pub Onward : Float → List Act → Type 0
Onward now [] = Unit {0}
Onward now (presses key at ∷ acts) = T (fits binary64 at) × Onward now acts
Onward now (goes time ∷ acts) = T (good_time time) × T (le now time) × Onward time acts

-- the same keys are down
abbrev pub SameHeld : Sides → Keys → Type 0
SameHeld s k = held_of s.script.starts s.script.codes (with_count k s.script.count) s.now ≡ rust_held
    s.list k s.now

-- and the next edge is the same float, from an f64 that is finite with a clear sign
abbrev pub SameEdge : Sides → Keys → Type 0
SameEdge s k =
    (t : Float) → T (fits binary64 t) → Clear t
    → next_edge s.script.starts (with_count k s.script.count) s.now t ≡ rust_edge s.list k s.now t

-- whatever comes, from the fresh state on
abbrev pub AsRust : Type 0
AsRust = (acts : List Act) → Onward nought acts → (k : Keys) → SameHeld (after fresh_sides acts) k × SameEdge
    (after fresh_sides acts) k
