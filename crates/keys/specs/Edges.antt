-- The keys' part of next_event, from a time t that is known so far.
use Rattle.std.specs.Prelude.{ℕ, zero, suc, cond, List, get_or, Float}
use Rattle.std.specs.Float.{nan}
use Rattle.std.specs.Float.Ieee.{lt}
use Rattle.keys.specs.declared.Holds.{Holds}
use Rattle.keys.specs.declared.Keys.{Keys}
use Rattle.keys.specs.Script.{end_of, places_of}

-- the smaller, of two that are no NaN
unfoldable pub min_of : Float → Float → Float
min_of a b = cond (lt b a) b a

-- if edge > now { t = t.min(edge) }
unfoldable pub after_of : Float → Float → Float → Float
after_of now t edge = cond (lt now edge) (min_of t edge) t

-- both edges of a press
abbrev pub edges_of : Float → Float → Float → Float
edges_of k now t = after_of now (after_of now t k) (end_of k)

-- of the first n presses
unfoldable pub edges_from : List Float → Float → Float → ℕ → Float
edges_from starts now t zero = t
edges_from starts now t (suc n) = edges_of (get_or starts n nan) now (edges_from starts now t n)

unfoldable pub press_edges : List Float → ℕ → Float → Float → Float
press_edges starts count now t = edges_from starts now t (places_of count)

unfoldable pub hold_edges : Holds → Float → Float → Float
hold_edges h now t = after_of now (after_of now (after_of now t h.a) h.b) h.c

unfoldable pub next_edge : List Float → Keys → Float → Float → Float
next_edge starts k now t = hold_edges k.holds now (press_edges starts k.count now t)
