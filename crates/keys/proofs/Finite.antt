-- Within the limits the next edge is finite with a clear sign, if the time so far is: `min` meets no NaN and no
-- negative zero.
use Prim.Native.Nat.{ℕ, zero, suc, ◌^◌, ◌≤◌, ◌<◌}
use mathlib.Core.Bool.{Bool, true, false, cond}
use mathlib.Core.List.{List}
use native.Mathlib.Nat.{le_trans}
use native.Mathlib.Omega.{arith}
use lib.Dec.{T, lit≤}
use lib.ListN.{get_or}
use lib.Ieee.{Float, nan, lt}
use Rattle.whole.specs.Bounds.{AtMost}
use Rattle.whole.specs.Limits.{good_time}
use Rattle.whole.proofs.Round.{good_at_most, weaken}
use Rattle.keys.specs.Keys.{Buttons}
use Rattle.keys.specs.Script.{end_of, places_of}
use Rattle.keys.specs.Edges.{min_of, after_of, edges_from, press_edges, hold_edges, next_edge}
use Rattle.keys.specs.Within.{Within}
use Rattle.keys.proofs.Expired.{end_most}

module _ (n : ℕ) (room : 2 ^ 22 ≤ n) (now : Float) where
  min_at_most : (a b : Float) → AtMost a n → AtMost b n → AtMost (min_of a b) n
  unfolding min_of
  min_at_most a b p q = by (lt b a)
    where
      by : (t : Bool) → AtMost (cond t b a) n
      by true = q
      by false = p

  after_at_most : (t edge : Float) → AtMost t n → AtMost edge n → AtMost (after_of now t edge) n
  unfolding after_of
  after_at_most t edge p q = by (lt now edge)
    where
      by : (b : Bool) → AtMost (cond b (min_of t edge) t) n
      by true = min_at_most t edge p q
      by false = p

  good : (k : Float) → T (good_time k) → AtMost k n
  good k g = weaken k (2 ^ 21) n (le_trans (lit≤ tt) room) (good_at_most k g)

  pub edges_at_most : (starts : List Float) (t : Float) (m : ℕ) →
      ((i : ℕ) → i < m → T (good_time (get_or starts i nan)))
      → AtMost t n → AtMost (edges_from starts now t m) n
  unfolding edges_from
  edges_at_most starts t zero g p = p
  edges_at_most starts t (suc m) g p =
      after_at_most (after_of now (edges_from starts now t m) (get_or starts m nan)) (end_of (get_or starts m nan))
      (after_at_most (edges_from starts now t m) (get_or starts m nan) (edges_at_most starts t m (λ i l. g i
      (omega arith)) p)
      (good (get_or starts m nan) (g m (omega arith))))
      (weaken (end_of (get_or starts m nan)) (2 ^ 22) n room (end_most (get_or starts m nan) (g m (omega arith))))

  pub edge_at_most : (b : Buttons) (t : Float) → Within b → AtMost t n → AtMost (next_edge b.starts b.keys now t) n
  unfolding next_edge hold_edges press_edges
  edge_at_most b t w p =
      let h = b.keys.holds in
      let e = edges_from b.starts now t (places_of b.keys.count) in
      after_at_most (after_of now (after_of now e h.a) h.b) h.c
      (after_at_most (after_of now e h.a) h.b
      (after_at_most e h.a (edges_at_most b.starts t (places_of b.keys.count) (λ i l. (w.presses i l).time) p)
      (good h.a w.hold_a))
      (good h.b w.hold_b))
      (good h.c w.hold_c)
