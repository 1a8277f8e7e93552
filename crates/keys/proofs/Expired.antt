-- A press that has expired says nothing any more, so its place can be given to another: no key is down for it, no
-- edge of it is ahead, and it stays so. And a press is seen: its time lies before its end.
use Prim.Native.Nat.{ℕ, ◌*◌, ◌^◌}
use mathlib.Core.Path.{◌≡◌, refl, ap, ◌∙◌}
use mathlib.Core.Bool.{Bool, true, false, ◌&&◌, and-false}
use native.Mathlib.Nat.{le_of_lt}
use lib.Dec.{T, lit<, lit≤}
use lib.Ieee.{Float, fin, up, down, binary64, of_bits, lt, le}
use lib.Ieee.Fits.{down_pos}
use lib.Ieee.Order.{le_of_values}
use borrow.Author.Tests.{le-ltb, ltb-true}
use Rattle.whole.specs.Bounds.{Clear, AtMost}
use Rattle.whole.specs.Limits.{good_time}
use Rattle.whole.proofs.Clear.{any2, at_most_clear, cross}
use Rattle.whole.proofs.Round.{add_at_most, good_at_most}
use Rattle.whole.proofs.Order.{good_clear, le_trans_clear, le_refl_clear, le_of_not_lt}
use Rattle.keys.specs.declared.Held.{Held}
use Rattle.keys.specs.Script.{end_of, waits}
use Rattle.keys.specs.Live.{down_of, also}
use Rattle.keys.specs.Edges.{after_of, edges_of}
use Rattle.keys.proofs.Ahead.{ahead}
use Rattle.keys.proofs.Cases.{up_still}

not_lt_of_le : (x y : Float) → Clear x → Clear y → T (le x y) → lt y x ≡ false
unfolding lt
not_lt_of_le x y p q h =
    any2 (λ (x y : Float). T (le x y) → lt y x ≡ false) (λ m e n d h. le-ltb (n * up d * down e) (m * up e * down d)
    (cross m e n d h)) x y p q h

pub le_of_before : (x y : Float) → Clear x → Clear y → lt x y ≡ true → T (le x y)
unfolding lt
le_of_before x y p q h =
    any2 (λ (x y : Float). lt x y ≡ true → T (le x y))
    (λ m e n d h. le_of_values (fin false m e) (fin false n d) (m * up e) (down e) (n * up d) (down d) (down_pos e)
    (down_pos d) (refl, refl) (refl, refl)
    (le_of_lt (ltb-true (m * up e * down d) (n * up d * down e) h)))
    x y p q h

-- no key is down for it
pub expired_up : (h : Held) (t : Float) (code : ℕ) (now : Float) → waits t now ≡ false → also h t code now ≡ h
expired_up h t code now w =
    up_still h t code now (ap (λ (b : Bool). le t now && b) w ∙ and-false (le t now))

-- 0.15
abbrev hold : Float
hold = of_bits binary64 0x3FC3_3333_3333_3333

pub end_most : (t : Float) → T (good_time t) → AtMost (end_of t) (2 ^ 22)
unfolding of_bits
end_most t good = add_at_most t hold 21 (lit< tt) (good_at_most t good) (lit≤ tt)

pub end_clear : (t : Float) → T (good_time t) → Clear (end_of t)
end_clear t good = at_most_clear (end_of t) (2 ^ 22) (end_most t good)

-- t < t + 0.15
pub before_end : (t : Float) → T (good_time t) → lt t (end_of t) ≡ true
unfolding of_bits
before_end t good = ahead t hold (2 ^ 22) (good_at_most t good) (lit≤ tt) (end_most t good)

-- at its own time a press is down
pub down_at_once : (t : Float) → T (good_time t) → down_of t t ≡ true
down_at_once t good = rw (so_true (le t t) (le_refl_clear t (good_clear t good)), before_end t good)
  where
    so_true : (b : Bool) → T b → b ≡ true
    so_true true h = refl
    so_true false h = absurd h

module _ (t now : Float) (good : T (good_time t)) (time : T (good_time now)) where
  past : waits t now ≡ false → T (le (end_of t) now)
  past w = le_of_not_lt (end_of t) now (end_clear t good) (good_clear now time) w

  -- it began before
  pub expired_began : waits t now ≡ false → lt now t ≡ false
  expired_began w =
      let end : T (le t (end_of t)) = le_of_before t (end_of t) (good_clear t good) (end_clear t good)
      (before_end t good) in
      not_lt_of_le t now (good_clear t good) (good_clear now time)
      (le_trans_clear t (end_of t) now (good_clear t good) (end_clear t good) (good_clear now time) end (past w))

  -- no edge of it is ahead
  pub expired_past : (so : Float) → waits t now ≡ false → edges_of t now so ≡ so
  unfolding after_of
  expired_past so w = rw (w, expired_began w)

  -- and at no later time does it wait again
  pub expired_stays : (later : Float) → T (good_time later) → T (le now later) → waits t now ≡ false
      → waits t later ≡ false
  expired_stays later g l w =
      not_lt_of_le (end_of t) later (end_clear t good) (good_clear later g)
      (le_trans_clear (end_of t) now later (end_clear t good) (good_clear now time) (good_clear later g) (past w) l)
