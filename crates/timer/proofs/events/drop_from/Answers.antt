use Rattle.std.proofs.Common.{◌≡◌, refl, List, ℕ, ◌+◌, add-one, Float, set}
use Rattle.timer.specs.declared.Ring.{Ring}
use Rattle.timer.specs.Events.{cleared, place_of}
use Rattle.whole.specs.Forms.{nought}
use Rattle.timer.proofs.events.drop_from.Goals as goal

one_more : (ring : Ring) (i place : ℕ) (before now : List Float) → now ≡ cleared ring i before → place ≡ place_of
    ring i
    → set now place nought ≡ cleared ring (i + 1) before
unfolding cleared
one_more ring i place before now now-is place_is = rw (add-one i, now-is, place_is)

pub loop-i-init : goal.loop-i-init
unfolding cleared
loop-i-init c = (refl, refl, refl)

pub loop-i-preserved : goal.loop-i-preserved
loop-i-preserved c =
    let start = c.args in
    let lp = c.loop-i in
    let at = c.place-at.ensures in (
      one_more start.ring lp.i _ start.onsets.now lp.onsets lp.invariant.0 at,
      one_more start.ring lp.i _ start.frequencies.now lp.frequencies lp.invariant.1 at,
      one_more start.ring lp.i _ start.duties.now lp.duties lp.invariant.2 at,
    )
