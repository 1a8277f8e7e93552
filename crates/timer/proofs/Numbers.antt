-- The refusal by its number, given exactly when its rule says; and a change that is not refused finds room for its
-- event.
use mathlib.Core.Path.{◌≡◌, refl}
use mathlib.Core.Logic.{◌⊎◌, inl, inr}
use mathlib.Core.Bool.{Bool, true, false, cond, ◌&&◌}
use Prim.Native.Nat.{ℕ}
use native.Mathlib.Omega.{arith}
use borrow.Author.Tests.{leb-false}
use Rattle.std.specs.Prelude.{Ok, Err, Some, None}
use Rattle.map.specs.Numbers.{DONE}
use Rattle.timer.specs.declared.Event.{Event}
use Rattle.timer.specs.declared.Queue.{Queue}
use Rattle.timer.specs.declared.Tone.{Tone}
use Rattle.map.specs.declared.refusals.Refusal.TheVariants.{SoundFull}
use Rattle.timer.specs.Sound.{differ_of, sounded_of, sound_refusal, Sounded}
use Rattle.timer.specs.Events.{full_of, with_last, put_of, put_outcome}
use Rattle.timer.proofs.Waiting.{put_done}

-- refusal 5: the tone would change while 256 events wait
pub sound_number : (state : Tone) (full : Bool) (new : Tone) → sound_refusal (sounded_of state full new) ≡ cond
    (differ_of new state && full) 5 0
unfolding sounded_of
sound_number state full new = by (differ_of new state) full
  where
    by : (a b : Bool) → sound_refusal (cond a (cond b (Err SoundFull) (Ok (Some new))) (Ok None)) ≡ cond (a && b) 5 0
    by false b = refl
    by true true = refl
    by true false = refl

pub change_has_room : (q : Queue) (e : Event) (state new tone : Tone) → sounded_of state (full_of q.ring) new ≡
    Ok (Some tone)
    → put_of q e ≡ put_outcome DONE (with_last q e)
unfolding sounded_of
change_has_room q e state new tone h = by (differ_of new state) (full_of q.ring) refl h
  where
    never : (s : Sounded) (t : Tone) → (s ≡ (Ok None)) ⊎ (s ≡ (Err SoundFull)) → s ≡ Ok (Some t) → ⊥
    never s t (inl a) b = let z : ◌≡◌ {A = ℕ} 0 1 = cc in omega arith
    never s t (inr a) b = let z : ◌≡◌ {A = ℕ} 0 1 = cc in omega arith

    by : (a b : Bool) → full_of q.ring ≡ b → cond a (cond b (Err SoundFull) (Ok (Some new))) (Ok None) ≡ Ok (Some tone)
        → put_of q e ≡ put_outcome DONE (with_last q e)
    by false b f h = absurd (never (Ok None) tone (inl refl) h)
    by true true f h = absurd (never (Err SoundFull) tone (inr refl) h)
    by true false f h = put_done q e (leb-false 256 q.ring.count f)
