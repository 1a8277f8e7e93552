-- A refused call leaves the keys and the presses as they were.
use Prim.Native.Nat.{ℕ}
use mathlib.Core.Path.{◌≡◌, refl}
use mathlib.Core.Bool.{Bool, true, false, cond}
use mathlib.Core.Logic.{◌≢◌}
use lib.Dec.{leb}
use lib.Ieee.{Float}
use Rattle.map.specs.Numbers.{DONE, BAD_KEY}
use Rattle.keys.specs.declared.Keys.{Keys}
use Rattle.keys.specs.Script as script
use Rattle.keys.specs.Script.{Script, press_of}
use Rattle.keys.specs.Live.{Outcome, outcome, live_of}
use Rattle.keys.proofs.Cases.{press_each}

abbrev Still : Keys → Outcome → Type 0
Still k o = o.refusal ≢ DONE → o.keys ≡ k

key_tested : (k : Keys) (o : Outcome) (b : Bool) → Still k o → Still k (cond b o (outcome BAD_KEY k))
key_tested k o true h = h
key_tested k o false h = λ g. refl

pub live_still : (k : Keys) (key : ℕ) (down : Bool) → (live_of k key down).refusal ≢ DONE →
    (live_of k key down).keys ≡ k
unfolding live_of
live_still k key down = key_tested k _ (leb key 2) (λ h. absurd (h refl))

pub press_still : (s : Script) (key : ℕ) (at now : Float) → (press_of s key at now).refusal ≢ DONE
    → (press_of s key at now).script ≡ s
press_still s key at now =
    press_each s key at now (λ (o : script.Outcome). o.refusal ≢ DONE → o.script ≡ s) (λ h. refl) (λ h. refl)
    (λ h. refl) (λ k t f h. absurd (h refl))
