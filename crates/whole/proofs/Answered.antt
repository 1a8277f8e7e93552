-- What a call answers is known by its number and by what it gives.
use Rattle.std.proofs.Common.{◌≡◌, ◌≢◌, ◌≤◌, ℕ, cond, refl, ap, arith}
use Rattle.std.specs.Prelude.{Result, Ok, Err, ◌==◌}
use Rattle.map.specs.declared.refusals.Refusal.{Refusal}
use Rattle.map.specs.declared.refusals.Refusal.TheVariants.{BadTime, BadTurbo, KeysFull, RegistersFull, SoundFull}
use Rattle.map.specs.declared.refusals.Refusal.TheVariants.{StrayWrite, BadMemory, BadKey, BadSize, BadScript}
use Rattle.map.specs.declared.refusals.Refusal.TheVariants.{OutTooShort, NoEvent, NoNextTime, BadSave, SaveTooShort}
use Rattle.map.specs.Refusals.{code_of, number_of, value_or}
use Rattle.whole.proofs.Unique.{same_by_number}

-- the refusal of a number
abbrev refusal_at : ℕ → Refusal
refusal_at n =
    (cond (n == 1) BadTime (cond (n == 2) BadTurbo
    (cond (n == 3) KeysFull (cond (n == 4) RegistersFull
    (cond (n == 5) SoundFull (cond (n == 6) StrayWrite
    (cond (n == 7) BadMemory (cond (n == 8) BadKey
    (cond (n == 9) BadSize (cond (n == 10) BadScript
    (cond (n == 11) OutTooShort (cond (n == 12) NoEvent
    (cond (n == 13) NoNextTime (cond (n == 14) BadSave SaveTooShort))))))))))))))

-- a refusal is known by its number
pub code_tells : (a b : Refusal) → code_of a ≡ code_of b → a ≡ b
code_tells = same_by_number code_of refusal_at back
  where
    back : (r : Refusal) → refusal_at (code_of r) ≡ r
    back BadTime = refl
    back BadTurbo = refl
    back KeysFull = refl
    back RegistersFull = refl
    back SoundFull = refl
    back StrayWrite = refl
    back BadMemory = refl
    back BadKey = refl
    back BadSize = refl
    back BadScript = refl
    back OutTooShort = refl
    back NoEvent = refl
    back NoNextTime = refl
    back BadSave = refl
    back SaveTooShort = refl

-- no refusal's number is that of a call that is done

pub code_above : (r : Refusal) → 1 ≤ code_of r
code_above BadTime = omega arith
code_above BadTurbo = omega arith
code_above KeysFull = omega arith
code_above RegistersFull = omega arith
code_above SoundFull = omega arith
code_above StrayWrite = omega arith
code_above BadMemory = omega arith
code_above BadKey = omega arith
code_above BadSize = omega arith
code_above BadScript = omega arith
code_above OutTooShort = omega arith
code_above NoEvent = omega arith
code_above NoNextTime = omega arith
code_above BadSave = omega arith
code_above SaveTooShort = omega arith

-- AN ANSWER IS KNOWN by its number and by what it gives
pub answer_tells : {A : Type 0} (d : A) (r s : Result A Refusal) → number_of r ≡ number_of s
    → value_or r d ≡ value_or s d → r ≡ s
answer_tells d (Ok x) (Ok y) e f = ap Ok f
answer_tells d (Err a) (Err b) e f = ap Err (code_tells a b e)
answer_tells d (Ok x) (Err b) e f = absurd (let h : 1 ≤ code_of b = code_above b in omega arith)
answer_tells d (Err a) (Ok y) e f = absurd (let h : 1 ≤ code_of a = code_above a in omega arith)

pub code_not_done : (r : Refusal) → code_of r ≢ 0
code_not_done r z = let above : 1 ≤ code_of r = code_above r in omega arith
