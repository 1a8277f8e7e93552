-- A whole session: one instruction after another, the data sheet's chip and ours side by side.
use Rattle.std.specs.Prelude.{◌≡◌, ℕ, suc, ◌<◌, ◌≤◌, false, List, [], ◌∷◌, length, slice_index}
use Rattle.flash.specs.Board.{Board}
use Rattle.flash.specs.Run.{transaction}
use Rattle.flash.specs.Sheet.{State, After, leaves, not_said, not_here, reply, afterwards}
use Rattle.flash.specs.Departures.{Agrees, departs, unit, answer_at}
use Rattle.flash.specs.declared.Mode.{Mode}

-- bytes, and no listed departure
pub record Plain (e : Mode) (n : ℕ) (bs : List ℕ) : Type 0 where
  pub bytes : (k : ℕ) → slice_index bs k < 256
  pub listed : departs e n bs ≡ false

abbrev pub AllPlain : Mode → ℕ → List (List ℕ) → Type 0
AllPlain e n [] = Unit {0}
AllPlain e n (bs ∷ bss) = Plain e n bs × AllPlain e n bss

abbrev pub SameReplies : Board → State → List ℕ → Type 0
SameReplies w s bs = (i : ℕ) → suc i ≤ length bs → Agrees (reply unit s bs i) (answer_at w bs i)

-- what follows an instruction: from where the sheet does not say what is left, nothing is claimed
abbrev pub Follows : After → (State → Type 0) → Type 0
Follows (leaves s) f = f s
Follows not_said f = Unit {0}
Follows not_here f = ⊥

-- the sheet's chip is in state s, ours on the board w
abbrev pub Session : Board → State → List (List ℕ) → Type 0
Session w s [] = (w.array ≡ s.array) × (w.chip.wel ≡ s.wel)
Session w s (bs ∷ bss) =
    SameReplies w s bs × Follows (afterwards s bs) (λ (t : State). Session (transaction w bs) t bss)
