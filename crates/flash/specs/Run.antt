-- Runs of selects and bytes, over the definition of the two steps.
use Rattle.std.specs.Prelude.{◌≡◌, ℕ, zero, suc, ◌<◌, true, false, List, [], ◌∷◌, ◌++◌, length, slice_index}
use Rattle.flash.specs.Steps.{Step, cs, byte, sends}
use Rattle.flash.specs.Board.{Board, good_size}
use Rattle.flash.specs.Flash.{selected, transferred}

abbrev pub after_step : Board → Step → Board
after_step w (cs on) = (selected w on).board
after_step w (byte b) = (transferred w b).board

-- what a byte is answered: a select is answered nothing
abbrev pub step_answers : Board → Step → List ℕ
step_answers w (cs on) = []
step_answers w (byte b) = (transferred w b).answer ∷ []

abbrev pub after_steps : Board → List Step → Board
after_steps w [] = w
after_steps w (x ∷ xs) = after_steps (after_step w x) xs

abbrev pub answers : Board → List Step → List ℕ
answers w [] = []
answers w (x ∷ xs) = step_answers w x ++ answers (after_step w x) xs

-- what the theorems ask of an array: a size that is not refused, and bytes
abbrev pub Bytes : List ℕ → Type 0
Bytes m = (k : ℕ) → slice_index m k < 256

pub record Good (m : List ℕ) : Type 0 where
  pub size : good_size (length m) ≡ true
  pub bytes : Bytes m

-- a select, the bytes and a deselect
abbrev pub transaction : Board → List ℕ → Board
transaction w bs = after_steps (after_steps (after_step w (cs true)) (sends bs)) (cs false ∷ [])

-- so many more deselects, and a select: no byte goes to the unselected chip
abbrev pub again : ℕ → List Step → List Step
again zero xs = cs true ∷ xs
again (suc n) xs = cs false ∷ again n xs

-- the bytes begin with this one
abbrev pub Begins : ℕ → List ℕ → Type 0
Begins x [] = ⊥
Begins x (b ∷ bs) = b ≡ x

-- Demand 3: two boards that nothing can tell apart from the next select on, if no byte goes to the unselected chip
-- before it: array and write enable agree, every later byte is answered alike, and what is stored later agrees
pub record Forgets (v w : Board) : Type 0 where
  pub array : v.array ≡ w.array
  pub wel : v.chip.wel ≡ w.chip.wel
  pub alike : (n : ℕ) (xs : List Step) → answers v (again n xs) ≡ answers w (again n xs)
  pub stored : (n : ℕ) (xs : List Step) → (after_steps v (again n xs)).array ≡ (after_steps w (again n xs)).array
