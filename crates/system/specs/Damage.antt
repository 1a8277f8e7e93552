-- Demand 3 over demand 2's definition: the bytes that reach flash and panel decide, the register words that carried
-- them may differ.
use Rattle.std.specs.Prelude.{ℕ, ◌≤◌, ◌≡◌, true, false, List, [], ◌∷◌, ◌++◌}
use Rattle.map.specs.Numbers.{SPIFC_SELECT, SPIFC_SEND}
use Rattle.flash.specs.Steps.{Step, cs, sends}
use Rattle.flash.specs.Run.{again, Begins}
use Rattle.panel.specs.Runs.{Input, Act, order, input, bytes_in, copies, window_bytes, Same}
use Rattle.system.specs.System.{Machine}
use Rattle.system.specs.Steps.{Op, write, after}
use Rattle.system.specs.Carried.{array_in, screen_in, flash_carried, panel_carried, flash_answers, Apart, Unwiped}

-- ---- the flash

-- a select, the bytes and a deselect
abbrev pub session : List ℕ → List Step
session bs = cs true ∷ (sends bs ++ (cs false ∷ []))

-- operations that carry these steps, and store nothing in the flash's array otherwise
pub record Carries (m : Machine) (os : List Op) (xs : List Step) : Type 0 where
  pub apart : Apart os
  pub steps : flash_carried m os ≡ xs

-- the usual way to carry a transaction: writes of size n, bit 6 selects
abbrev pub sending : ℕ → List ℕ → List Op
sending n [] = write SPIFC_SELECT n 0 ∷ []
sending n (b ∷ bs) = write SPIFC_SEND n b ∷ sending n bs

abbrev pub driven : ℕ → List ℕ → List Op
driven n bs = write SPIFC_SELECT n 0x40 ∷ sending n bs

-- two machines whose flash nothing can tell apart from the next select on, if no byte goes to the unselected chip
-- before it: array and write enable agree; and whatever operations follow that carry the same, every byte is answered
-- alike and what is stored agrees
pub record Unmarked (m n : Machine) : Type 0 where
  pub array : array_in m.ram ≡ array_in n.ram
  pub wel : m.system.devices.flash.wel ≡ n.system.devices.flash.wel
  pub alike : (os ps : List Op) (k : ℕ) (zs : List Step) → Carries m os (again k zs) → Carries n ps (again k zs)
      → flash_answers m os ≡ flash_answers n ps
  pub stored : (os ps : List Op) (k : ℕ) (zs : List Step) → Carries m os (again k zs) → Carries n ps (again k zs)
      → array_in (after m os).ram ≡ array_in (after n ps).ram

-- The flash's part: a transaction with write enable off that does not begin with 0x06 leaves no trace of its bytes.
abbrev pub BusForgets : Type 0
BusForgets =
    (m : Machine) (os ps : List Op) (xs ys : List ℕ) → m.system.devices.flash.cs ≡ false
    → m.system.devices.flash.wel ≡ false → (Begins 6 xs → ⊥) → (Begins 6 ys → ⊥) → Carries m os (session xs)
    → Carries m ps (session ys)
    → Unmarked (after m os) (after m ps)

-- ---- the panel

abbrev pub inputs : List Input → List Act
inputs [] = []
inputs (i ∷ is) = input i ∷ inputs is

-- 0x2C, inputs, 0x2C again, more inputs, and whatever comes then
abbrev pub redraw : List Input → List Input → List Act → List Act
redraw between rest acts = order 0x2C ∷ (inputs between ++ (order 0x2C ∷ (inputs rest ++ acts)))

-- The panel's part: whatever data bytes stood between two 0x2C, once a whole window of bytes has followed no trace is
-- left. Copies are taken to bring the same bytes in both.
abbrev pub BusHeals : Type 0
BusHeals =
    (m : Machine) (os ps : List Op) (one two rest : List Input) (acts : List Act) → Unwiped os → Unwiped ps
    → panel_carried m os ≡ redraw one rest acts
    → panel_carried m ps ≡ redraw two rest acts → copies one ≡ copies two
    → window_bytes m.system.devices.panel.window ≤ bytes_in rest
    → Same (screen_in (after m os)) (screen_in (after m ps))
