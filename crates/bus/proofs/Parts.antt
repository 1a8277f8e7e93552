-- The flash's part of a memory, and a table that a loop fills.
use Prim.Native.Nat.{ℕ, ◌%◌, ◌≤◌}
use mathlib.Core.Path.{◌≡◌, sym, ap, ◌∙◌}
use mathlib.Core.Bool.{Bool, true, false}
use mathlib.Core.List.{List, ◌++◌}
use mathlib.Core.Logic.{⊎_elim}
use native.Mathlib.Nat.{le_refl}
use native.Mathlib.Omega.{arith}
use lib.ListN.{length, take, drop, drop_of_length-le, take-append-drop}
use lib.Seq.{take_all}
use borrow.Author.Tests.{lt-ltb, le-ltb}
use Rattle.map.specs.Numbers.{FLASH_SIZE}
use Rattle.whole.proofs.Choice.{lt_or_ge}
use Rattle.flash.specs.declared.Chip.{Chip}
use Rattle.flash.specs.Board.{Reply}
use Rattle.flash.specs.Pick.{pick}
use Rattle.flash.specs.Board.{Outcome, board, outcome, good_size, refused_outcome, accepted_outcome}
use Rattle.flash.specs.Flash.{replied, sent_board, selected, transferred}
use Rattle.state.specs.Parts.{sent_with}
use Rattle.bus.specs.Chip.{part_of, chipped, board_of, in_ram, selected_over, sent_over, Flashed, flashed}
use Rattle.bus.specs.Chip.{send_written}

-- ---- the flash's part of a memory

pub part_le : (n : ℕ) → part_of n ≤ n
unfolding part_of
part_le n =
    ⊎_elim (λ h. rw (lt-ltb n FLASH_SIZE h) (le_refl n)) (λ h. rw (le-ltb n FLASH_SIZE h) h) (lt_or_ge n FLASH_SIZE)

part_take : (ram : List ℕ) → take (part_of (length ram)) ram ≡ take FLASH_SIZE ram
unfolding part_of
part_take ram =
    ⊎_elim
    (λ h. rw (lt-ltb (length ram) FLASH_SIZE h)
    (take_all _ ram (le_refl _) ∙ sym (take_all FLASH_SIZE ram (omega arith))))
    (λ h. rw (le-ltb (length ram) FLASH_SIZE h))
    (lt_or_ge (length ram) FLASH_SIZE)

part_drop : (ram : List ℕ) → drop (part_of (length ram)) ram ≡ drop FLASH_SIZE ram
unfolding part_of
part_drop ram =
    ⊎_elim
    (λ h. rw (lt-ltb (length ram) FLASH_SIZE h) (drop_of_length-le ram {i = length ram} (le_refl _) ∙ sym
    (drop_of_length-le ram {i = FLASH_SIZE} (omega arith))))
    (λ h. rw (le-ltb (length ram) FLASH_SIZE h))
    (lt_or_ge (length ram) FLASH_SIZE)

module _ (c : Chip) (page ram : List ℕ) {n : ℕ} (e : n ≡ part_of (length ram)) where
  all : take n ram ≡ take FLASH_SIZE ram
  all = ap (λ (k : ℕ). take k ram) e ∙ part_take ram

  pub select_part : (r : Reply) (on : Bool) {page' l : List ℕ}
      → outcome r page' l ≡ selected (board c page (take n ram)) on
      → chipped r.chip page' (l ++ drop n ram) ≡ selected_over c page ram on
  unfolding selected_over
  select_part r on {page'} {l} h =
      ap (λ (t : List ℕ). chipped r.chip page' (l ++ t)) (ap (λ (k : ℕ). drop k ram) e ∙ part_drop ram)
      ∙ ap (λ (o : Outcome). in_ram o.board ram) (h ∙ ap (λ (t : List ℕ). selected (board c page t) on) all)

  pub send_part : (r : Reply) (b : ℕ) {page' : List ℕ} → outcome r page' (take n ram)
      ≡ transferred (board c page (take n ram)) b
      → chipped r.chip page' ram ≡ sent_over c page ram b
  unfolding sent_over
  send_part r b {page'} h =
      ap (λ (t : List ℕ). chipped r.chip page' t) (sym (take-append-drop FLASH_SIZE ram))
      ∙ ap (λ (t : List ℕ). chipped r.chip page' (t ++ drop FLASH_SIZE ram)) (sym all)
      ∙ ap (λ (o : Outcome). in_ram o.board ram) (h ∙ ap (λ (t : List ℕ). transferred (board c page t) b) all)

-- what a transfer changes of the chip
pub sent_alone : (slots : List ℕ) (c : Chip) (page ram : List ℕ) (new : ℕ) {slots₁ page₁ ram₁ : List ℕ} {f : Chip}
    → flashed slots₁ (chipped f page₁ ram₁) ≡ send_written slots c page ram new
    → f ≡ sent_with c f.rx f.tx
unfolding send_written sent_over transferred
sent_alone slots c page ram new {f = f} h = by (good_size (length (take FLASH_SIZE ram)))
    (ap (λ (z : Flashed). z.left.chip) h)
  where
    by : (good : Bool) → f ≡ (pick good (accepted_outcome (replied (board_of c page ram))
        (sent_board (board_of c page ram) (new % 256))) (refused_outcome (board_of c page ram))).board.chip
        → f ≡ sent_with c f.rx f.tx
    by true e = rw e
    by false e = rw e
