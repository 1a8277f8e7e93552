-- A step that is refused, said of the page and of the array as they were.
use Rattle.std.proofs.Common.{◌≡◌, ◌≢◌, ◌≤◌, ℕ, Bool, true, false, List, length, refl, sym, ap, ◌∙◌, arith}
use Rattle.map.specs.Numbers.{DONE}
use Rattle.map.specs.declared.refusals.Refusal.{Refusal}
use Rattle.map.specs.Refusals.{code_of}
use Rattle.whole.proofs.Answered.{code_above}
use Rattle.flash.specs.Pick.{pick}
use Rattle.flash.specs.Board.{Board, Outcome, board, good_size, accepted_outcome, refused_outcome}
use Rattle.flash.specs.Flash.{selected, select_board, transferred, replied, sent_board}
use Rattle.flash.specs.declared.SpiFlash.{SpiFlash}

still : (good : Bool) (a : ℕ) (v w : Board)
    → (pick good (accepted_outcome a v) (refused_outcome w)).refusal ≢ DONE
    → (pick good (accepted_outcome a v) (refused_outcome w)).board ≡ w
still true a v w h = absurd (h refl)
still false a v w h = refl

-- what a refusal leaves is what was there
pub refused_board : (good : Bool) (a : ℕ) (v w : Board) (r : Refusal) (o : Outcome) → o.refusal ≡ code_of r
    → o ≡ pick good (accepted_outcome a v) (refused_outcome w) → w ≡ o.board
refused_board good a v w r o n e =
    sym (ap (λ (x : Outcome). x.board) e ∙ still good a v w (λ z.
    let above : 1 ≤ code_of r = code_above r in
    let same : o.refusal ≡ (pick good (accepted_outcome a v) (refused_outcome w)).refusal =
    ap (λ (x : Outcome). x.refusal) e in
    omega arith))

module _ (f : SpiFlash) (array : List ℕ) (r : Refusal) (p m : List ℕ) where
  abbrev as_was : List ℕ → Outcome
  as_was page = record { refusal = code_of r; answer = 0; board = board f.chip page m }

  pub select_stays : (on : Bool) → as_was p ≡ selected (board f.chip f.page array) on
      → as_was f.page ≡ selected (board f.chip f.page array) on
  unfolding selected
  select_stays on e =
      ap as_was (ap (λ (b : Board). b.page) (refused_board (good_size (length array)) 0
      (select_board (board f.chip f.page array) on) (board f.chip f.page array) r (as_was p) refl e)) ∙ e

  pub transfer_stays : (b : ℕ) → as_was p ≡ transferred (board f.chip f.page array) b
      → as_was f.page ≡ transferred (board f.chip f.page array) b
  unfolding transferred
  transfer_stays b e =
      let w = board f.chip f.page array in
      ap as_was (ap (λ (x : Board). x.page) (refused_board (good_size (length array)) (replied w)
      (sent_board w b) w r (as_was p) refl e)) ∙ e
