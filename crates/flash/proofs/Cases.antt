-- The two branches of each step: an array of a good size, and a refusal.
use Rattle.std.proofs.Common.{◌≡◌, ℕ, Bool, true, false, length}
use Rattle.flash.specs.Board.{Board, good_size, refused_outcome, accepted_outcome}
use Rattle.flash.specs.Flash.{selected, select_board, transferred, replied, sent_board}

pub select_done : (w : Board) (on : Bool) → good_size (length w.array) ≡ true
    → selected w on ≡ accepted_outcome 0 (select_board w on)
unfolding selected
select_done w on e = rw e

pub select_refused : (w : Board) (on : Bool) → good_size (length w.array) ≡ false → selected w on ≡ refused_outcome w
unfolding selected
select_refused w on e = rw e

pub transfer_done : (w : Board) (b : ℕ) → good_size (length w.array) ≡ true
    → transferred w b ≡ accepted_outcome (replied w) (sent_board w b)
unfolding transferred
transfer_done w b e = rw e

pub transfer_refused : (w : Board) (b : ℕ) → good_size (length w.array) ≡ false → transferred w b ≡ refused_outcome w
unfolding transferred
transfer_refused w b e = rw e
