-- flash_select and flash_xfer on the compact state: the definition that the contracts cite.
use Rattle.std.specs.Prelude.{ℕ, Bool, true, false, length}
use Rattle.flash.specs.Pick.{pick}
use Rattle.flash.specs.declared.Mode.{Mode}
use Rattle.flash.specs.declared.Act.{Act}
use Rattle.flash.specs.declared.Chip.{Chip}
use Rattle.flash.specs.declared.SpiFlash.{SpiFlash}
use Rattle.flash.specs.Board.{Board, Outcome, board, chip_with_page, with_cs, with_rx, with_tx, good_size}
use Rattle.flash.specs.Board.{refused_outcome, accepted_outcome}
use Rattle.flash.specs.Buf.{blank, fresh, gathered, pushed}
use Rattle.flash.specs.Xfer.{answer_of}
use Rattle.flash.specs.Finish.{act_of, array_after, state_after}

-- selected, with a transaction of no bytes
abbrev pub transaction_begun : Chip → Chip
transaction_begun s = with_tx (with_cs s true) fresh

-- the act of a deselect
abbrev pub deselect_act : Chip → Act
deselect_act s = act_of s.mode s.wel s.tx

-- a select begins a transaction only where the chip is not selected; a deselect acts only where it is
abbrev pub select_board : Board → Bool → Board
select_board w true = pick w.chip.cs w (board (transaction_begun w.chip) blank w.array)
select_board w false =
    pick w.chip.cs
    (board (with_cs (state_after (deselect_act w.chip) w.chip) false) w.page
    (array_after (deselect_act w.chip) w.chip.tx w.page w.array))
    w

-- what the next byte is answered
abbrev pub replied : Board → ℕ
replied w = answer_of w.chip.mode w.chip.wel w.chip.tx w.array

-- a byte counts and is answered whether the chip is selected or not
abbrev pub sent_chip : Board → ℕ → Chip
sent_chip w b = with_rx (with_tx w.chip (pushed w.chip.tx (length w.array) b)) (replied w)

abbrev pub sent_board : Board → ℕ → Board
sent_board w b = board (sent_chip w b) (gathered w.chip.tx w.page b) w.array

-- ---- the two steps
unfoldable pub selected : Board → Bool → Outcome
selected w on = pick (good_size (length w.array)) (accepted_outcome 0 (select_board w on)) (refused_outcome w)

unfoldable pub transferred : Board → ℕ → Outcome
transferred w b = pick (good_size (length w.array)) (accepted_outcome (replied w) (sent_board w b)) (refused_outcome w)

-- ---- a chip as it is made
abbrev pub made_in : Mode → SpiFlash
made_in m = chip_with_page (record { mode = m; cs = false; wel = false; writes = 0; rx = 0; tx = fresh }) blank
