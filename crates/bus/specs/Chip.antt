-- The flash over the first 8 MiB of RAM, behind its select and transfer words: flash_select, flash_xfer.
use Rattle.std.specs.Prelude.{ℕ, ◌%◌, Bool, cond, List, ◌++◌, take, drop, ltb}
use Rattle.map.specs.Numbers.{FLASH_SIZE, SPIFC_SELECT, SPIFC_SEND}
use Rattle.whole.specs.Words.{has}
use Rattle.registers.specs.Words.{own_with}
use Rattle.flash.specs.declared.Chip.{Chip}
use Rattle.flash.specs.Board.{Board, board}
use Rattle.flash.specs.Flash.{selected, transferred}

-- how many bytes of a memory are the flash's
unfoldable pub part_of : ℕ → ℕ
part_of n = cond (ltb n FLASH_SIZE) n FLASH_SIZE

-- the chip, the page's running AND and all of RAM
pub record Chipped : Type 0 where
  pub chip : Chip
  pub page : List ℕ
  pub ram : List ℕ

abbrev pub chipped : Chip → List ℕ → List ℕ → Chipped
chipped c page ram = record { chip = c; page = page; ram = ram }

-- the chip on its board, whose array is the first 8 MiB of RAM
abbrev pub board_of : Chip → List ℕ → List ℕ → Board
board_of c page ram = board c page (take FLASH_SIZE ram)

-- a board's outcome, in RAM
abbrev pub in_ram : Board → List ℕ → Chipped
in_ram b ram = chipped b.chip b.page (b.array ++ drop FLASH_SIZE ram)

unfoldable pub selected_over : Chip → List ℕ → List ℕ → Bool → Chipped
selected_over c page ram on = in_ram (selected (board_of c page ram) on).board ram

-- a transfer stores nothing
unfoldable pub sent_over : Chip → List ℕ → List ℕ → ℕ → Chipped
sent_over c page ram b = in_ram (transferred (board_of c page ram) b).board ram

pub record Flashed : Type 0 where
  pub slots : List ℕ
  pub left : Chipped

abbrev pub flashed : List ℕ → Chipped → Flashed
flashed slots c = record { slots = slots; left = c }

-- bit 6 selects
unfoldable pub select_written : List ℕ → Chip → List ℕ → List ℕ → ℕ → Flashed
select_written slots c page ram new = flashed (own_with slots SPIFC_SELECT new)
    (selected_over c page ram (has new 0x40))

-- the low byte is sent
unfoldable pub send_written : List ℕ → Chip → List ℕ → List ℕ → ℕ → Flashed
send_written slots c page ram new = flashed (own_with slots SPIFC_SEND new) (sent_over c page ram (new % 256))
