-- The chip beside the whole list of a transaction's bytes: what the proofs need between specs/Rust.antt, which keeps
-- that list, and specs/Flash.antt, which keeps its first bytes, a position and a page. Nothing stated rests on it.
use Rattle.std.proofs.Common.{ℕ, ◌+◌, ◌-◌, ◌%◌, true, false, ltb, List, [], ◌∷◌, ◌++◌, length, get_or, drop, set}
use lib.Bits.{bit_and}
use Rattle.flash.specs.Pick.{pick}
use Rattle.flash.specs.Board.{Board, board}
use Rattle.flash.specs.Buf.{blank}
use Rattle.flash.specs.Xfer.{answer_of}
use Rattle.flash.specs.Flash.{select_board, sent_board}
use Rattle.flash.specs.Steps.{Step, cs, byte}
use Rattle.flash.specs.Rust.{Sys}
use Rattle.flash.specs.declared.Mode.{Mode}
use Rattle.flash.specs.declared.Trans.{Trans}
use Rattle.flash.specs.declared.Chip.{Chip}

-- ---- the transaction of a list of bytes
abbrev pub at : List ℕ → ℕ → ℕ
at b k = get_or b k 0

-- at a position
abbrev pub trans_at : List ℕ → ℕ → Trans
trans_at b p = record { cmd = at b 0; a1 = at b 1; a2 = at b 2; a3 = at b 3; pos = p; long = ltb 260 (length b) }

-- the position that stands for a length: exact through the header, then going round through n
abbrev pub place : ℕ → ℕ → ℕ
place n k = pick (ltb k 5) k (5 + (k - 5) % n)

-- as the Rust counts, and as the chip does over n bytes
abbrev pub exact_trans : List ℕ → Trans
exact_trans b = trans_at b (length b)

abbrev pub rounded_trans : ℕ → List ℕ → Trans
rounded_trans n b = trans_at b (place n (length b))

-- the page's running AND over the bytes, going round within the page
abbrev pub ands_from : List ℕ → ℕ → List ℕ → List ℕ
ands_from p off [] = p
ands_from p off (b ∷ bs) = ands_from (set p off (bit_and (get_or p off 0) b)) ((off + 1) % 256) bs

abbrev pub page_of : List ℕ → List ℕ
page_of b = ands_from blank (at b 3 % 256) (drop 4 b)

-- ---- runs of the chip, with the list that the Rust would have
-- the chip in a mode that has what the Rust has
abbrev chip_of : Mode → Sys → Chip
chip_of e s =
    record {
      mode = e;
      cs = s.cs;
      wel = s.wel;
      writes = s.writes;
      rx = s.rx;
      tx = rounded_trans (length s.ram) s.buf;
    }

abbrev pub compact_board : Mode → Sys → Board
compact_board e s = board (chip_of e s) (page_of s.buf) s.ram

abbrev sys_of : Board → List ℕ → Sys
sys_of w b =
    record { cs = w.chip.cs; buf = b; rx = w.chip.rx; wel = w.chip.wel; writes = w.chip.writes; ram = w.array }

abbrev pub list_after : Mode → Sys → Step → Sys
list_after e s (cs true) = sys_of (select_board (compact_board e s) true) (pick s.cs s.buf [])
list_after e s (cs false) = sys_of (select_board (compact_board e s) false) s.buf
list_after e s (byte b) = sys_of (sent_board (compact_board e s) b) (s.buf ++ (b ∷ []))

abbrev pub list_run : Mode → Sys → List Step → Sys
list_run e s [] = s
list_run e s (x ∷ xs) = list_run e (list_after e s x) xs

abbrev pub list_answer : Mode → Sys → Step → List ℕ
list_answer e s (cs on) = []
list_answer e s (byte b) = answer_of e s.wel (exact_trans s.buf) s.ram ∷ []

abbrev pub list_answers : Mode → Sys → List Step → List ℕ
list_answers e s [] = []
list_answers e s (x ∷ xs) = list_answer e s x ++ list_answers e (list_after e s x) xs
