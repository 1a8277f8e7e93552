-- 01's rules for strict mode, in its words.
use Rattle.std.specs.Prelude.{◌≡◌, ℕ, ◌-◌, ◌%◌, ◌<◌, ◌≤◌, true, List, [], ◌∷◌, length, ◌==◌, ◌≢◌, slice_index}
use Rattle.flash.specs.Pick.{pick}
use Rattle.flash.specs.Board.{Board}
use Rattle.flash.specs.Run.{transaction}
use Rattle.flash.specs.Sheet.{member, code}
use Rattle.flash.specs.Departures.{state_of, answer_at}

-- the instruction changes neither the array nor write enable nor the write count
pub record Idles (w : Board) (bs : List ℕ) : Type 0 where
  pub ends : state_of (transaction w bs) ≡ state_of w
  pub writes : (transaction w bs).chip.writes ≡ w.chip.writes

-- what a chip in strict mode that is not selected does with an instruction
pub record Strictly (w : Board) : Type 0 where
  -- erases 0x20, 0x52, 0xD8 act only with exactly four bytes
  pub erases : (bs : List ℕ) → member (code bs) (0x20 ∷ 0x52 ∷ 0xD8 ∷ []) ≡ true → (length bs ≢ 4) → Idles w bs
  -- 0xC7 and 0x60 only with one
  pub wipes : (bs : List ℕ) → member (code bs) (0xC7 ∷ 0x60 ∷ []) ≡ true → (length bs ≢ 1) → Idles w bs
  -- 0x90 with address bit 0 set answers 0x16 first, and then by turns
  pub maker : (bs : List ℕ) (i : ℕ) → 4 ≤ i → i ≤ length bs → slice_index (0x90 ∷ bs) 3 % 2 ≡ 1
      → answer_at w (0x90 ∷ bs) i ≡ pick ((i - 4) % 2 == 1) 0xEF 0x16
  -- a program with more than 256 data bytes does nothing and keeps write enable
  pub programs : (bs : List ℕ) → code bs ≡ 0x02 → 260 < length bs → Idles w bs
