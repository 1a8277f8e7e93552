-- What a call of the flash can change, as one record; and which arrays are refused.
use Rattle.std.specs.Prelude.{◌≡◌, ℕ, ◌%◌, ◌^◌, ◌≤◌, Bool, true, false, List, ◌==◌, Result}
use Rattle.map.specs.Numbers.{FLASH_SIZE, DONE, BAD_MEMORY}
use Rattle.map.specs.declared.refusals.Refusal.{Refusal}
use Rattle.map.specs.Refusals.{number_of, value_or}
use Rattle.flash.specs.Pick.{either}
use Rattle.flash.specs.declared.Mode.{Mode}
use Rattle.flash.specs.declared.Mode.TheVariants.{Rust, Strict}
use Rattle.flash.specs.declared.Trans.{Trans}
use Rattle.flash.specs.declared.Chip.{Chip}
use Rattle.flash.specs.declared.SpiFlash.{SpiFlash}

-- the chip, the page's running AND that stands beside it, and the lent array
pub record Board : Type 0 where
  pub chip : Chip
  pub page : List ℕ
  pub array : List ℕ

-- 01's number for the answer, the answered byte, and the later board
pub record Outcome : Type 0 where
  pub refusal : ℕ
  pub answer : ℕ
  pub board : Board

-- what a step answers: 01's number, the answered byte, and the later chip
pub record Reply : Type 0 where
  pub refusal : ℕ
  pub answer : ℕ
  pub chip : Chip

-- of a select, which answers no byte, and of a transfer; where it refuses, the chip is the one that was given
abbrev pub selecting : Chip → Result Chip Refusal → Reply
selecting c r = record { refusal = number_of r; answer = 0; chip = value_or r c }

abbrev pub transferring : Chip → Result (ℕ × Chip) Refusal → Reply
transferring c r =
    record { refusal = number_of r; answer = (value_or r (0, c)).0; chip = (value_or r (0, c)).1 }

abbrev pub board : Chip → List ℕ → List ℕ → Board
board c p m = record { chip = c; page = p; array = m }

abbrev pub outcome : Reply → List ℕ → List ℕ → Outcome
outcome r p m = record { refusal = r.refusal; answer = r.answer; board = board r.chip p m }

-- the same of the answer by value
abbrev pub chip_with_page : Chip → List ℕ → SpiFlash
chip_with_page c p = record { chip = c; page = p }

pub record Served : Type 0 where
  pub refusal : ℕ
  pub answer : ℕ
  pub flash : SpiFlash

abbrev pub selecting_value : SpiFlash → Result SpiFlash Refusal → Served
selecting_value f r = record { refusal = number_of r; answer = 0; flash = value_or r f }

abbrev pub transferring_value : SpiFlash → Result (ℕ × SpiFlash) Refusal → Served
transferring_value f r =
    record { refusal = number_of r; answer = (value_or r (0, f)).0; flash = (value_or r (0, f)).1 }

abbrev pub served : Served → List ℕ → Outcome
served r m = record { refusal = r.refusal; answer = r.answer; board = board r.flash.chip r.flash.page m }

-- ---- the chip with a part of it changed
abbrev pub with_mode : Chip → Mode → Chip
with_mode c e = record { mode = e; cs = c.cs; wel = c.wel; writes = c.writes; rx = c.rx; tx = c.tx }

abbrev pub with_cs : Chip → Bool → Chip
with_cs c on = record { mode = c.mode; cs = on; wel = c.wel; writes = c.writes; rx = c.rx; tx = c.tx }

-- write enable, and the count of writes
abbrev pub with_enable : Chip → Bool → ℕ → Chip
with_enable c wel n = record { mode = c.mode; cs = c.cs; wel = wel; writes = n; rx = c.rx; tx = c.tx }

abbrev pub with_rx : Chip → ℕ → Chip
with_rx c r = record { mode = c.mode; cs = c.cs; wel = c.wel; writes = c.writes; rx = r; tx = c.tx }

abbrev pub with_tx : Chip → Trans → Chip
with_tx c t = record { mode = c.mode; cs = c.cs; wel = c.wel; writes = c.writes; rx = c.rx; tx = t }

-- ---- sizes
-- a power of two from 65,536 to 8,388,608
abbrev pub good_size : ℕ → Bool
good_size n =
    either (n == 0x1_0000)
    (either (n == 0x2_0000)
    (either (n == 0x4_0000)
    (either (n == 0x8_0000)
    (either (n == 0x10_0000) (either (n == 0x20_0000) (either (n == 0x40_0000) (n == 0x80_0000)))))))

-- in 01's words; `sizes` of proofs/Laws.antt says that it is the same
pub record Power (n : ℕ) : Type 0 where
  pub exponent : ℕ
  pub least : 16 ≤ exponent
  pub most : exponent ≤ 23
  pub power : n ≡ 2 ^ exponent

-- what the steps use of such a size
pub record Sized (n : ℕ) : Type 0 where
  pub whole : n % 0x1_0000 ≡ 0
  pub least : 0x1_0000 ≤ n
  pub most : n ≤ FLASH_SIZE

abbrev pub is_strict : Mode → Bool
is_strict Rust = false
is_strict Strict = true

-- a refusal: 01's number 7, the answer 0, and nothing changed
abbrev pub refused_outcome : Board → Outcome
refused_outcome w = record { refusal = BAD_MEMORY; answer = 0; board = w }

abbrev pub accepted_outcome : ℕ → Board → Outcome
accepted_outcome a w = record { refusal = DONE; answer = a; board = w }
