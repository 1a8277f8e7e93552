-- The W25Q64FV data sheet (SPI mode), from its facts alone: nothing here looks at document 000 or at the chip's code.
-- An instruction is the list of bytes that go in between the falling and the rising edge of /CS, its code first. It
-- finds the chip idle: powered up and not busy. The array's length is the part's size, so that the parts of one family
-- share this page.
use Rattle.std.specs.Prelude.{ℕ, ◌+◌, ◌-◌, ◌*◌, ◌%◌, Bool, true, false, List, [], ◌∷◌, ◌++◌, length, take, drop}
use Rattle.std.specs.Prelude.{replicate, ◌==◌, bit_and, nat_le, nat_lt, slice_index, slice_set}
use Rattle.flash.specs.Pick.{pick, either, both}

-- what one unit has of its own
pub record Part : Type 0 where
  pub identity : List ℕ
  pub device : ℕ
  pub unique : List ℕ
  pub second : ℕ

-- the array and the write enable latch
pub record State : Type 0 where
  pub array : List ℕ
  pub wel : Bool

-- ---- Instruction Set tables
pub data Answer : Type 0 where
  status_register1 : Answer
  status_register2 : Answer
  memory : Answer
  jedec_id : Answer
  manufacturer_device : Answer
  device_id : Answer
  unique_id : Answer

pub data Instruction : Type 0 where
  write_enable : Instruction
  write_disable : Instruction
  -- answers, once so many bytes are in: the code, the address, the dummies
  answering : ℕ → Answer → Instruction
  page_program : Instruction
  -- of an aligned block of so many bytes
  erase : ℕ → Instruction
  chip_erase : Instruction
  -- the sheet has this code, and this page does not describe it
  undescribed : Instruction
  -- the sheet has no such code
  no_instruction : Instruction

pub record Row : Type 0 where
  pub code : ℕ
  pub does : Instruction

abbrev row : ℕ → Instruction → Row
row c d = record { code = c; does = d }

unfoldable pub table : List Row
table =
    -- Write Enable
    row 0x06 write_enable
    -- Write Disable
    ∷ row 0x04 write_disable
    -- Read Status Register-1
    ∷ row 0x05 (answering 1 status_register1)
    -- Read Status Register-2
    ∷ row 0x35 (answering 1 status_register2)
    -- Read Data: 3 address
    ∷ row 0x03 (answering 4 memory)
    -- Fast Read: 3 address, 1 dummy
    ∷ row 0x0B (answering 5 memory)
    -- Page Program: 3 address, 1 to 256 data
    ∷ row 0x02 page_program
    -- Sector Erase, Block Erase: 3 address
    ∷ row 0x20 (erase 0x1000)
    ∷ row 0x52 (erase 0x8000)
    ∷ row 0xD8 (erase 0x10000)
    -- Chip Erase
    ∷ row 0xC7 chip_erase
    ∷ row 0x60 chip_erase
    -- Read JEDEC ID
    ∷ row 0x9F (answering 1 jedec_id)
    -- Read Manufacturer / Device ID: 3 address
    ∷ row 0x90 (answering 4 manufacturer_device)
    -- Release Power-down / Device ID: 3 dummy
    ∷ row 0xAB (answering 4 device_id)
    -- Read Unique ID: 4 dummy
    ∷ row 0x4B (answering 5 unique_id)
    ∷ []

-- the sheet's other codes: status and security registers, power, suspend, reset, and the dual and quad lines
unfoldable pub others : List ℕ
others =
    -- Write Status Register; Write Enable for Volatile Status Register
    0x01 ∷ 0x50
    -- Quad Page Program; Erase / Program Suspend, Resume; Power-down
    ∷ 0x32 ∷ 0x75 ∷ 0x7A ∷ 0xB9
    -- Fast Read Dual Output, Quad Output, Dual I/O, Quad I/O; Word Read, Octal Word Read Quad I/O
    ∷ 0x3B ∷ 0x6B ∷ 0xBB ∷ 0xEB ∷ 0xE7 ∷ 0xE3
    -- Set Burst with Wrap; Manufacturer / Device ID by Dual, Quad I/O
    ∷ 0x77 ∷ 0x92 ∷ 0x94
    -- Read SFDP; Program, Erase, Read Security Registers
    ∷ 0x5A ∷ 0x42 ∷ 0x44 ∷ 0x48
    -- Enter QPI; Enable Reset, Reset; Continuous Read Mode Reset
    ∷ 0x38 ∷ 0x66 ∷ 0x99 ∷ 0xFF
    ∷ []

abbrev pub member : ℕ → List ℕ → Bool
member c [] = false
member c (x ∷ xs) = either (c == x) (member c xs)

abbrev pub lookup : ℕ → List Row → Instruction → Instruction
lookup c [] d = d
lookup c (r ∷ rs) d = pick (c == r.code) r.does (lookup c rs d)

unfoldable pub instruction : ℕ → Instruction
instruction c = lookup c table (pick (member c others) undescribed no_instruction)

-- ---- what the chip drives on DO
pub data Says : Type 0 where
  drives : ℕ → Says
  -- DO is not driven, or the sheet does not say: at the code, the address and the dummies, past the end of what is
  -- asked for
  unsaid : Says

abbrev pub nth : List ℕ → ℕ → Says
nth l j = pick (nat_lt j (length l)) (drives (slice_index l j)) unsaid

abbrev pub code : List ℕ → ℕ
code bs = slice_index bs 0

-- A23 to A0, most significant byte first; bits above the part's size have no effect
abbrev pub address : List ℕ → ℕ → ℕ
address bs n = (slice_index bs 1 * 65536 + slice_index bs 2 * 256 + slice_index bs 3) % n

-- the jth byte of an answer, from 0
abbrev pub answer : Answer → Part → State → List ℕ → ℕ → Says
-- BUSY is bit 0 and is 0, WEL is bit 1, and nothing is protected
answer status_register1 p s bs j = drives (pick s.wel 2 0)
answer status_register2 p s bs j = drives p.second
-- the byte at the address, then each next address
answer memory p s bs j = nth s.array (address bs (length s.array) + j)
answer jedec_id p s bs j = nth p.identity j
-- from address 0 the maker and the device by turns, from address 1 the device and the maker
answer manufacturer_device p s bs j =
    pick (nat_lt (address bs (length s.array)) 2)
    (drives (pick ((address bs (length s.array) + j) % 2 == 0) 0xEF p.device)) unsaid
answer device_id p s bs j = drives p.device
answer unique_id p s bs j = nth p.unique j

abbrev pub reply_of : Instruction → Part → State → List ℕ → ℕ → Says
reply_of write_enable p s bs i = unsaid
reply_of write_disable p s bs i = unsaid
reply_of (answering h a) p s bs i = pick (nat_lt i h) unsaid (answer a p s bs (i - h))
reply_of page_program p s bs i = unsaid
reply_of (erase k) p s bs i = unsaid
reply_of chip_erase p s bs i = unsaid
reply_of undescribed p s bs i = unsaid
reply_of no_instruction p s bs i = unsaid

-- what DO shows while byte i goes in, from 0
abbrev pub reply : Part → State → List ℕ → ℕ → Says
reply p s bs i = reply_of (instruction (code bs)) p s bs i

-- ---- what is left once /CS has risen, and a program or an erase is complete
pub data After : Type 0 where
  leaves : State → After
  -- the sheet does not say
  not_said : After
  -- the sheet says it, and this page does not
  not_here : After

-- the page buffer: all ones, and each data byte stored at the column, which goes round within the page
abbrev pub latched : List ℕ → ℕ → List ℕ → List ℕ
latched page column [] = page
latched page column (b ∷ bs) = latched (slice_set page column b) ((column + 1) % 256) bs

-- programming changes ones to zeros only
abbrev pub burnt : List ℕ → List ℕ → List ℕ
burnt [] ys = []
burnt (x ∷ xs) [] = x ∷ xs
burnt (x ∷ xs) (y ∷ ys) = bit_and x y ∷ burnt xs ys

unfoldable pub ones : List ℕ
ones = replicate 256 0xFF

abbrev pub array_after_program : List ℕ → ℕ → List ℕ → List ℕ
array_after_program m a bs =
    take (a - a % 256) m ++ (burnt (take 256 (drop (a - a % 256) m)) (latched ones (a % 256) bs)
    ++ drop (a - a % 256 + 256) m)

-- the aligned block of k bytes that holds the address
abbrev pub array_after_erase : List ℕ → ℕ → ℕ → List ℕ
array_after_erase m a k = take (a - a % k) m ++ (replicate k 0xFF ++ drop (a - a % k + k) m)

-- a program or an erase that is executed clears WEL; one that is not leaves all
abbrev pub executed : Bool → List ℕ → State → After
executed go m s = pick go (leaves (record { array = m; wel = false })) (leaves s)

abbrev pub after_of : Instruction → State → List ℕ → After
after_of write_enable s bs = pick (length bs == 1) (leaves (record { array = s.array; wel = true })) not_said
after_of write_disable s bs = pick (length bs == 1) (leaves (record { array = s.array; wel = false })) not_said
after_of (answering h a) s bs = leaves s
after_of page_program s bs =
    executed (both s.wel (nat_le 5 (length bs)))
    (array_after_program s.array (address bs (length s.array)) (drop 4 bs)) s
after_of (erase k) s bs =
    executed (both s.wel (length bs == 4)) (array_after_erase s.array (address bs (length s.array)) k) s
after_of chip_erase s bs = executed (both s.wel (length bs == 1)) (replicate (length s.array) 0xFF) s
after_of undescribed s bs = not_here
after_of no_instruction s bs = not_said

abbrev pub afterwards : State → List ℕ → After
afterwards s bs = after_of (instruction (code bs)) s bs

-- ---- the part: the unique number and the second status register are a unit's own
abbrev pub w25q64 : List ℕ → ℕ → Part
w25q64 own r = record { identity = 0xEF ∷ 0x40 ∷ 0x17 ∷ []; device = 0x16; unique = own; second = r }
