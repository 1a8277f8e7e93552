-- Where a chip departs from the data sheet, by the instruction's code and shape: the exact lists of the two modes.
use Rattle.std.specs.Prelude.{◌≡◌, ℕ, suc, ◌%◌, ◌≤◌, Bool, true, false, List, [], ◌∷◌, length, replicate, ◌==◌, ◌≢◌}
use Rattle.std.specs.Prelude.{nat_lt, slice_index}
use Rattle.flash.specs.Pick.{either, both}
use Rattle.flash.specs.Sheet.{Part, State, no_instruction, instruction, Says, drives, unsaid, After, leaves}
use Rattle.flash.specs.Sheet.{not_said, not_here, code, address, member, others, reply, afterwards, w25q64}
use Rattle.flash.specs.Steps.{cs, byte, sends}
use Rattle.flash.specs.Board.{Board, board, with_mode}
use Rattle.flash.specs.Run.{after_step, answers, transaction}
use Rattle.flash.specs.declared.Mode.{Mode}
use Rattle.flash.specs.declared.Mode.TheVariants.{Rust, Strict}

pub data Departure : Type 0 where
  -- a code of the sheet's that document 000 has no instruction for
  lacking : Departure
  -- an erase with bytes after its last: the sheet's is void, the Rust's erases
  trailing : Departure
  -- 0x90 from address 1: the sheet's answers the device first, the Rust's the maker
  device_first : Departure
  -- a program of more than 256 bytes: the sheet's last byte for each place counts, the Rust's AND of all that were sent
  -- to it; in strict mode nothing is done and write enable is kept (01, until W-205)
  overlong : Departure

-- the instructions that a departure is about, to a part of n bytes
abbrev pub shaped : Departure → ℕ → List ℕ → Bool
shaped lacking n bs = member (code bs) others
shaped trailing n bs =
    either (both (member (code bs) (0x20 ∷ 0x52 ∷ 0xD8 ∷ [])) (nat_lt 4 (length bs)))
    (both (member (code bs) (0xC7 ∷ 0x60 ∷ [])) (nat_lt 1 (length bs)))
shaped device_first n bs = both (code bs == 0x90) (both (address bs n == 1) (nat_lt 4 (length bs)))
shaped overlong n bs = both (code bs == 0x02) (nat_lt 260 (length bs))

abbrev pub listed : Mode → List Departure
listed Rust = lacking ∷ trailing ∷ device_first ∷ overlong ∷ []
listed Strict = lacking ∷ overlong ∷ []

abbrev pub any_of : List Departure → ℕ → List ℕ → Bool
any_of [] n bs = false
any_of (d ∷ ds) n bs = either (shaped d n bs) (any_of ds n bs)

abbrev pub departs : Mode → ℕ → List ℕ → Bool
departs e n bs = any_of (listed e) n bs

-- the instructions for which 01 names a rule of strict mode
abbrev pub named : List ℕ → Bool
named bs =
    either (both (member (code bs) (0x20 ∷ 0x52 ∷ 0xD8 ∷ [])) (nat_lt 4 (length bs)))
    (either (both (member (code bs) (0xC7 ∷ 0x60 ∷ [])) (nat_lt 1 (length bs)))
    (either (both (code bs == 0x90) (slice_index bs 3 % 2 == 1)) (both (code bs == 0x02) (nat_lt 260 (length bs)))))

-- ---- what it is to agree
abbrev pub Agrees : Says → ℕ → Type 0
Agrees (drives b) a = a ≡ b
Agrees unsaid a = Unit {0}

abbrev pub Left : After → State → Type 0
Left (leaves s) t = t ≡ s
Left not_said t = Unit {0}
Left not_here t = ⊥

abbrev pub state_of : Board → State
state_of w = record { array = w.array; wel = w.chip.wel }

-- document 000's unit: its number is all 0x5A, its second status register 0
abbrev pub unit : Part
unit = w25q64 (replicate 8 0x5A) 0

-- what the chip, not selected before, answers while byte i of an instruction goes in, from 0
abbrev pub answer_at : Board → List ℕ → ℕ → ℕ
answer_at w bs i = slice_index (answers (after_step w (cs true)) (sends bs)) i

-- the instruction, given to a chip that is not selected: each answer and what it leaves are the sheet's
pub record Conforms (w : Board) (bs : List ℕ) : Type 0 where
  pub replies : (i : ℕ) → suc i ≤ length bs → Agrees (reply unit (state_of w) bs i) (answer_at w bs i)
  pub ends : Left (afterwards (state_of w) bs) (state_of (transaction w bs))

-- ---- what is listed is a departure: a chip of that mode, not selected and with write enable given, does not conform
abbrev pub Never : Departure → Board → Type 0
Never d w = (bs : List ℕ) → shaped d (length w.array) bs ≡ true → Conforms w bs → ⊥

-- 257 bytes from address 0, the first 0x00 and the last 0xFF at one place
unfoldable pub twice : List ℕ
twice = 0 ∷ replicate 256 0xFF

abbrev pub Differs : Mode → Departure → Board → Type 0
Differs e lacking w = Never lacking w
Differs Rust trailing w = Never trailing w
Differs Rust device_first w = Never device_first w
-- where no place is sent two bytes that matter, the AND of all is the last: so not every such program differs, but this
-- one does
Differs Rust overlong w =
    (shaped overlong (length w.array) (0x02 ∷ 0 ∷ 0 ∷ 0 ∷ twice) ≡ true)
    × ((slice_index w.array 0 ≢ 0) → Conforms w (0x02 ∷ 0 ∷ 0 ∷ 0 ∷ twice) → ⊥)
Differs Strict overlong w = Never overlong w
-- not listed
Differs Strict trailing w = Unit {0}
Differs Strict device_first w = Unit {0}

-- ---- departures that no list by instruction holds; both modes have them
pub data Beyond : Type 0 where
  -- the sheet's program or erase takes time, BUSY is 1 and all but a status read is ignored; document 000's is done at
  -- once
  busy : Beyond
  -- while /CS is high the sheet's chip takes no input and DO floats; document 000's counts the byte and answers
  unselected : Beyond
  -- the sheet's 0x4B gives 64 bits of the unit's own; document 000's are all 0x5A, and it goes on after them
  unique_number : Beyond
  -- the sheet has no code 0x15; document 000 answers it with 0, again and again
  third_status : Beyond

-- what a chip that is not selected does there, whatever it was sent before
abbrev pub Shows : Beyond → Board → Type 0
-- right after any instruction the status register shows no BUSY
Shows busy w = (bs : List ℕ) → answer_at (transaction w bs) (0x05 ∷ 0 ∷ []) 1 % 2 ≡ 0
-- 0x9F, /CS up, and a byte more is answered 0xEF
Shows unselected w = answers w (cs true ∷ byte 0x9F ∷ cs false ∷ byte 0 ∷ []) ≡ 0xFF ∷ 0xEF ∷ []
Shows unique_number w = (bs : List ℕ) (i : ℕ) → 5 ≤ i → i ≤ length bs → answer_at w (0x4B ∷ bs) i ≡ 0x5A
Shows third_status w =
    (instruction 0x15 ≡ no_instruction) × ((bs : List ℕ) (i : ℕ) → 1 ≤ i → i ≤ length bs → answer_at w (0x15 ∷ bs) i
    ≡ 0)

-- ---- strict mode beside document 000's
-- the same board with its chip in a mode
abbrev pub in_mode : Mode → Board → Board
in_mode e w = board (with_mode w.chip e) w.page w.array

-- the strict chip does with the instruction what document 000's does
pub record StrictAsRust (w : Board) (bs : List ℕ) : Type 0 where
  pub replies : (i : ℕ) → suc i ≤ length bs → answer_at (in_mode Strict w) bs i ≡ answer_at (in_mode Rust w) bs i
  pub ends : state_of (transaction (in_mode Strict w) bs) ≡ state_of (transaction (in_mode Rust w) bs)
  pub writes : (transaction (in_mode Strict w) bs).chip.writes ≡ (transaction (in_mode Rust w) bs).chip.writes
