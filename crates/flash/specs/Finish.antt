-- flash_finish: what a deselect does.
use Rattle.std.specs.Prelude.{ℕ, ◌+◌, ◌-◌, ◌%◌, ◌^◌, Bool, true, false, not, List, [], ◌∷◌, ◌++◌, length, take}
use Rattle.std.specs.Prelude.{drop, replicate, ◌==◌, bit_and, nat_le, nat_lt}
use Rattle.flash.specs.Pick.{pick, either, both}
use Rattle.flash.specs.declared.Mode.{Mode}
use Rattle.flash.specs.declared.Act.{Act}
use Rattle.flash.specs.declared.Act.TheVariants.{Nothing, Enable, Disable, Program, Erase, EraseAll}
use Rattle.flash.specs.declared.Block.{Block}
use Rattle.flash.specs.declared.Block.TheVariants.{Sector, Half, Full}
use Rattle.flash.specs.declared.Trans.{Trans}
use Rattle.flash.specs.declared.Chip.{Chip}
use Rattle.flash.specs.Board.{is_strict, with_enable}
use Rattle.flash.specs.Buf.{addr_of}

-- each byte ANDed with the byte at its place in the mask
abbrev pub ands : List ℕ → List ℕ → List ℕ
ands [] ms = []
ands (x ∷ xs) [] = bit_and x 0 ∷ ands xs []
ands (x ∷ xs) (m ∷ ms) = bit_and x m ∷ ands xs ms

-- the list with the part put in for so many elements from the start on
abbrev pub patch : List ℕ → ℕ → ℕ → List ℕ → List ℕ
patch m start size part = take start m ++ (part ++ drop (start + size) m)

abbrev pub block_size : Block → ℕ
block_size Sector = 0x1000
block_size Half = 0x8000
block_size Full = 0x10000

-- what the first byte orders
abbrev pub order_of : ℕ → Act
order_of c =
    pick (c == 0x06) Enable
    (pick (c == 0x04) Disable
    (pick (c == 0x02) Program
    (pick (c == 0x20) (Erase Sector)
    (pick (c == 0x52) (Erase Half)
    (pick (c == 0xD8) (Erase Full)
    (pick (c == 0xC7) EraseAll (pick (c == 0x60) EraseAll Nothing)))))))

-- strict mode asks for more
abbrev pub exactly : Mode → Bool → Bool
exactly e b = either (not (is_strict e)) b

-- the guards of sys.rs's match, with t.pos for buf.len(), and what strict mode asks for besides
abbrev pub guard_of : Act → Mode → Bool → Trans → Bool
guard_of Nothing e w t = true
guard_of Enable e w t = true
guard_of Disable e w t = true
-- write enable and a byte of data, in strict mode no more than 256
guard_of Program e w t = both (both w (nat_lt 4 t.pos)) (exactly e (not t.long))
-- write enable and the address, in strict mode nothing after it
guard_of (Erase b) e w t = both (both w (nat_le 4 t.pos)) (exactly e (t.pos == 4))
-- write enable, in strict mode the one byte alone
guard_of EraseAll e w t = both w (exactly e (t.pos == 1))

-- nothing where no byte has come; else what the first one orders, where its guard holds
unfoldable pub act_of : Mode → Bool → Trans → Act
act_of e w t = pick (t.pos == 0) Nothing (pick (guard_of (order_of t.cmd) e w t) (order_of t.cmd) Nothing)

-- the start of the part of so many bytes that the address lies in
abbrev pub start_of : Trans → ℕ → ℕ → ℕ
start_of t n size = addr_of t n - addr_of t n % size

-- p is the page's running AND: a program changes its page, an erase its block, and nothing else
abbrev pub array_after : Act → Trans → List ℕ → List ℕ → List ℕ
array_after Nothing t p m = m
array_after Enable t p m = m
array_after Disable t p m = m
array_after Program t p m =
    patch m (start_of t (length m) 256) 256 (ands (take 256 (drop (start_of t (length m) 256) m)) p)
array_after (Erase b) t p m = patch m (start_of t (length m) (block_size b)) (block_size b)
    (replicate (block_size b) 0xFF)
array_after EraseAll t p m = replicate (length m) 0xFF

-- every act but nothing sets or clears write enable
abbrev pub wel_after : Act → Bool → Bool
wel_after Nothing w = w
wel_after Enable w = true
wel_after Disable w = false
wel_after Program w = false
wel_after (Erase b) w = false
wel_after EraseAll w = false

-- writes go round from 2^64 - 1 to 0; a chip erase does not count
abbrev pub writes_after : Act → ℕ → ℕ
writes_after Nothing n = n
writes_after Enable n = n
writes_after Disable n = n
writes_after Program n = (n + 1) % 2 ^ 64
writes_after (Erase b) n = (n + 1) % 2 ^ 64
writes_after EraseAll n = n

abbrev pub state_after : Act → Chip → Chip
state_after a s = with_enable s (wel_after a s.wel) (writes_after a s.writes)
