-- The match of flash_xfer: what the next byte is answered.
use Rattle.std.specs.Prelude.{ℕ, ◌+◌, ◌-◌, ◌%◌, Bool, List, length, ◌==◌, nat_lt, slice_index}
use Rattle.flash.specs.Pick.{pick, both}
use Rattle.flash.specs.declared.Mode.{Mode}
use Rattle.flash.specs.declared.Kind.{Kind}
use Rattle.flash.specs.declared.Kind.TheVariants.{Identity, Maker, Device, Status, Zero, Read, FastRead, Unique}
use Rattle.flash.specs.declared.Kind.TheVariants.{Other}
use Rattle.flash.specs.declared.Trans.{Trans}
use Rattle.flash.specs.Board.{is_strict}
use Rattle.flash.specs.Buf.{addr_of}

-- FLASH_JEDEC, and 0xFF after it
abbrev pub jedec : ℕ → ℕ
jedec i = pick (i == 1) 0xEF (pick (i == 2) 0x40 (pick (i == 3) 0x17 0xFF))

-- the maker's byte and the device's by turns; in strict mode an odd address begins with the device's
abbrev pub maker_of : Mode → ℕ → ℕ → ℕ
maker_of m a i =
    pick (both (is_strict m) (a % 2 == 1)) (pick ((i - 4) % 2 == 1) 0xEF 0x16)
    (pick ((i - 4) % 2 == 1) 0x16 0xEF)

-- the byte that is so far on from the address, going round
unfoldable pub read_of : Trans → ℕ → List ℕ → ℕ
read_of t far m = slice_index m ((addr_of t (length m) + far % length m) % length m)

-- what the first byte asks to be answered
unfoldable pub kind_of : ℕ → Kind
kind_of c =
    pick (c == 0x9F) Identity
    (pick (c == 0x90) Maker
    (pick (c == 0xAB) Device
    (pick (c == 0x05) Status
    (pick (c == 0x35) Zero
    (pick (c == 0x15) Zero (pick (c == 0x03) Read (pick (c == 0x0B) FastRead (pick (c == 0x4B) Unique Other))))))))

-- t.pos is the Rust's i: how many bytes came before
abbrev pub reply_to : Kind → Mode → Bool → Trans → List ℕ → ℕ
reply_to Identity e w t m = jedec t.pos
reply_to Maker e w t m = pick (nat_lt t.pos 4) 0xFF (maker_of e t.a3 t.pos)
reply_to Device e w t m = pick (nat_lt t.pos 4) 0xFF 0x16
reply_to Status e w t m = pick w 0x02 0
reply_to Zero e w t m = 0
reply_to Read e w t m = pick (nat_lt t.pos 4) 0xFF (read_of t (t.pos - 4) m)
reply_to FastRead e w t m = pick (nat_lt t.pos 5) 0xFF (read_of t (t.pos - 5) m)
reply_to Unique e w t m = pick (nat_lt t.pos 5) 0xFF 0x5A
reply_to Other e w t m = 0xFF

-- the first byte is answered 0xFF
unfoldable pub answer_of : Mode → Bool → Trans → List ℕ → ℕ
answer_of e w t m = pick (t.pos == 0) 0xFF (reply_to (kind_of t.cmd) e w t m)
