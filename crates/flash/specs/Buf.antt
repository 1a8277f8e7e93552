-- `flash.buf`, compact: the first bytes of a transaction, its position, and the running AND of the page that it
-- programs.
use Rattle.std.specs.Prelude.{ℕ, ◌+◌, ◌-◌, ◌*◌, ◌%◌, false, List, replicate, ◌==◌, bit_and, nat_le, nat_lt}
use Rattle.std.specs.Prelude.{slice_index, slice_set}
use Rattle.flash.specs.Pick.{pick, either}
use Rattle.flash.specs.declared.Trans.{Trans}

-- the page's running AND over no byte
unfoldable pub blank : List ℕ
blank = replicate 256 0xFF

abbrev pub fresh : Trans
fresh = record { cmd = 0; a1 = 0; a2 = 0; a3 = 0; pos = 0; long = false }

-- exact up to 5, and then round through n positions: 5 to n + 4
abbrev pub next_pos : ℕ → ℕ → ℕ
next_pos n p = pick (nat_le (4 + n) p) 5 (p + 1)

-- where in the page the next byte goes, once the header is in
abbrev pub slot : Trans → ℕ
slot t = (t.a3 + (t.pos - 4) % 256) % 256

-- the page's running AND with the next byte
unfoldable pub gathered : Trans → List ℕ → ℕ → List ℕ
gathered t p b = pick (nat_lt t.pos 4) p (slice_set p (slot t) (bit_and (slice_index p (slot t)) b))

-- the next byte goes to its place in the header, if it is one of the first four; `long` marks a transaction of more
-- than 260 bytes, the header and 256 of data, for good
abbrev pub pushed : Trans → ℕ → ℕ → Trans
pushed t n b =
    record {
      cmd = pick (t.pos == 0) b t.cmd;
      a1 = pick (t.pos == 1) b t.a1;
      a2 = pick (t.pos == 2) b t.a2;
      a3 = pick (t.pos == 3) b t.a3;
      pos = next_pos n t.pos;
      long = either t.long (nat_le 260 t.pos);
    }

-- flash_addr
abbrev pub addr_of : Trans → ℕ → ℕ
addr_of t n = (t.a1 * 65536 + t.a2 * 256 + t.a3) % n
