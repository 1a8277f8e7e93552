-- The lines that the keys drive. key_pin: A 0x15, B 0x16, C 0x17, port * 16 + bit; so all are at port 1, and of the
-- Rust's eight ports no other is ever wanted or applied. The word of port 1 stands at 0x20 of the GPIO memory.
use Rattle.std.specs.Prelude.{ℕ, ◌-◌, Bool, cond, List, eqb}
use Rattle.std.specs.Int.Bits.{bit_and, bit_or}
use Rattle.memory.specs.Bytes.{loaded, stored_at}
use Rattle.keys.specs.declared.Held.{Held}

-- bits 5, 6 and 7
unfoldable pub wanted : Held → ℕ
wanted h = bit_or (bit_or (cond h.a 0x20 0) (cond h.b 0x40 0)) (cond h.c 0x80 0)

-- (val & !gpio_applied[port]) | want[port]
unfoldable pub driven : ℕ → ℕ → ℕ → ℕ
driven word applied want = bit_or (bit_and word (0xFFFFFFFF - applied)) want

-- the GPIO memory, and what is applied
pub record Lines : Type 0 where
  pub gpio : List ℕ
  pub applied : ℕ

abbrev pub lines : List ℕ → ℕ → Lines
lines gpio applied = record { gpio = gpio; applied = applied }

-- only where what is wanted changed
unfoldable pub sync_of : List ℕ → ℕ → Held → Lines
sync_of gpio applied h =
    cond (eqb (wanted h) applied) (lines gpio applied)
    (lines (stored_at gpio 0x20 4 (driven (loaded gpio 0x20 4) applied (wanted h))) (wanted h))

-- a line once it is driven: up where it is wanted, down where it was applied and is wanted no more, else as it was
abbrev pub line_of : Bool → ℕ → ℕ → ℕ
line_of want applied old = cond want 1 (cond (eqb applied 1) 0 old)
