-- The time of day, as document 000 has it: tod, tod_read, tod_write.
use Rattle.std.specs.Prelude.{ℕ, ◌+◌, ◌-◌, ◌*◌, ◌/◌, ◌%◌, cond, ℤ, pos, negsuc, ◌==◌, from_bits, nat_lt, Float}
use Rattle.std.specs.Float.{binary64}
use Rattle.std.specs.Float.Ieee.{of_int, add, sub, to_signed}
use Rattle.clock.specs.declared.RtcIrq.{RtcIrq}

abbrev pub fresh_irq : RtcIrq
fresh_irq = record { fired = 0; base = 0; set = from_bits binary64 0 }

-- `rem_euclid`; negsuc n is -(n + 1)
abbrev pub rem_euclid : ℤ → ℕ → ℕ
rem_euclid (pos n) d = n % d
rem_euclid (negsuc n) d = d - 1 - n % d

-- (base as f64 + game - set) as i64
unfoldable pub tod_of : RtcIrq → Float → ℕ
tod_of irq game = rem_euclid (to_signed 63 (sub binary64 (add binary64 (of_int binary64 (pos irq.base)) game)
    irq.set)) 86400

-- seconds, minutes, hours of a time t of the day
unfoldable pub field_of : ℕ → ℕ → ℕ
field_of t field = cond (field == 0) (t % 60) (cond (field == 1) (t / 60 % 60) (t / 3600))

-- the three parts, one of them replaced, each brought within its range
abbrev pub composed : ℕ → ℕ → ℕ → ℕ
composed t field value =
    cond (nat_lt 1 field) value (t / 3600) % 24 * 3600 + cond (field == 1) value (t / 60 % 60) % 60 * 60 + cond
    (field == 0) value (t % 60) % 60

unfoldable pub set_of : RtcIrq → Float → ℕ → ℕ → RtcIrq
set_of irq game field value = record { fired = irq.fired; base = composed (tod_of irq game) field value; set = game }
