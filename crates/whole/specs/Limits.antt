-- The times and turbos that are accepted, and the refusals 1 and 2 of the others. A float `fin s m e` is m * 2 ^ e,
-- negative where s is true, and 2 ^ e is up e / down e.
use Rattle.std.specs.Prelude.{ℕ, ◌*◌, Bool, true, false, cond, ◌&&◌, from_bits, nat_le, Float, Option, Some, None}
use Rattle.std.specs.Float.{nan, inf, fin, binary64}
use Rattle.std.specs.Float.Ieee.{up, down}
use Rattle.map.specs.Numbers.{DONE, BAD_TIME, BAD_TURBO}

-- no infinity, and a number
abbrev pub finite : Float → Bool
finite nan = false
finite (inf s) = false
finite (fin s m e) = true

-- finite, the sign bit clear, and at most n
abbrev pub up_to : ℕ → Float → Bool
up_to n nan = false
up_to n (inf s) = false
up_to n (fin true m e) = false
up_to n (fin false m e) = nat_le (m * up e) (n * down e)

-- finite, the sign bit clear, and at least 1 / n
abbrev pub down_to : ℕ → Float → Bool
down_to n nan = false
down_to n (inf s) = false
down_to n (fin true m e) = false
down_to n (fin false m e) = nat_le (down e) (m * up e * n)

abbrev pub good_time : Float → Bool
good_time x = up_to 2097152 x

-- game time, which turbo may carry past the limit of now
abbrev pub good_game : Float → Bool
good_game x = up_to 2147483648 x

abbrev pub good_turbo : Float → Bool
good_turbo x = down_to 1024 x && up_to 1024 x

-- a float that is given, where it is good
abbrev pub given_of : Bool → Float → Option Float
given_of good x = cond good (Some x) None

-- a float from its bits, where it is good
abbrev pub checked_of : Bool → ℕ → Option Float
checked_of good bits = given_of good (from_bits binary64 bits)

abbrev pub time_of : ℕ → Option Float
time_of bits = checked_of (good_time (from_bits binary64 bits)) bits

abbrev pub turbo_of : ℕ → Option Float
turbo_of bits = checked_of (good_turbo (from_bits binary64 bits)) bits

-- the numbers of the refusals
abbrev pub refusal_of : ℕ → Option Float → ℕ
refusal_of n (Some x) = DONE
refusal_of n None = n

abbrev pub time_refusal : Option Float → ℕ
time_refusal c = refusal_of BAD_TIME c

abbrev pub turbo_refusal : Option Float → ℕ
turbo_refusal c = refusal_of BAD_TURBO c
