-- What is printed, as bytes.
use Rattle.std.specs.Prelude.{ℕ, zero, suc, ◌+◌, ◌/◌, ◌%◌, Bool, true, false, List, [], ◌∷◌, ◌++◌}
use Rattle.std.specs.Prelude.{◌==◌, nat_lt}
use Rattle.io.specs.Digits.{hex_digit_ascii}
use Rattle.flash.specs.Pick.{pick}
use Rattle.steps.specs.declared.Output.{Output}
use Rattle.steps.specs.declared.Output.TheVariants.{Nothing, Answer, Bad}

-- the decimal digits of a number that has at most k
unfoldable pub decimal_in : ℕ → ℕ → List ℕ
decimal_in zero n = []
decimal_in (suc k) n = pick (nat_lt n 10) (hex_digit_ascii n ∷ [])
    (decimal_in k (n / 10) ++ (hex_digit_ascii (n % 10) ∷ []))

-- a u64 has at most 20
abbrev pub decimal : ℕ → List ℕ
decimal n = decimal_in 20 n

-- a space and the number
abbrev pub field : ℕ → List ℕ
field n = 32 ∷ decimal n

-- a byte in two hex digits, on a line
abbrev pub hex_line : ℕ → List ℕ
hex_line b = hex_digit_ascii (b / 16) ∷ hex_digit_ascii (b % 16) ∷ 10 ∷ []

-- `bad` and the line's number
unfoldable pub bad_line : ℕ → List ℕ
bad_line n = 98 ∷ 97 ∷ 100 ∷ (field n ++ (10 ∷ []))

abbrev pub text_of : Output → List ℕ
text_of Nothing = []
text_of (Answer b) = hex_line b
text_of (Bad n) = bad_line n

-- how many bytes are not FF
unfoldable pub count_programmed : List ℕ → ℕ
count_programmed [] = 0
count_programmed (b ∷ bs) = pick (b == 255) 0 1 + count_programmed bs

abbrev pub flag : Bool → ℕ
flag true = 1
flag false = 0

-- `end`, write enable, writes, and the bytes that are not FF
unfoldable pub last_line : Bool → ℕ → List ℕ → List ℕ
last_line wel writes array =
    101 ∷ 110 ∷ 100 ∷ (field (flag wel) ++ (field writes ++ (field (count_programmed array) ++ (10 ∷ []))))
