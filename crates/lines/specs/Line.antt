-- What a line of a list says, and the line that an answer is.
use Rattle.std.specs.Prelude.{◌≡◌, ℕ, zero, suc, ◌+◌, ◌-◌, ◌*◌, ◌%◌, ◌^◌, cond, List, [], ◌∷◌, ◌++◌, nat_le, nat_lt}
use Rattle.std.specs.Prelude.{slice_index, Option, Some, None}
use Rattle.io.specs.Digits.{last_digits}
use Rattle.lines.specs.declared.Step.{Step}
use Rattle.lines.specs.declared.Answer.{Answer}

-- the value of a lowercase hex digit: `0` to `9` are 48 to 57, `a` to `f` 97 to 102; any other byte counts as 0
unfoldable pub digit_of : ℕ → ℕ
digit_of b = cond (nat_lt b 48) 0 (cond (nat_le b 57) (b - 48) (cond (nat_lt b 97) 0 (cond (nat_le b 102) (b - 87) 0)))

-- the number that k digits of the line are, from a place on, the highest first
unfoldable pub number_at : List ℕ → ℕ → ℕ → ℕ
number_at line from zero = 0
number_at line from (suc k) = (number_at line from k * 16 + digit_of (slice_index line (from + k))) % 2 ^ 64

abbrev pub step_of : List ℕ → Step
step_of line = record { kind = number_at line 0 2; address = number_at line 3 8; value = number_at line 12 16 }

-- what a read of 29 bytes gives that gave only so many
abbrev pub input_of : ℕ → List ℕ → Option Step
input_of count line = cond (nat_lt count 29) None (Some (step_of line))

-- some read gives this
pub record Read (r : Option Step) : Type 0 where
  pub count : ℕ
  pub line : List ℕ
  pub stands : r ≡ input_of count line

abbrev pub answer : ℕ → ℕ → ℕ → ℕ → Answer
answer refusal a b c = record { refusal = refusal; a = a; b = b; c = c }

-- two digits and three times sixteen, a space (32) apart, and a newline (10)
unfoldable pub line_of : Answer → List ℕ
line_of r =
    last_digits 16 2 r.refusal
    ++ (32 ∷ (last_digits 16 16 r.a ++ (32 ∷ (last_digits 16 16 r.b ++ (32 ∷ (last_digits 16 16 r.c ++ (10 ∷ [])))))))
