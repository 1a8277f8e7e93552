-- What a line says, in the words of the rule.
use Rattle.std.specs.Prelude.{ℕ, ◌+◌, ◌-◌, ◌*◌, List, [], ◌∷◌, ◌==◌, nat_le, nat_lt}
use Rattle.flash.specs.Pick.{pick, both}
use Rattle.steps.specs.declared.Step.{Step}
use Rattle.steps.specs.declared.Step.TheVariants.{Select, Deselect, Byte, Other}

-- the value of a lowercase hex digit, and 16 where the byte is none
unfoldable pub digit_of : ℕ → ℕ
digit_of c = pick (both (nat_le 48 c) (nat_le c 57)) (c - 48) (pick (both (nat_le 97 c) (nat_le c 102)) (c - 87) 16)

-- a line of one byte: `+` is 43 and `-` is 45
unfoldable pub sign_of : ℕ → Step
sign_of a = pick (a == 43) Select (pick (a == 45) Deselect Other)

-- a line of two bytes
unfoldable pub pair_of : ℕ → ℕ → Step
pair_of a b = pick (both (nat_lt (digit_of a) 16) (nat_lt (digit_of b) 16)) (Byte (digit_of a * 16 + digit_of b)) Other

-- a line, without its newline
abbrev pub step_of : List ℕ → Step
step_of [] = Other
step_of (a ∷ []) = sign_of a
step_of (a ∷ b ∷ []) = pair_of a b
step_of (a ∷ b ∷ c ∷ rest) = Other
