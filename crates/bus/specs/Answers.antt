-- What a read and a write answer, with 01's numbers.
use Rattle.std.specs.Prelude.{ℕ, Bool, false, Result}
use Rattle.map.specs.declared.refusals.Refusal.{Refusal}
use Rattle.map.specs.Refusals.{number_of, value_or}
use Rattle.bus.specs.declared.Accepted.{Accepted}

-- 01's number, and the word
pub record Got : Type 0 where
  pub refusal : ℕ
  pub value : ℕ

-- where a read is refused, the word is 0
abbrev pub got_of : Result ℕ Refusal → Got
got_of r = record { refusal = number_of r; value = value_or r 0 }

-- 01's number, and whether the tone changed
pub record WriteAnswer : Type 0 where
  pub refusal : ℕ
  pub event : Bool

-- where a write is refused, no tone changes
abbrev pub answer_of : Result Accepted Refusal → WriteAnswer
answer_of r = record { refusal = number_of r; event = (value_or r (record { event = false })).event }
