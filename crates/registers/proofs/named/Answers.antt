-- In each arm the address is the arm's, and `index` computes; in the last no word is the address.
use Rattle.std.proofs.Common.{sym, ap, ℕ, ◌+◌}
use Rattle.registers.specs.Ports.{named_words, named_rows}
use Rattle.registers.proofs.Cases.{index_missed}
use Rattle.registers.proofs.named.Goals as goal

pub returns-in_default : goal.returns-in_default
unfolding named_rows
returns-in_default c = ap (λ (n : ℕ). 48 + n) (sym (index_missed _ named_words Unit c.in_default.in_default-own.rest))
