use Rattle.std.proofs.Common.{rules}
use Rattle.registers.proofs.Search.{halved_past, halved_here}
use Rattle.registers.proofs.halved.Goals as goal

pub returns-then-words-i : goal.returns-then-words-i
returns-then-words-i c = record {
  value = halved_past _ _ _ _ c.if-words-i.true;
  upper_bound = search rules;
}

pub returns : goal.returns
returns c = record {
  value = halved_here _ _ _ _ c.if-words-i.false;
  upper_bound = search rules;
}
