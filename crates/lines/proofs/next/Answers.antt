-- `next` meets its contract: what filled the buffer is the line.
use Rattle.std.proofs.Common.{rules, arith}
use Rattle.std.proofs.lemmas.Grind.{common_steps}
use Rattle.lines.proofs.next.Goals as goal

pub returns : goal.returns
returns g c = record {
  read = record { count = 29; line = c.read_exact.new.buf; stands = cc };
  taken = record {
    line = c.read_exact.new.buf;
    whole = search rules;
    says = c.step_of.ensures;
    taken = grind (arith, common_steps);
  };
}
