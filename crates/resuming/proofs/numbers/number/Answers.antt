use Rattle.resuming.proofs.Digits.{read_is}
use Rattle.resuming.proofs.numbers.number.Goals as goal

pub returns : goal.returns
returns c =
    read_is c.args.s.now c.copy_from_slice.new.self c.args.at c.args.width (λ i. (c.type_inv.s i).fits) c.requires.0
    c.requires.1 c.copy_from_slice.ensures.after c.from_le_bytes.ensures
