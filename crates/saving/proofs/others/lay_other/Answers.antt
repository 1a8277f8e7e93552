use Rattle.std.proofs.Common.{arith, length-append}
use Rattle.memory.specs.Bytes.{bytes_of}
use Rattle.session.proofs.Digits.{length_bytes}
use Rattle.saving.proofs.Laid.{then, next_fit}
use Rattle.saving.proofs.others.lay_other.Goals as goal

-- src/others.rt:41:9
pub put_four-next-requires : goal.put_four-next-requires
put_four-next-requires c =
    omega (
      arith,
      c.requires,
      length-append (bytes_of 4 c.args.addr) (bytes_of 4 c.args.value),
      length_bytes 4 c.args.addr,
    )

-- src/others.rt:42:5
pub put_four-requires : goal.put_four-requires
put_four-requires c =
    next_fit c.put_four-next.ensures (bytes_of 4 c.args.value) _ (length_bytes 4 _) c.requires

-- src/others.rt:37:1
pub returns : goal.returns
returns c =
    then c.put_four-next.ensures c.put_four.ensures
