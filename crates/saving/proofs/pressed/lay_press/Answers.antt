use Rattle.std.proofs.Common.{ℕ, ap, arith, length-append}
use Rattle.memory.specs.Bytes.{bytes_of}
use Rattle.session.proofs.Digits.{length_bytes}
use Rattle.saving.proofs.Laid.{then, laid_as, next_fit}
use Rattle.whole.specs.Forms.{bits_of}
use Rattle.saving.proofs.pressed.lay_press.Goals as goal

pub put-next-requires : goal.put-next-requires
put-next-requires c =
    omega (
      arith,
      c.requires,
      length-append (bytes_of 1 c.args.code) (bytes_of 8 (bits_of c.args.start)),
      length_bytes 1 c.args.code,
    )

pub put_float-requires : goal.put_float-requires
put_float-requires c =
    next_fit (laid_as c.put-next.ensures (ap (λ (v : ℕ). bytes_of 1 v) c.from.ensures))
    (bytes_of 8 (bits_of c.args.start)) _ (length_bytes 8 _) c.requires

pub returns : goal.returns
returns c = then (laid_as c.put-next.ensures (ap (λ (v : ℕ). bytes_of 1 v) c.from.ensures)) c.put_float.ensures
