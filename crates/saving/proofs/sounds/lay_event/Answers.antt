use Rattle.std.proofs.Common.{◌++◌, arith, length-append}
use Rattle.memory.specs.Bytes.{bytes_of}
use Rattle.session.proofs.Digits.{length_bytes}
use Rattle.saving.proofs.Laid.{then, room, next_fit}
use Rattle.whole.specs.Forms.{bits_of}
use Rattle.saving.proofs.sounds.lay_event.Goals as goal

-- src/sounds.rt:28:9
pub put_float-next-requires : goal.put_float-next-requires
put_float-next-requires c =
    omega (
      arith,
      c.requires,
      length-append (bytes_of 8 (bits_of c.args.e.time)) (bytes_of 8 (bits_of c.args.e.frequency) ++ bytes_of 8
          (bits_of c.args.e.duty)),
      length_bytes 8 (bits_of c.args.e.time),
    )

-- src/sounds.rt:29:9
pub put_float-last-requires : goal.put_float-last-requires
put_float-last-requires c =
    omega (
      arith,
      room c.put_float-next.ensures (bytes_of 8 (bits_of c.args.e.frequency) ++ bytes_of 8
          (bits_of c.args.e.duty)) c.requires,
      length-append (bytes_of 8 (bits_of c.args.e.frequency))
          (bytes_of 8 (bits_of c.args.e.duty)),
      length_bytes 8 (bits_of c.args.e.frequency),
    )

-- src/sounds.rt:30:5
pub put_float-requires : goal.put_float-requires
put_float-requires c =
    next_fit c.put_float-last.ensures (bytes_of 8 (bits_of c.args.e.duty)) _ (length_bytes 8 _) (room
    c.put_float-next.ensures (bytes_of 8 (bits_of c.args.e.frequency) ++ bytes_of 8 (bits_of c.args.e.duty)) c.requires)

-- src/sounds.rt:24:1
pub returns : goal.returns
returns c =
    then c.put_float-next.ensures (then c.put_float-last.ensures c.put_float.ensures)
