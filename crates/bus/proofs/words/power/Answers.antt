use Rattle.bus.proofs.words.power.Goals as goal

pub returns : goal.returns
returns c =
    let p = c.put_off.ensures c.args.floats.now in (
      (cc
          p.parts),
      p.packed,
    )
