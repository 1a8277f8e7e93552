use Rattle.state.proofs.Puts.{tone_put_lem}
use Rattle.state.proofs.rests.put_tone.Goals as goal

pub returns : goal.returns
returns c =
    λ l. tone_put_lem c.args.floats.now c.told-floats l
    c.args.tone
