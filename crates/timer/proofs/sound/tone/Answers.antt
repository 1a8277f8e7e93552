use Rattle.whole.proofs.Words.{has_some, has_not}
use Rattle.timer.specs.Sound.{tone_of, clamp_of}
use Rattle.timer.proofs.sound.tone.Goals as goal

pub returns-then-control-eq0 : goal.returns-then-control-eq0
unfolding tone_of
returns-then-control-eq0 c = rw (has_not _ _ c.if-control-eq0.true) c.silent.ensures

pub returns : goal.returns
unfolding tone_of clamp_of
returns c =
    rw (
      has_some _ _ c.if-control-eq0.false,
      ← c.period-p.ensures,
      ← c.period-high.ensures,
      ←
          c.rate.ensures,
      c.clamp.ensures.value,
    )
