use Rattle.timer.proofs.Cases.{tones_differ, sounds_same, sounds_full, sounds_new}
use Rattle.timer.proofs.sound.sound_update.Goals as goal

pub returns-then-full : goal.returns-then-full
returns-then-full c =
    sounds_full _ _ _ _ _ c.tone-new.ensures (tones_differ _ _ _ c.ne.ensures) c.if-ne.true c.if-full.true

pub returns-then-ne : goal.returns-then-ne
returns-then-ne c =
    sounds_new _ _ _ _ _ c.tone-new.ensures (tones_differ _ _ _ c.ne.ensures) c.if-ne.true c.if-full.false

pub returns : goal.returns
returns c = sounds_same _ _ _ _ _ c.tone-new.ensures (tones_differ _ _ _ c.ne.ensures) c.if-ne.false
