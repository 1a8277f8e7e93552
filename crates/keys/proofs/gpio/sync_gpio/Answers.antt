use Rattle.keys.proofs.Cases.{sync_same, sync_new}
use Rattle.keys.proofs.gpio.sync_gpio.Goals as goal

pub returns-then-want-applied : goal.returns-then-want-applied
returns-then-want-applied c = sync_same _ _ _ _ c.want-want.ensures c.if-want-applied.true

pub returns : goal.returns
returns c =
    sync_new _ _ _ _ c.want-want.ensures _ _ _ c.if-want-applied.false c.load-word.ensures c.drive.ensures
    c.store.ensures
