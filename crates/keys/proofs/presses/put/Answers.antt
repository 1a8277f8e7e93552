use Rattle.keys.proofs.Cases.{put_in, put_full}
use Rattle.keys.proofs.presses.put.Goals as goal

pub returns-then-place-lt64 : goal.returns-then-place-lt64
returns-then-place-lt64 c = put_in _ _ _ _ _ _ _ c.free-place.ensures _ c.if-place-lt64.true c.counted.ensures

pub returns : goal.returns
returns c = put_full _ _ _ _ _ _ _ c.free-place.ensures c.if-place-lt64.false
