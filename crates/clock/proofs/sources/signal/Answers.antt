use Rattle.std.proofs.Common.{le-ltb, lt-ltb}
use Rattle.clock.specs.Sources.{signal_of}
use Rattle.clock.proofs.sources.signal.Goals as goal

pub returns-then-n-seen : goal.returns-then-n-seen
unfolding signal_of
returns-then-n-seen c = rw (lt-ltb _ _ c.if-n-seen.true)

pub returns : goal.returns
unfolding signal_of
returns c = rw (le-ltb _ _ c.if-n-seen.false)
