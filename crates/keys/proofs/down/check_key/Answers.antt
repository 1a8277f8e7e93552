use Rattle.std.proofs.Common.{le-leb}
use Rattle.keys.specs.Live.{key_refusal}
use borrow.Author.Tests.{lt-leb}
use Rattle.keys.proofs.down.check_key.Goals as goal

pub returns-then-key-gt2 : goal.returns-then-key-gt2
unfolding key_refusal
returns-then-key-gt2 c = rw (lt-leb _ _ c.if-key-gt2.true)

pub returns : goal.returns
unfolding key_refusal
returns c = rw (le-leb _ _ c.if-key-gt2.false)
