use Rattle.std.proofs.Common.{sym, ap, ◌∙◌, le-leb}
use borrow.Author.Tests.{lt-leb}
use Rattle.whole.specs.Limits.{good_time}
use Rattle.whole.proofs.Numbers.{given_good, given_bad}
use Rattle.keys.specs.Live.{tap_of}
use Rattle.keys.proofs.Cases.{tap_good}
use Rattle.keys.proofs.down.check_hold.Goals as goal

pub returns-then-key-gt2 : goal.returns-then-key-gt2
unfolding tap_of
returns-then-key-gt2 g c = rw (lt-leb _ _ c.if-key-gt2.true)

pub returns-in_default : goal.returns-in_default
unfolding tap_of
returns-in_default g c = rw (le-leb _ _ c.if-key-gt2.false, given_bad _ _ (sym c.time.ensures ∙ c.in_default.is))

pub returns : goal.returns
returns g c =
    let given = given_good good_time _ _ (sym c.time.ensures ∙ c.in-Some.is) in
    tap_good _ _ c.if-key-gt2.false given.0 ∙ ap (tap_of c.args.key) given.1
