use Rattle.std.proofs.Common.{sym, ap, ◌∙◌}
use Rattle.whole.specs.Limits.{good_turbo}
use Rattle.whole.proofs.Numbers.{given_good, given_bad}
use Rattle.clock.specs.Times.{paced_of}
use Rattle.clock.proofs.Cases.{paces}
use Rattle.clock.proofs.pace.set_turbo.Goals as goal

pub returns-in_default : goal.returns-in_default
unfolding paced_of
returns-in_default g c = rw (given_bad _ _ (sym c.turbo.ensures ∙ c.in_default.is))

pub returns : goal.returns
returns g c =
    let given = given_good good_turbo _ _ (sym c.turbo.ensures ∙ c.in-Some.is) in
    paces _ _ given.0 ∙ ap (paced_of c.args.s) given.1
