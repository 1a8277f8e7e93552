use Rattle.std.proofs.Common.{sym, ap, ◌∙◌}
use Rattle.whole.specs.Limits.{good_time}
use Rattle.whole.proofs.Numbers.{given_good, given_bad}
use Rattle.keys.specs.Script.{script, press_of}
use Rattle.keys.proofs.Cases.{press_bad_key, press_bad_time, press_put}
use Rattle.keys.proofs.presses.press.Goals as goal

pub returns-then-key-gt2 : goal.returns-then-key-gt2
returns-then-key-gt2 g c = press_bad_key _ _ _ _ c.if-key-gt2.true

pub returns-in_default : goal.returns-in_default
returns-in_default g c =
    press_bad_time _ _ _ _ c.if-key-gt2.false (given_bad _ _ (sym c.time.ensures ∙ c.in_default.is))

pub returns : goal.returns
returns g c =
    let given = given_good good_time _ _ (sym c.time.ensures ∙ c.in-Some.is) in
    let a = c.args in
    press_put _ _ _ _ _ c.if-key-gt2.false given.0 c.put.ensures
    ∙ ap (λ x. press_of (script a.starts.now a.codes.now a.count) a.key x a.time) given.1
