use Rattle.std.proofs.Common.{sym, ap, ◌∙◌}
use Rattle.whole.specs.Limits.{good_time}
use Rattle.whole.proofs.Numbers.{given_good, given_bad}
use Rattle.clock.specs.Times.{moved_of}
use Rattle.clock.proofs.Cases.{moves_not, moves_back, moves_over, advance_moves}
use Rattle.clock.proofs.pace.advance.Goals as goal

pub returns-in_default : goal.returns-in_default
returns-in_default g c = moves_not _ _ (given_bad _ _ (sym c.time.ensures ∙ c.in_default.is))

pub returns-then-to-s : goal.returns-then-to-s
returns-then-to-s g c =
    let given = given_good good_time _ _ (sym c.time.ensures ∙ c.in-Some.is) in
    moves_back _ _ given.0 c.if-to-s.true ∙ ap (moved_of c.args.s) given.1

pub returns-then-game : goal.returns-then-game
returns-then-game g c =
    let given = given_good good_time _ _ (sym c.time.ensures ∙ c.in-Some.is) in
    moves_over _ _ given.0 c.if-to-s.false c.if-game.true ∙ ap (moved_of c.args.s) given.1

pub returns : goal.returns
returns g c =
    let given = given_good good_time _ _ (sym c.time.ensures ∙ c.in-Some.is) in
    advance_moves _ _ given.0 c.if-to-s.false c.if-game.false ∙ ap (moved_of c.args.s) given.1
