use Rattle.std.proofs.Common.{◌∙◌, arith}
use Rattle.whole.specs.Limits.{good_time}
use Rattle.session.specs.Good.{good_floats}
use Rattle.resuming.proofs.Alls.{all_three, all_six}
use Rattle.resuming.proofs.judge.good_floats.Goals as goal

pub returns : goal.returns
unfolding good_floats
returns c =
    let f = c.args.f.now in
    rw (
      c.good_time.ensures,
      c.good_game.ensures,
      c.good_turbo.ensures,
      c.good_times.ensures ∙ all_six (λ t. good_time t) f 3 (omega (arith, c.told-f)),
      c.good_game-2.ensures,
      c.good_game-3.ensures,
      c.finite.ensures,
      c.finite-2.ensures,
      c.good_times-2.ensures ∙ all_three (λ t. good_time t) f 13 (omega (arith, c.told-f)),
    )
