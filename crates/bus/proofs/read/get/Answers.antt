use Rattle.std.proofs.Common.{arith, refl}
use Rattle.bus.proofs.Sizes.{good_one, good_two, good_four, got_sized, got_refused}
use Rattle.bus.proofs.read.get.Goals as goal

pub returns-then-size-eq4 : goal.returns-then-size-eq4
returns-then-size-eq4 c =
    got_sized c.args.size 4 c.if-size-eq4.true good_four c.args.m.now c.args.at
    c.load.ensures

pub returns-then-size-gt2 : goal.returns-then-size-gt2
returns-then-size-gt2 c =
    got_refused c.args.size (λ z. omega arith) (λ z. omega arith) c.if-size-eq4.false _
    refl

pub returns-then-size-eq2 : goal.returns-then-size-eq2
returns-then-size-eq2 c =
    got_sized c.args.size 2 c.if-size-eq2.true good_two c.args.m.now c.args.at
    c.load-then-size-eq2.ensures

pub returns-then-size-eq1 : goal.returns-then-size-eq1
returns-then-size-eq1 c =
    got_sized c.args.size 1 c.if-size-eq1.true good_one c.args.m.now c.args.at
    c.load-then-size-eq1.ensures

pub returns : goal.returns
returns c =
    got_refused c.args.size c.if-size-eq1.false c.if-size-eq2.false (λ z. omega arith) _
    refl
