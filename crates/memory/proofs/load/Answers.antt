use Rattle.std.proofs.Common.{◌≡◌, ◌+◌, ◌-◌, ap, take, drop, arith}
use Rattle.memory.proofs.Cases.{load_in, load_out}
use Rattle.memory.proofs.load.Goals as goal

pub returns-then-size-at : goal.returns-then-size-at
returns-then-size-at c = load_out _ _ _ (omega arith)

pub returns-then-m-at : goal.returns-then-m-at
returns-then-m-at c = load_out _ _ _ (omega arith)

pub returns : goal.returns
returns c =
    let part : c.args.at + c.args.size - c.args.at ≡ c.args.size = omega arith in
    load_in _ _ _ _ _ c.if-m-at.false (ap (λ k. take k (drop c.args.at c.args.m.now)) part) c.value_of.ensures
