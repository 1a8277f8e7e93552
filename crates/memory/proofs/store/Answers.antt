use Rattle.std.proofs.Common.{arith}
use Rattle.memory.proofs.Cases.{store_in, store_out}
use Rattle.memory.proofs.store.Goals as goal

pub returns-then-size-at : goal.returns-then-size-at
returns-then-size-at c = store_out _ _ _ _ (omega arith)

pub returns-then-m-at : goal.returns-then-m-at
returns-then-m-at c = store_out _ _ _ _ (omega arith)

pub returns : goal.returns
returns c = store_in _ _ _ _ _ c.if-m-at.false c.lay.ensures
