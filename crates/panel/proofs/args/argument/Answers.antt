use Rattle.std.proofs.Common.{sym, arith}
use Rattle.panel.proofs.Cases.{argues_fourth, argued_kept, argued_full}
use Rattle.panel.proofs.args.argument.Goals as goal

pub returns-then-n-eq3 : goal.returns-then-n-eq3
returns-then-n-eq3 c =
    let low = c.from_be_bytes-lo.ensures in
    let high = c.from_be_bytes-hi.ensures in
    argues_fourth _ _ _ _ _ _ (omega arith) (omega arith) (omega arith) c.code.ensures
    c.aim-window.ensures

pub returns-else-n-eq3 : goal.returns-else-n-eq3
returns-else-n-eq3 c = sym (argued_kept _ _ (omega arith) (omega arith))

pub returns : goal.returns
returns c = sym (argued_full _ _ (omega arith))
