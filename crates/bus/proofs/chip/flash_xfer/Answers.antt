use Rattle.std.proofs.Common.{length-take-le, sym}
use Rattle.flash.specs.Board.{transferring}
use Rattle.bus.proofs.Parts.{part_le, send_part}
use Rattle.bus.proofs.chip.flash_xfer.Goals as goal

pub slice_bounds-transfer-end : goal.slice_bounds-transfer-end
slice_bounds-transfer-end c = sym (length-take-le _ _ (rw c.part-n.ensures (part_le _)))

pub returns : goal.returns
returns c =
    let a = c.args in
    rw c.unwrap_or.ensures (send_part a.chip a.page.now a.ram.now c.part-n.ensures
    (transferring a.chip c.transfer.result) a.byte c.transfer.ensures)
