use Rattle.std.proofs.Common.{length-take-le, sym}
use Rattle.flash.specs.Board.{selecting}
use Rattle.bus.proofs.Parts.{part_le, select_part}
use Rattle.bus.proofs.chip.flash_select.Goals as goal

pub slice_bounds-select-end : goal.slice_bounds-select-end
slice_bounds-select-end c = rw c.part-n.ensures (part_le _)

pub slice_bounds-select-end-2 : goal.slice_bounds-select-end-2
slice_bounds-select-end-2 c = sym (length-take-le _ _ (rw c.part-n.ensures (part_le _)))

pub returns : goal.returns
returns c =
    let a = c.args in
    rw c.unwrap_or.ensures (select_part a.chip a.page.now a.ram.now c.part-n.ensures
    (selecting a.chip c.select.result) a.on c.select.ensures)
