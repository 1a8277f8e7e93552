use Rattle.memory.proofs.Copied.{copied_whole, part_long}
use Rattle.resuming.proofs.Copying.{copied}
use Rattle.std.proofs.Common.{◌∙◌, sym, length}
use Rattle.resuming.proofs.copies.copy_in.Goals as goal

pub returns : goal.returns
returns c =
    let a = c.args in
    let long = part_long a.at (length a.bytes.now) a.s.now c.requires in
    copied _ a.bytes.now _ _ (c.copy.ensures ∙ copied_whole a.bytes.now _ (sym long))
