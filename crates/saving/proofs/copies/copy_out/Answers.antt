use Rattle.memory.proofs.Copied.{copied_whole, part_long}
use Rattle.saving.proofs.Copying.{copied}
use Rattle.std.proofs.Common.{◌∙◌, length}
use Rattle.saving.proofs.copies.copy_out.Goals as goal

pub returns : goal.returns
returns c =
    let a = c.args in
    let long = part_long a.at (length a.bytes.now) a.out.now c.requires in
    copied _ _ _ _ (c.copy.ensures ∙ copied_whole _ a.bytes.now long) c.requires
