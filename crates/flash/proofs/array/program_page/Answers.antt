use Rattle.std.proofs.Common.{ℕ, List}
use Rattle.flash.specs.Finish.{ands}
use Rattle.flash.proofs.Laws.{came_back}
use Rattle.flash.proofs.array.program_page.Goals as goal

pub returns : goal.returns
returns c =
    let a = c.args in
    came_back a.start 256 a.array.now _ (λ (l : List ℕ). ands l a.mask.now)
    c.program.ensures
