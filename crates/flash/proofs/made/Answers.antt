use Rattle.flash.proofs.made.Goals as goal

pub returns : goal.returns
returns c = rw (c.start-t.ensures, c.clear.ensures)
