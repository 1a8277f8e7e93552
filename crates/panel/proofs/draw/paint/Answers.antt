use Rattle.std.proofs.Common.{sym, ◌∙◌}
use Rattle.panel.proofs.Cases.{drawing_is, penned_first, penned_second, inked_first, inked_second}
use Rattle.panel.proofs.draw.paint.Goals as goal

pub returns-in-None : goal.returns-in-None
returns-in-None c =
    let h = c.in-None.is in
    drawing_is (sym (penned_first _ _ _ h)) (sym (inked_first _ _ _ h))

pub returns-in-Some : goal.returns-in-Some
returns-in-Some c =
    let h = c.in-Some.is in
    drawing_is (c.next.ensures ∙ sym (penned_second _ _ _ _ h)) (c.place.ensures ∙
    sym (inked_second _ _ _ _ h))
