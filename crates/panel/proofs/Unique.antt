-- What meets an entry's contract is the only thing that does.
use Rattle.std.proofs.Common.{◌≡◌, ℕ, List, refl, ap}
use Rattle.std.specs.Prelude.{Result}
use Rattle.map.specs.declared.refusals.Refusal.{Refusal}
use Rattle.whole.proofs.Unique.{unique}
use Rattle.whole.proofs.Answered.{answer_tells}
use Rattle.panel.specs.declared.Panel.{Panel}
use Rattle.panel.specs.declared.Colours.{Colours}
use Rattle.panel.specs.Entries.{Outcome, outcome, Pixel, pixel, Picture, picture, black}

-- of a data byte there is one answer and one later framebuffer
pub one_data : (d : Outcome) (p : Panel) (r s : Result Panel Refusal) (fb gb : List ℕ) → outcome p r fb ≡ d
    → outcome p s gb ≡ d → (r ≡ s) × (fb ≡ gb)
one_data d p r s fb gb h k =
    let e : outcome p r fb ≡ outcome p s gb = unique h k in (
      answer_tells p r s (ap (λ (o : Outcome). o.refusal) e) (ap (λ (o : Outcome). o.screen.panel) e),
      ap (λ (o : Outcome). o.screen.fb) e,
    )

pub one_pixel : (d : Pixel) (r s : Result Colours Refusal) → pixel r ≡ d → pixel s ≡ d → r ≡ s
one_pixel d r s h k =
    let e : pixel r ≡ pixel s = unique h k in
    answer_tells black r s (ap (λ (o : Pixel). o.refusal) e) (ap (λ (o : Pixel). o.colours) e)

pub one_picture : (d : Picture) (r s : Result Unit Refusal) (out put : List ℕ) → picture r out ≡ d → picture s put ≡ d
    → (r ≡ s) × (out ≡ put)
one_picture d r s out put h k =
    let e : picture r out ≡ picture s put = unique h k in
    (answer_tells tt r s (ap (λ (o : Picture). o.refusal) e) refl, ap (λ (o : Picture). o.out) e)
