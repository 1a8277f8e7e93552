-- Every session without a listed departure goes as the data sheet says.
use Rattle.std.proofs.Common.{◌≡◌, ℕ, false, List, [], ◌∷◌, length, refl, ◌∙◌, subst}
use Rattle.flash.specs.Board.{Board}
use Rattle.flash.specs.Run.{Good, transaction}
use Rattle.flash.specs.Sheet.{State, After, leaves, not_said, not_here, afterwards}
use Rattle.flash.specs.Departures.{Left, state_of, Conforms}
use Rattle.flash.specs.Session.{AllPlain, Follows, Session}
use Rattle.flash.specs.declared.Mode.{Mode}
use Rattle.flash.proofs.Conform.{conforms, kept_good, kept_cs, kept_mode, kept_long}

next : (a : After) (t : State) (f : State → Type 0) → Left a t → f t → Follows a f
next (leaves s) t f e h = subst f e h
next not_said t f e h = tt
next not_here t f e h = absurd e

pub session : (e : Mode) (n : ℕ) (bss : List (List ℕ)) (w : Board) → Good w.array → w.chip.cs ≡ false
    → w.chip.mode ≡ e → length w.array ≡ n → AllPlain e n bss
    → Session w (state_of w) bss
session e n [] w g c r l p = (refl, refl)
session e n (bs ∷ bss) w g c r l p =
    let k : Conforms w bs = conforms w bs g p.0.bytes c (rw (r, l) p.0.listed) in (
      k.replies,
      next (afterwards (state_of w) bs) (state_of (transaction w bs)) (λ (t : State). Session (transaction w bs) t bss)
          k.ends
          (session e n bss (transaction w bs) (kept_good w bs g c) (kept_cs w bs g c) (kept_mode w bs g c ∙ r)
          (kept_long w bs g c ∙ l) p.1),
    )
