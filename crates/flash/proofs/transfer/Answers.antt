use Rattle.std.proofs.Common.{ap, ◌≡◌, ℕ, ◌<◌, ◌≤◌, Bool, true, false, not, List, length, sym, refl, ◌∙◌, arith}
use borrow.Author.Tests.{not-true, not-false}
use Rattle.flash.specs.Board.{Board, board, outcome, good_size, Sized}
use Rattle.flash.specs.Inner.{refusing, giving}
use Rattle.flash.specs.Buf.{gathered}
use Rattle.flash.specs.Flash.{transferred, replied, sent_chip}
use Rattle.flash.specs.Board.{Reply}
use Rattle.flash.proofs.Cases.{transfer_done, transfer_refused}
use Rattle.flash.proofs.transfer.Goals as goal

bad : (w : Board) (b : ℕ) (g : Bool) {r : Reply} → g ≡ good_size (length w.array) → not g ≡ true → r ≡ refusing
    w.chip → outcome r w.page w.array ≡ transferred w b
bad w b g e f h = rw h (sym (transfer_refused w b (sym e ∙ not-true g f)))

fine : (w : Board) (b : ℕ) (g : Bool) {r : Reply} {p : List ℕ} → g ≡ good_size (length w.array) → not g ≡ false →
    r ≡ giving (replied w) (sent_chip w b) → p ≡ gathered w.chip.tx w.page b
    → outcome r p w.array ≡ transferred w b
fine w b g e f h k = rw (h, k) (sym (transfer_done w b (sym e ∙ not-false g f)))

bounds : (n : ℕ) → Sized n → (0 < n) × (n ≤ 0x80_0000)
bounds n s = omega arith

pub returns-then-not-ok : goal.returns-then-not-ok
returns-then-not-ok c =
    let a = c.args in
    bad (board a.chip a.page.now a.array.now) a.byte _ c.good-ok.ensures
    (ap not c.if-not-ok.true) refl

pub returns : goal.returns
returns c =
    let at_good2 = c.good-ok in
    let at_if1 = c.if-not-ok in
    let at_answer = c.answer-rx in
    let at_push = c.push-t in
    let at_gather = c.gather in
    let a = c.args in
    fine (board a.chip a.page.now a.array.now) a.byte _ at_good2.ensures (ap not at_if1.false)
    (rw (at_answer.ensures, at_push.ensures)) at_gather.ensures
