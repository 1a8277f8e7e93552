use Rattle.std.proofs.Common.{◌≡◌, ℕ, Bool, true, false, not, List, length, sym, refl, ap, ◌∙◌}
use borrow.Author.Tests.{not-true, not-false}
use Rattle.flash.specs.Board.{Board, board, outcome, with_cs, good_size, accepted_outcome}
use Rattle.flash.specs.Inner.{refusing, giving}
use Rattle.flash.specs.Buf.{blank}
use Rattle.flash.specs.Finish.{state_after, array_after}
use Rattle.flash.specs.Flash.{selected, select_board, transaction_begun, deselect_act}
use Rattle.flash.specs.Pick.{pick}
use Rattle.flash.specs.declared.Chip.{Chip}
use Rattle.flash.specs.Board.{Reply}
use Rattle.flash.proofs.Cases.{select_done, select_refused}
use Rattle.flash.proofs.select.Goals as goal

bad : (w : Board) (on g : Bool) {r : Reply} → g ≡ good_size (length w.array) → not g ≡ true → r ≡ refusing
    w.chip → outcome r w.page w.array ≡ selected w on
bad w on g e f h = rw h (sym (select_refused w on (sym e ∙ not-true g f)))

fine : (w v : Board) (on g : Bool) {r : Reply} → g ≡ good_size (length w.array) → not g ≡ false → r ≡ giving 0
    v.chip → v ≡ select_board w on
    → outcome r v.page v.array ≡ selected w on
fine w v on g e f h k = rw h (ap (accepted_outcome 0) k ∙ sym (select_done w on (sym e ∙ not-false g f)))

-- the four ways on
on_on : (w : Board) (on : Bool) → on ≡ true → w.chip.cs ≡ true → w ≡ select_board w on
on_on w on e f = rw (e, f)

on_off : (w v : Board) (on : Bool) → on ≡ true → w.chip.cs ≡ false → v.chip ≡ transaction_begun w.chip
    → v.page ≡ blank → v.array ≡ w.array → v ≡ select_board w on
on_off w v on e f h k l = rw (e, f) (same h k l)
  where
    same : {c c' : Chip} {p p' m m' : List ℕ} → c ≡ c' → p ≡ p' → m ≡ m' → board c p m ≡ board c' p' m'
    same h k l = rw (h, k, l)

off_off : (w : Board) (on : Bool) → on ≡ false → not w.chip.cs ≡ true → w ≡ select_board w on
off_off w on e f = rw (e, not-true w.chip.cs f)

off_on : (w : Board) (on : Bool) {u v : Chip} {m : List ℕ} → on ≡ false → not w.chip.cs ≡ false
    → (u ≡ state_after (deselect_act w.chip) w.chip) × (m ≡ array_after (deselect_act w.chip) w.chip.tx
    w.page
    w.array) → v ≡ with_cs u false
    → board v w.page m ≡ select_board w on
off_on w on {u} {v} {m} e f h k =
    let z : Board = board (with_cs (state_after (deselect_act w.chip) w.chip) false) w.page
    (array_after (deselect_act
    w.chip) w.chip.tx w.page w.array) in
    let l : board v w.page m ≡ z = rw (k, h.0, h.1) in
    rw e (l ∙ taken w.chip.cs z w (not-false w.chip.cs f))
  where
    taken : (c : Bool) (x y : Board) → c ≡ true → x ≡ pick c x y
    taken c x y h = rw h

pub returns-then-not-ok : goal.returns-then-not-ok
returns-then-not-ok c =
    let a = c.args in
    bad (board a.chip a.page.now a.array.now) a.on _ c.good-ok.ensures
    (ap not c.if-not-ok.true) refl

pub returns-then-cs : goal.returns-then-cs
returns-then-cs c =
    let at_good2 = c.good-ok in
    let at_if1 = c.if-not-ok in
    let at_if2 = c.if-on in
    let at_if3 = c.if-cs in
    let a = c.args in
    let w = board a.chip a.page.now a.array.now in
    fine w w a.on _ at_good2.ensures (ap not at_if1.false) refl (on_on w a.on at_if2.true
    at_if3.true)

pub returns-then-on : goal.returns-then-on
returns-then-on c =
    let at_begin = c.begin in
    let at_good2 = c.good-ok in
    let at_if1 = c.if-not-ok in
    let at_if2 = c.if-on in
    let at_if3 = c.if-cs in
    let at_clear = c.clear in
    let a = c.args in
    let w = board a.chip a.page.now a.array.now in
    let v = board at_begin.result _ a.array.now in
    fine w v a.on _ at_good2.ensures (ap not at_if1.false) refl
    (on_off w v a.on at_if2.true at_if3.false at_begin.ensures at_clear.ensures refl)

pub returns-then-not-cs : goal.returns-then-not-cs
returns-then-not-cs c =
    let at_good2 = c.good-ok in
    let at_if1 = c.if-not-ok in
    let at_if2 = c.if-on in
    let at_if4 = c.if-not-cs in
    let a = c.args in
    let w = board a.chip a.page.now a.array.now in
    fine w w a.on _ at_good2.ensures (ap not at_if1.false) refl (off_off w a.on at_if2.false
    (ap not at_if4.true))

pub returns : goal.returns
returns c =
    let at_good2 = c.good-ok in
    let at_if1 = c.if-not-ok in
    let at_if2 = c.if-on in
    let at_if4 = c.if-not-cs in
    let at_finish = c.finish-ended in
    let a = c.args in
    let w = board a.chip a.page.now a.array.now in
    fine w (board (with_cs c.finish-ended.result false) a.page.now _) a.on _ at_good2.ensures (ap not at_if1.false)
    refl
    (off_on w a.on at_if2.false (ap not at_if4.false) at_finish.ensures refl)
