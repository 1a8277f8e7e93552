-- Demand 3 for the flash: the bytes of a transaction with write enable off, none of them a first 0x06, are forgotten.
use Rattle.std.proofs.Common.{◌≡◌, ℕ, zero, suc, ◌+◌, Bool, true, false, eqb, leb, ◌⊎◌, List, [], ◌∷◌, ◌++◌, length}
use Rattle.std.proofs.Common.{sym, refl, ap, ◌∙◌, subst, ap₂, inl, inr, ⊎_elim, arith, ne_eqb}
use Rattle.whole.proofs.Choice.{by_test}
use Rattle.flash.specs.Pick.{pick}
use Rattle.flash.specs.Board.{Board, Outcome, board, with_cs, with_rx, with_tx, good_size}
use Rattle.flash.specs.Buf.{fresh, blank, next_pos, pushed}
use Rattle.flash.specs.Finish.{order_of, guard_of, act_of, state_after, array_after}
use Rattle.flash.specs.Flash.{deselect_act, transaction_begun, select_board, replied, sent_board}
use Rattle.flash.specs.Steps.{Step, cs, byte, sends}
use Rattle.flash.specs.Run.{after_step, step_answers, after_steps, answers, transaction, again, Begins, Forgets}
use Rattle.flash.specs.declared.Act.{Act}
use Rattle.flash.specs.declared.Act.TheVariants.{Nothing, Disable, Program, Erase, EraseAll}
use Rattle.flash.specs.declared.Block.TheVariants.{Sector, Half, Full}
use Rattle.flash.specs.declared.Mode.{Mode}
use Rattle.flash.specs.declared.Chip.{Chip}
use Rattle.flash.specs.declared.Trans.{Trans}
use Rattle.flash.proofs.Cases.{select_done, select_refused, transfer_done, transfer_refused}

-- ---- a refused step does nothing, and a step that is done goes by the definition
pub after_cs : (w : Board) (on : Bool) → good_size (length w.array) ≡ true → after_step w (cs on) ≡ select_board w on
after_cs w on e = ap (λ (o : Outcome). o.board) (select_done w on e)

pub after_byte : (w : Board) (b : ℕ) → good_size (length w.array) ≡ true → after_step w (byte b) ≡ sent_board w b
after_byte w b e = ap (λ (o : Outcome). o.board) (transfer_done w b e)

after_bad : (w : Board) (x : Step) → good_size (length w.array) ≡ false → after_step w x ≡ w
after_bad w (cs on) e = ap (λ (o : Outcome). o.board) (select_refused w on e)
after_bad w (byte b) e = ap (λ (o : Outcome). o.board) (transfer_refused w b e)

pub answer_good : (w : Board) (b : ℕ) → good_size (length w.array) ≡ true → step_answers w (byte b) ≡ replied w ∷ []
answer_good w b e = ap (λ (o : Outcome). o.answer ∷ []) (transfer_done w b e)

answer_bad : (w : Board) (b : ℕ) → good_size (length w.array) ≡ false → step_answers w (byte b) ≡ 0 ∷ []
answer_bad w b e = ap (λ (o : Outcome). o.answer ∷ []) (transfer_refused w b e)

-- ---- no step looks at the last answer
abbrev bare : Chip → Chip
bare s = with_rx s 0

abbrev bared : Board → Board
bared w = board (bare w.chip) w.page w.array

bare_pick : (c : Bool) (u v u' v' : Board) → bared u ≡ bared u' → bared v ≡ bared v'
    → bared (pick c u v) ≡ bared (pick c u' v')
bare_pick true u v u' v' p q = p
bare_pick false u v u' v' p q = q

bare_select : (w : Board) (on : Bool) → bared (select_board w on) ≡ bared (select_board (bared w) on)
bare_select w true =
    bare_pick w.chip.cs w (board (transaction_begun w.chip) blank w.array) (bared w)
    (board (transaction_begun (bare w.chip)) blank w.array) refl refl
bare_select w false =
    let a : Act = deselect_act w.chip in
    let m : List ℕ = array_after a w.chip.tx w.page w.array in
    bare_pick w.chip.cs (board (with_cs (state_after a w.chip) false) w.page m) w
    (board (with_cs (state_after a (bare w.chip)) false) w.page m) (bared w)
    refl refl

good_bare : (w : Board) (x : Step) → good_size (length w.array) ≡ true
    → bared (after_step w x) ≡ bared (after_step (bared w) x)
good_bare w (cs on) g = ap bared (after_cs w on g) ∙ bare_select w on ∙ sym (ap bared (after_cs (bared w) on g))
good_bare w (byte b) g = ap bared (after_byte w b g) ∙ sym (ap bared (after_byte (bared w) b g))

after_bare : (w : Board) (x : Step) → bared (after_step w x) ≡ bared (after_step (bared w) x)
after_bare w x =
    by_test (good_size (length w.array))
    (λ g. good_bare w x g)
    (λ g. ap bared (after_bad w x g) ∙ sym (ap bared (after_bad (bared w) x g)))

answer_bare : (w : Board) (x : Step) → step_answers w x ≡ step_answers (bared w) x
answer_bare w (cs on) = refl
answer_bare w (byte b) =
    by_test (good_size (length w.array))
    (λ g. answer_good w b g ∙ sym (answer_good (bared w) b g))
    (λ g. answer_bad w b g ∙ sym (answer_bad (bared w) b g))

-- boards that differ in the last answer alone answer alike, and stay so
after_alike : (v w : Board) (x : Step) → bared v ≡ bared w → bared (after_step v x) ≡ bared (after_step w x)
after_alike v w x e = after_bare v x ∙ ap (λ (z : Board). bared (after_step z x)) e ∙ sym (after_bare w x)

answer_alike : (v w : Board) (x : Step) → bared v ≡ bared w → step_answers v x ≡ step_answers w x
answer_alike v w x e = answer_bare v x ∙ ap (λ (z : Board). step_answers z x) e ∙ sym (answer_bare w x)

answers_alike : (xs : List Step) (v w : Board) → bared v ≡ bared w → answers v xs ≡ answers w xs
answers_alike [] v w e = refl
answers_alike (x ∷ xs) v w e =
    ap₂ (λ (p q : List ℕ). p ++ q) (answer_alike v w x e)
    (answers_alike xs (after_step v x) (after_step w x) (after_alike v w x e))

run_alike : (xs : List Step) (v w : Board) → bared v ≡ bared w → (after_steps v xs).array ≡ (after_steps w xs).array
run_alike [] v w e = ap (λ (z : Board). z.array) e
run_alike (x ∷ xs) v w e = run_alike xs (after_step v x) (after_step w x) (after_alike v w x e)

-- ---- a transaction with write enable off leaves nothing behind but itself
abbrev quiet : Chip → Chip
quiet s = with_tx (with_rx s 0) fresh

-- the same but for the transaction and the last answer
pub record SameButTransaction (v w : Board) : Type 0 where
  pub array : v.array ≡ w.array
  pub chip : quiet v.chip ≡ quiet w.chip

-- a transaction that has begun with x
pub record Begun (x : ℕ) (t : Trans) : Type 0 where
  pub some : t.pos ≡ 0 → ⊥
  pub first : t.cmd ≡ x

next_pos_lem : (n p : ℕ) → next_pos n p ≡ 0 → ⊥
next_pos_lem n p h =
    by_test (leb (4 + n) p) (λ e. let z : ◌≡◌ {A = ℕ} 5 0 = rw e at h in omega arith)
    (λ e. let z : p + 1 ≡ 0 = rw e at h in omega arith)

push_first : (n b : ℕ) (t : Trans) → t.pos ≡ 0 → Begun b (pushed t n b)
push_first n b t e = record { some = next_pos_lem n t.pos; first = rw e }

push_more : (x n b : ℕ) (t : Trans) → Begun x t → Begun x (pushed t n b)
push_more x n b t h = record { some = next_pos_lem n t.pos; first = rw (ne_eqb t.pos 0 h.some) h.first }

-- what the bytes leave
pub record Sent (x : ℕ) (v w : Board) : Type 0 where
  pub same : SameButTransaction v w
  pub begun : Begun x v.chip.tx

same_trans : (u v w : Board) → SameButTransaction u v → SameButTransaction v w → SameButTransaction u w
same_trans u v w h k = record { array = h.array ∙ k.array; chip = h.chip ∙ k.chip }

send_one : (b : ℕ) (w : Board) → good_size (length w.array) ≡ true → SameButTransaction (after_step w (byte b)) w
send_one b w g =
    record {
      array = ap (λ (z : Board). z.array) (after_byte w b g);
      chip = ap (λ (z : Board). quiet z.chip) (after_byte w b g);
    }

sent_tx : (b : ℕ) (w : Board) → good_size (length w.array) ≡ true → (after_step w (byte b)).chip.tx
    ≡ pushed w.chip.tx (length w.array) b
sent_tx b w g = ap (λ (z : Board). z.chip.tx) (after_byte w b g)

send_rest : (x : ℕ) (bs : List ℕ) (w : Board) → good_size (length w.array) ≡ true → Begun x w.chip.tx
    → Sent x (after_steps w (sends bs)) w
send_rest x [] w g h = record { same = record { array = refl; chip = refl }; begun = h }
send_rest x (b ∷ bs) w g h =
    let v : Board = after_step w (byte b) in
    let r : Sent x (after_steps v (sends bs)) v = send_rest x bs v (rw (send_one b w g).array g)
    (subst (Begun x) (sym (sent_tx b w g)) (push_more x (length w.array) b w.chip.tx h)) in
    record { same = same_trans (after_steps v (sends bs)) v w r.same (send_one b w g); begun = r.begun }

send_all : (b : ℕ) (bs : List ℕ) (w : Board) → good_size (length w.array) ≡ true → w.chip.tx.pos ≡ 0
    → Sent b (after_steps w (sends (b ∷ bs))) w
send_all b bs w g h =
    let v : Board = after_step w (byte b) in
    let r : Sent b (after_steps v (sends bs)) v = send_rest b bs v (rw (send_one b w g).array g)
    (subst (Begun b) (sym (sent_tx b w g)) (push_first (length w.array) b w.chip.tx h)) in
    record { same = same_trans (after_steps v (sends bs)) v w r.same (send_one b w g); begun = r.begun }

-- with write enable off, an order that is no write enable does nothing or clears write enable
module _ (e : Mode) (t : Trans) where
  abbrev Calms : Act → Type 0
  Calms a = (pick (guard_of a e false t) a Nothing ≡ Nothing) ⊎ (pick (guard_of a e false t) a Nothing ≡ Disable)

  pick_calm : (u : Bool) (a b : Act) → Calms a → Calms b → Calms (pick u a b)
  pick_calm true a b p q = p
  pick_calm false a b p q = q

  order_calm : (c : ℕ) → (c ≡ 6 → ⊥) → Calms (order_of c)
  order_calm c h =
      rw (ne_eqb c 6 h)
      (pick_calm (eqb c 0x04) Disable _ (inr refl)
      (pick_calm (eqb c 0x02) Program _ (inl refl)
      (pick_calm (eqb c 0x20) (Erase Sector) _ (inl refl)
      (pick_calm (eqb c 0x52) (Erase Half) _ (inl refl)
      (pick_calm (eqb c 0xD8) (Erase Full) _ (inl refl)
      (pick_calm (eqb c 0xC7) EraseAll _ (inl refl)
      (pick_calm (eqb c 0x60) EraseAll Nothing (inl refl) (inl refl))))))))

calm_none : (e : Mode) (w : Bool) (t : Trans) → t.pos ≡ 0 → act_of e w t ≡ Nothing
unfolding act_of
calm_none e w t h = rw h

calm_some : (x : ℕ) (e : Mode) (w : Bool) (t : Trans) → w ≡ false → Begun x t → (x ≡ 6 → ⊥) → (act_of e w t ≡ Nothing)
    ⊎ (act_of e w t ≡ Disable)
unfolding act_of
calm_some x e w t z h k = rw (ne_eqb t.pos 0 h.some, z) (order_calm e t t.cmd (λ p. k (sym h.first ∙ p)))

-- such a deselect
pick_board : (c : Bool) (u v : Board) → c ≡ true → pick c u v ≡ u
pick_board c u v e = rw e

abbrev Calm : Chip → Type 0
Calm s = (deselect_act s ≡ Nothing) ⊎ (deselect_act s ≡ Disable)

-- the board that an act leaves
abbrev pub after_act : Board → Act → Board
after_act w a = board (with_cs (state_after a w.chip) false) w.page (array_after a w.chip.tx w.page w.array)

calm_ends : (w : Board) → good_size (length w.array) ≡ true → w.chip.cs ≡ true → w.chip.wel ≡ false
    → Calm w.chip
    → ((after_step w (cs false)).array ≡ w.array)
    × (quiet (after_step w (cs false)).chip ≡ with_cs (quiet w.chip) false)
calm_ends w g c e d =
    let k : (a : Act) → deselect_act w.chip ≡ a → after_step w (cs false) ≡ after_act w a =
    λ a p. after_cs w false g ∙ pick_board w.chip.cs (after_act w (deselect_act w.chip)) w c ∙ ap (after_act w) p in
    ⊎_elim
    (λ p. (ap (λ (z : Board). z.array) (k Nothing p), ap (λ (z : Board). quiet z.chip) (k Nothing p)))
    (λ p. (ap (λ (z : Board). z.array) (k Disable p), ap (λ (z : Board). quiet z.chip) (k Disable p) ∙ rw e))
    d

-- the chip as a select of the idle chip leaves it
abbrev opened : Board → Board
opened w = board (transaction_begun w.chip) blank w.array

open_is : (w : Board) → good_size (length w.array) ≡ true → w.chip.cs ≡ false → after_step w (cs true) ≡ opened w
open_is w g c = after_cs w true g ∙ rw c

closes : (v w : Board) → good_size (length w.array) ≡ true → w.chip.cs ≡ false → w.chip.wel ≡ false
    → SameButTransaction v (opened w) → Calm v.chip → SameButTransaction (after_step v (cs false)) w
closes v w g c e k d =
    let r = calm_ends v (rw k.array g) (ap (λ (s : Chip). s.cs) k.chip)
    (ap (λ (s : Chip). s.wel) k.chip ∙ e) d in
    record { array = r.0 ∙ k.array; chip = r.1 ∙ ap (λ (s : Chip). with_cs s false) k.chip ∙ rw c }

calm_all : (bs : List ℕ) (w : Board) → good_size (length w.array) ≡ true → w.chip.cs ≡ false → w.chip.wel ≡ false
    → (Begins 6 bs → ⊥)
    → SameButTransaction (after_step (after_steps (opened w) (sends bs)) (cs false)) w
calm_all [] w g c e h =
    closes (opened w) w g c e (record { array = refl; chip = refl })
    (inl (calm_none w.chip.mode w.chip.wel fresh refl))
calm_all (b ∷ bs) w g c e h =
    let v : Board = after_steps (opened w) (sends (b ∷ bs)) in
    let r : Sent b v (opened w) = send_all b bs (opened w) g refl in
    closes v w g c e r.same
    (calm_some b v.chip.mode v.chip.wel v.chip.tx (ap (λ (s : Chip). s.wel) r.same.chip ∙ e)
    r.begun h)

-- the whole transaction
settled : (w : Board) (bs : List ℕ) → good_size (length w.array) ≡ true → w.chip.cs ≡ false → w.chip.wel ≡ false
    → (Begins 6 bs → ⊥)
    → SameButTransaction (transaction w bs) w
settled w bs g c e h =
    subst (λ (z : Board). SameButTransaction (after_step (after_steps z (sends bs)) (cs false)) w) (sym (open_is w g c))
    (calm_all bs w g c e h)

-- ---- what comes after
reopened : (v w : Board) → good_size (length w.array) ≡ true → w.chip.cs ≡ false → SameButTransaction v w
    → bared (after_step v (cs true)) ≡ bared (after_step w (cs true))
reopened v w g c k =
    ap bared (open_is v (rw k.array g) (ap (λ (s : Chip). s.cs) k.chip ∙ c))
    ∙ ap₂ (λ (s : Chip) (m : List ℕ). bared (board (transaction_begun s) blank m)) k.chip k.array
    ∙ sym (ap bared (open_is w g c))

still : (w : Board) → good_size (length w.array) ≡ true → w.chip.cs ≡ false → after_step w (cs false) ≡ w
still w g c = after_cs w false g ∙ rw c

-- deselects of the idle chip do nothing
skips : (n : ℕ) (xs : List Step) (w : Board) → good_size (length w.array) ≡ true → w.chip.cs ≡ false
    → (answers w (again n xs) ≡ answers (after_step w (cs true)) xs)
    × (after_steps w (again n xs) ≡ after_steps (after_step w (cs true)) xs)
skips zero xs w g c = (refl, refl)
skips (suc n) xs w g c =
    let k = skips n xs w g c in (
      ap (λ (z : Board). answers z (again n xs)) (still w g c)
          ∙ k.0,
      ap (λ (z : Board). after_steps z (again n xs)) (still w g c) ∙ k.1,
    )

-- two boards that both differ from an idle one in the transaction and the last answer alone
same_forgets : (u v w : Board) → good_size (length w.array) ≡ true → w.chip.cs ≡ false → SameButTransaction u w
    → SameButTransaction v w → Forgets u v
same_forgets u v w g c ku kv =
    record {
      array = ku.array ∙ sym kv.array;
      wel = ap (λ (s : Chip). s.wel) (ku.chip ∙ sym kv.chip);
      alike =
          λ n xs. (on u ku n xs).0 ∙ answers_alike xs (after_step u (cs true)) (after_step v (cs true)) same
          ∙ sym (on v kv n xs).0;
      stored =
          λ n xs. ap (λ (z : Board). z.array) (on u ku n xs).1
          ∙ run_alike xs (after_step u (cs true)) (after_step v (cs true)) same
          ∙ ap (λ (z : Board). z.array) (sym (on v kv n xs).1);
    }
  where
    on : (z : Board) → SameButTransaction z w → (n : ℕ) (xs : List Step)
        → (answers z (again n xs) ≡ answers (after_step z (cs true)) xs)
        × (after_steps z (again n xs) ≡ after_steps (after_step z (cs true)) xs)
    on z k n xs = skips n xs z (rw k.array g) (ap (λ (s : Chip). s.cs) k.chip ∙ c)

    same : bared (after_step u (cs true)) ≡ bared (after_step v (cs true))
    same = reopened u w g c ku ∙ sym (reopened v w g c kv)

pub run_bad : (w : Board) (xs : List Step) → good_size (length w.array) ≡ false → after_steps w xs ≡ w
run_bad w [] g = refl
run_bad w (x ∷ xs) g = ap (λ (z : Board). after_steps z xs) (after_bad w x g) ∙ run_bad w xs g

-- Demand 3
pub forgets : (w : Board) (xs ys : List ℕ) → w.chip.cs ≡ false → w.chip.wel ≡ false → (Begins 6 xs → ⊥)
    → (Begins 6 ys → ⊥)
    → Forgets (transaction w xs) (transaction w ys)
forgets w xs ys c e hx hy = by_test (good_size (length w.array)) good bad
  where
    good : good_size (length w.array) ≡ true → Forgets (transaction w xs) (transaction w ys)
    good g = same_forgets (transaction w xs) (transaction w ys) w g c (settled w xs g c e hx) (settled w ys g c e hy)

    bad : good_size (length w.array) ≡ false → Forgets (transaction w xs) (transaction w ys)
    bad g =
        let none : (bs : List ℕ) → transaction w bs ≡ w =
        λ bs. ap (λ (z : Board). after_steps (after_steps z (sends bs)) (cs false ∷ [])) (after_bad w (cs true) g)
        ∙ ap (λ (z : Board). after_steps z (cs false ∷ [])) (run_bad w (sends bs) g)
        ∙ after_bad w (cs false) g in
        let same : transaction w xs ≡ transaction w ys = none xs ∙ sym (none ys) in
        record {
          array = ap (λ (z : Board). z.array) same;
          wel = ap (λ (z : Board). z.chip.wel) same;
          alike = λ n zs. ap (λ (z : Board). answers z (again n zs)) same;
          stored = λ n zs. ap (λ (z : Board). (after_steps z (again n zs)).array) same;
        }
