-- No step changes the length of the array.
use Rattle.std.proofs.Common.{◌≡◌, ℕ, suc, ◌+◌, ◌≤◌, Bool, true, false, List, [], ◌∷◌, length, take, drop}
use Rattle.std.proofs.Common.{replicate, refl, ap, ◌∙◌, mod-lt, arith, length-append, length-drop, length-take-le}
use lib.ListN.{length-replicate}
use Rattle.flash.specs.Pick.{pick}
use Rattle.flash.specs.declared.Act.{Act}
use Rattle.flash.specs.declared.Act.TheVariants.{Nothing, Enable, Disable, Program, Erase, EraseAll}
use Rattle.flash.specs.declared.Trans.{Trans}
use Rattle.flash.specs.Board.{Board, Outcome, Sized, good_size}
use Rattle.flash.specs.Buf.{addr_of}
use Rattle.flash.specs.Finish.{ands, patch, block_size, start_of, array_after}
use Rattle.flash.specs.Flash.{deselect_act, select_board}
use Rattle.flash.specs.Steps.{Step, cs, byte}
use Rattle.flash.specs.Run.{after_step, after_steps}
use Rattle.flash.proofs.Laws.{good_sized, page_in, block_in, part_long}
use Rattle.flash.proofs.Cases.{select_done, select_refused, transfer_done, transfer_refused}

patch_long : (m : List ℕ) (a k : ℕ) (p : List ℕ) → a + k ≤ length m → length p ≡ k → length (patch m a k p) ≡ length m
patch_long m a k p l e =
    rw (length-append, length-append, length-drop, length-take-le a m (omega arith), e) (omega arith)

pub ands_long : (m p : List ℕ) → length (ands m p) ≡ length m
ands_long [] p = refl
ands_long (x ∷ m) [] = ap suc (ands_long m [])
ands_long (x ∷ m) (y ∷ p) = ap suc (ands_long m p)

pub act_long : (a : Act) (t : Trans) (p m : List ℕ) → Sized (length m) → length (array_after a t p m) ≡ length m
act_long Nothing t p m s = refl
act_long Enable t p m s = refl
act_long Disable t p m s = refl
act_long Program t p m s =
    let a : ℕ = start_of t (length m) 256 in
    let l : a + 256 ≤ length m = page_in (length m) (addr_of t (length m)) s (mod-lt _ (omega arith)) in
    let q : List ℕ = take 256 (drop a m) in
    patch_long m a 256 (ands q p) l (ands_long q p ∙ part_long a 256 m l)
act_long (Erase b) t p m s =
    let n : ℕ = block_size b in
    patch_long m (start_of t (length m) n) n (replicate n 0xFF)
    (block_in b (length m) (addr_of t (length m)) s (mod-lt _ (omega arith))) (length-replicate n 0xFF)
act_long EraseAll t p m s = length-replicate (length m) 0xFF

pick_long : (c : Bool) (u v : Board) (n : ℕ) → length u.array ≡ n → length v.array ≡ n
    → length (pick c u v).array ≡ n
pick_long true u v n p q = p
pick_long false u v n p q = q

select_long : (w : Board) (on : Bool) → Sized (length w.array) → length (select_board w on).array ≡ length w.array
select_long w true s = pick_long w.chip.cs w _ _ refl refl
select_long w false s =
    pick_long w.chip.cs _ w _ (act_long (deselect_act w.chip) w.chip.tx w.page w.array s) refl

pub step_long : (w : Board) (x : Step) → length (after_step w x).array ≡ length w.array
step_long w (cs on) = go (good_size (length w.array)) refl
  where
    go : (t : Bool) → good_size (length w.array) ≡ t → length (after_step w (cs on)).array ≡ length w.array
    go true e = ap (λ (o : Outcome). length o.board.array) (select_done w on e) ∙ select_long w on (good_sized _ e)
    go false e = ap (λ (o : Outcome). length o.board.array) (select_refused w on e)
step_long w (byte b) = go (good_size (length w.array)) refl
  where
    go : (t : Bool) → good_size (length w.array) ≡ t → length (after_step w (byte b)).array ≡ length w.array
    go true e = ap (λ (o : Outcome). length o.board.array) (transfer_done w b e)
    go false e = ap (λ (o : Outcome). length o.board.array) (transfer_refused w b e)

pub run_long : (xs : List Step) (w : Board) → length (after_steps w xs).array ≡ length w.array
run_long [] w = refl
run_long (x ∷ xs) w = run_long xs (after_step w x) ∙ step_long w x
