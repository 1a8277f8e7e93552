-- Every run of the chip is the run beside the list of bytes, made compact.
use Rattle.std.proofs.Common.{◌≡◌, ℕ, zero, suc, ◌+◌, Bool, true, false, List, [], ◌∷◌, ◌++◌, length, take, drop}
use Rattle.std.proofs.Common.{replicate, refl, ap, ◌∙◌, ap₂, lt_of_le_of_lt, arith, get_or-drop}
use lib.Bits.{and_le_l}
use Rattle.flash.specs.Pick.{pick}
use Rattle.flash.specs.Board.{Board, board}
use Rattle.flash.specs.Buf.{blank}
use Rattle.flash.specs.Finish.{ands, patch, block_size, start_of, array_after}
use Rattle.flash.specs.Flash.{deselect_act, transaction_begun}
use Rattle.flash.specs.Steps.{Step, cs, byte}
use Rattle.flash.specs.Rust.{Sys}
use Rattle.flash.specs.Run.{Bytes, Good, after_step, step_answers, after_steps, answers}
use Rattle.flash.specs.declared.Mode.{Mode}
use Rattle.flash.specs.declared.Act.{Act}
use Rattle.flash.specs.declared.Act.TheVariants.{Nothing, Enable, Disable, Program, Erase, EraseAll}
use Rattle.flash.specs.declared.Trans.{Trans}
use Rattle.flash.proofs.Whole.{compact_board, list_after, list_run, list_answer, list_answers}
use Rattle.flash.proofs.Laws.{good_sized}
use Rattle.flash.proofs.Long.{act_long}
use Rattle.flash.proofs.Forget.{after_cs, after_byte, answer_good, after_act}
use Rattle.flash.proofs.Refine.{answer_exact, byte_view, on_view, off_view}

-- ---- the array keeps its length and stays bytes
pub append_bytes : (p q : List ℕ) → Bytes p → Bytes q → Bytes (p ++ q)
append_bytes [] q f g k = g k
append_bytes (x ∷ p) q f g zero = f 0
append_bytes (x ∷ p) q f g (suc k) = append_bytes p q (λ j. f (suc j)) g k

fill_bytes : (n : ℕ) → Bytes (replicate n 0xFF)
fill_bytes zero k = omega arith
fill_bytes (suc n) zero = omega arith
fill_bytes (suc n) (suc k) = fill_bytes n k

take_bytes : (n : ℕ) (m : List ℕ) → Bytes m → Bytes (take n m)
take_bytes zero m y k = omega arith
take_bytes (suc n) [] y k = omega arith
take_bytes (suc n) (x ∷ m) y zero = y 0
take_bytes (suc n) (x ∷ m) y (suc k) = take_bytes n m (λ j. y (suc j)) k

drop_bytes : (n : ℕ) (m : List ℕ) → Bytes m → Bytes (drop n m)
drop_bytes n m y k = rw (get_or-drop n m k 0) (y (n + k))

patch_bytes : (m : List ℕ) (a k : ℕ) (p : List ℕ) → Bytes m → Bytes p → Bytes (patch m a k p)
patch_bytes m a k p y z =
    append_bytes (take a m) (p ++ drop (a + k) m) (take_bytes a m y)
    (append_bytes p (drop (a + k) m) z (drop_bytes (a + k) m y))

ands_bytes : (m p : List ℕ) → Bytes m → Bytes (ands m p)
ands_bytes [] p y k = y k
ands_bytes (x ∷ m) [] y zero = lt_of_le_of_lt (and_le_l x 0) (y 0)
ands_bytes (x ∷ m) [] y (suc k) = ands_bytes m [] (λ j. y (suc j)) k
ands_bytes (x ∷ m) (z ∷ p) y zero = lt_of_le_of_lt (and_le_l x z) (y 0)
ands_bytes (x ∷ m) (z ∷ p) y (suc k) = ands_bytes m p (λ j. y (suc j)) k

act_bytes : (a : Act) (t : Trans) (p m : List ℕ) → Bytes m → Bytes (array_after a t p m)
act_bytes Nothing t p m y = y
act_bytes Enable t p m y = y
act_bytes Disable t p m y = y
act_bytes Program t p m y =
    let s : ℕ = start_of t (length m) 256 in
    patch_bytes m s 256 (ands (take 256 (drop s m)) p) y
    (ands_bytes (take 256 (drop s m)) p (take_bytes 256 (drop s m) (drop_bytes s m y)))
act_bytes (Erase b) t p m y =
    patch_bytes m (start_of t (length m) (block_size b)) (block_size b) (replicate (block_size b) 0xFF) y
    (fill_bytes (block_size b))
act_bytes EraseAll t p m y = fill_bytes (length m)

act_good : (a : Act) (t : Trans) (p m : List ℕ) → Good m → Good (array_after a t p m)
act_good a t p m g =
    record {
      size = rw (act_long a t p m (good_sized (length m) g.size)) g.size;
      bytes = act_bytes a t p m g.bytes;
    }

pick_good : (c : Bool) (u v : Board) → Good u.array → Good v.array → Good (pick c u v).array
pick_good true u v g h = g
pick_good false u v g h = h

pub after_good : (e : Mode) (s : Sys) (x : Step) → Good s.ram → Good (list_after e s x).ram
after_good e s (cs true) g =
    pick_good s.cs (compact_board e s) (board (transaction_begun (compact_board e s).chip) blank s.ram) g g
after_good e s (cs false) g =
    let w : Board = compact_board e s in
    let a : Act = deselect_act w.chip in
    pick_good s.cs (after_act w a) w (act_good a w.chip.tx w.page s.ram g) g
after_good e s (byte b) g = g

-- ---- one step, and every run
pub step_view : (e : Mode) (s : Sys) (x : Step) → Good s.ram → after_step (compact_board e s) x
    ≡ compact_board e (list_after e s x)
step_view e s (cs true) g = after_cs (compact_board e s) true g.size ∙ on_view e s
step_view e s (cs false) g =
    after_cs (compact_board e s) false g.size ∙ off_view e s (good_sized (length s.ram) g.size)
step_view e s (byte b) g =
    after_byte (compact_board e s) b g.size ∙ byte_view e s b (good_sized (length s.ram) g.size)

answer_view : (e : Mode) (s : Sys) (x : Step) → Good s.ram → step_answers (compact_board e s) x ≡ list_answer e s x
answer_view e s (cs on) g = refl
answer_view e s (byte b) g =
    answer_good (compact_board e s) b g.size ∙ ap (λ (r : ℕ). r ∷ [])
    (answer_exact e s.wel s.buf s.ram (good_sized (length s.ram) g.size))

pub run_view : (e : Mode) (xs : List Step) (s : Sys) → Good s.ram → after_steps (compact_board e s) xs
    ≡ compact_board e (list_run e s xs)
run_view e [] s g = refl
run_view e (x ∷ xs) s g =
    ap (λ (z : Board). after_steps z xs) (step_view e s x g) ∙ run_view e xs (list_after e s x) (after_good e s x g)

pub answers_view : (e : Mode) (xs : List Step) (s : Sys) → Good s.ram → answers (compact_board e s) xs
    ≡ list_answers e s xs
answers_view e [] s g = refl
answers_view e (x ∷ xs) s g =
    ap₂ (λ (p q : List ℕ). p ++ q) (answer_view e s x g)
    (ap (λ (z : Board). answers z xs) (step_view e s x g) ∙ answers_view e xs (list_after e s x) (after_good e s x g))
