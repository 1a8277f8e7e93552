-- Every step keeps a board's transaction one that a run can leave, in either mode and over an array of any length.
use Prim.Native.Nat.{ℕ, zero, suc, ◌+◌, ◌<◌, ◌≤◌}
use mathlib.Core.Path.{◌≡◌, refl, sym, subst}
use mathlib.Core.Bool.{Bool, true, false}
use mathlib.Core.List.{List, [], ◌∷◌, ◌++◌}
use native.Mathlib.Omega.{arith}
use lib.ListN.{length, get_or}
use borrow.Author.Tests.{eq-eqb, le-leb}
use Rattle.whole.proofs.Choice.{by_test}
use Rattle.flash.specs.Pick.{pick}
use Rattle.flash.specs.declared.Mode.{Mode}
use Rattle.flash.specs.Board.{Board, Sized, board, good_size}
use Rattle.flash.specs.Buf.{fresh, blank}
use Rattle.flash.specs.Flash.{selected, transferred, made_in, deselect_act, select_board, sent_board}
use Rattle.flash.specs.Rust.{Sys}
use Rattle.flash.specs.Run.{Bytes, after_step, after_steps}
use Rattle.flash.specs.Steps.{Step, cs, byte, ByteSteps}
use Rattle.flash.proofs.Whole.{compact_board, list_after}
use Rattle.flash.proofs.Laws.{good_sized}
use Rattle.flash.proofs.Cases.{select_done, select_refused, transfer_done, transfer_refused}
use Rattle.flash.proofs.Long.{act_long}
use Rattle.flash.proofs.Refine.{byte_view}
use Rattle.flash.proofs.Runs.{append_bytes}
use Rattle.reach.specs.Reach.{header_ok, mark_ok, slot_ok, page_ok, reachable, Shaped, Reached}
use Rattle.reach.proofs.View.{blank_at, blank_length, blank_bytes, or_first, and_both}
use Rattle.reach.proofs.View.{view_reachable, view_shaped}
use Rattle.reach.proofs.Witness.{Buf, buf_of}

-- ---- a transaction of no bytes, over any length
fresh_page : (i : ℕ) → i ≤ 256 → page_ok fresh blank i ≡ true
unfolding page_ok slot_ok
fresh_page zero h = refl
fresh_page (suc i) h =
    and_both _ _ (or_first _ _ (eq-eqb (get_or blank i 0) 255 (blank_at i (omega arith)))) (fresh_page i (omega arith))

fresh_reachable : (n : ℕ) → reachable n fresh blank ≡ true
unfolding reachable header_ok mark_ok
fresh_reachable n =
    and_both _ _ (and_both _ _ (le-leb 0 (n + 4) (omega arith)) refl) (and_both _ _ refl (fresh_page 256 (omega arith)))

fresh_shaped : Shaped fresh blank
fresh_shaped =
    record {
      cmd = omega arith;
      a1 = omega arith;
      a2 = omega arith;
      a3 = omega arith;
      size = blank_length;
      bytes = blank_bytes;
    }

-- ---- the array may change below the transaction
pub same_reached : (b c : Board) → c.chip.tx ≡ b.chip.tx → c.page ≡ b.page
    → length c.array ≡ length b.array → Reached b → Reached c
same_reached b c t p n r =
    record { trans = rw (t, p, n) r.trans; shaped = rw (t, p) r.shaped }

pub array_reached : (b : Board) (m : List ℕ) → length m ≡ length b.array → Reached b
    → Reached (board b.chip b.page m)
array_reached b m n r = same_reached b (board b.chip b.page m) refl refl n r

-- ---- the chip as it is made, and each step
pub made_reached : (e : Mode) (m : List ℕ) → Reached (board (made_in e).chip (made_in e).page m)
made_reached e m = record { trans = fresh_reachable (length m); shaped = fresh_shaped }

pick_reached : (c : Bool) (u v : Board) → Reached u → Reached v → Reached (pick c u v)
pick_reached true u v f g = f
pick_reached false u v f g = g

-- a step that is refused leaves the board as it is
pub select_reached : (b : Board) (on : Bool) → Reached b → Reached (selected b on).board
select_reached b on r =
    by_test (good_size (length b.array))
    (λ e. rw (select_done b on e) (done on (good_sized (length b.array) e)))
    (λ e. rw (select_refused b on e) r)
  where
    done : (on : Bool) → Sized (length b.array) → Reached (select_board b on)
    done true s =
        pick_reached b.chip.cs b _ r
        (record { trans = fresh_reachable (length b.array); shaped = fresh_shaped })
    done false s =
        pick_reached b.chip.cs _ b
        (same_reached b _ refl refl (act_long (deselect_act b.chip) b.chip.tx b.page b.array s) r) r

-- the state of sys.rs beside a board, with the bytes of its transaction
abbrev pub sys_with : Board → List ℕ → Sys
sys_with b bs =
    record {
      cs = b.chip.cs;
      buf = bs;
      rx = b.chip.rx;
      wel = b.chip.wel;
      writes = b.chip.writes;
      ram = b.array;
    }

pub compact_is : (b : Board) (f : Buf (length b.array) b.chip.tx b.page)
    → compact_board b.chip.mode (sys_with b f.buf) ≡ b
compact_is b f = rw (f.tx, f.page)

one_byte : (v : ℕ) → v < 256 → Bytes (v ∷ [])
one_byte v h zero = h
one_byte v h (suc k) = omega arith

pub send_reached : (b : Board) (v : ℕ) → v < 256 → Reached b → Reached (transferred b v).board
send_reached b v h r =
    by_test (good_size (length b.array))
    (λ e. rw (transfer_done b v e) (done (good_sized (length b.array) e)))
    (λ e. rw (transfer_refused b v e) r)
  where
    -- the bytes that left the transaction, and one more
    done : Sized (length b.array) → Reached (sent_board b v)
    done z =
        let f = buf_of (length b.array) b.chip.tx b.page z r.shaped r.trans in
        let s : Sys = sys_with b f.buf in
        let y : Bytes (f.buf ++ v ∷ []) = append_bytes f.buf (v ∷ []) f.bytes (one_byte v h) in
        let n : ℕ = length b.array in
        let later : Reached (compact_board b.chip.mode (list_after b.chip.mode s (byte v))) =
        record { trans = view_reachable n (f.buf ++ v ∷ []) z y; shaped = view_shaped n (f.buf ++ v ∷ []) z y } in
        subst (λ (w : Board). Reached (sent_board w v)) (compact_is b f)
        (subst Reached (sym (byte_view b.chip.mode s v z)) later)

-- ---- every run
pub run_reached : (xs : List Step) (b : Board) → ByteSteps xs → Reached b → Reached (after_steps b xs)
run_reached [] b y r = r
run_reached (cs on ∷ xs) b y r = run_reached xs (after_step b (cs on)) y (select_reached b on r)
run_reached (byte v ∷ xs) b y r = run_reached xs (after_step b (byte v)) y.1 (send_reached b v y.0 r)
