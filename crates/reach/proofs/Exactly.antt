-- The theorems: the predicate holds of just those transactions that a run leaves; and from each of them the chip does
-- as sys.rs does.
use Prim.Native.Nat.{ℕ, suc}
use mathlib.Core.Path.{◌≡◌, refl, sym, ap, ◌∙◌}
use mathlib.Core.Bool.{Bool, true, false}
use mathlib.Core.List.{List, [], ◌∷◌, ◌++◌, append_assoc}
use mathlib.Core.Logic.{◌↔◌}
use lib.ListN.{length}
use Rattle.flash.specs.declared.Trans.{Trans}
use Rattle.flash.specs.declared.Mode.{Mode}
use Rattle.flash.specs.declared.Mode.TheVariants.{Rust}
use Rattle.flash.specs.Board.{Board}
use Rattle.flash.specs.Steps.{Step, cs, byte, sends, ByteSteps}
use Rattle.flash.specs.Run.{Bytes, Good, after_steps, answers}
use Rattle.flash.specs.Rust.{Sys, default}
use Rattle.flash.specs.Alike.{seen, seen_of}
use Rattle.flash.specs.Table.{made}
use Rattle.flash.proofs.Whole.{compact_board, page_of, list_after, list_run}
use Rattle.flash.proofs.Laws.{good_sized}
use Rattle.flash.proofs.Long.{run_long}
use Rattle.flash.proofs.Runs.{run_view, answers_view}
use Rattle.flash.proofs.Literal.{Fit, ran_is, rxs_is}
use Rattle.reach.specs.Reach.{reachable, Shaped, Reached, Left, FromRust}
use Rattle.reach.proofs.Witness.{Buf, buf_of}
use Rattle.reach.proofs.Kept.{made_reached, run_reached, sys_with, compact_is}

-- ---- bytes that are sent
record Sent (s : Sys) (bs : List ℕ) (r : Sys) : Type 0 where
  cs : r.cs ≡ s.cs
  buf : r.buf ≡ s.buf ++ bs
  ram : r.ram ≡ s.ram

append_none : (xs : List ℕ) → xs ≡ xs ++ []
append_none [] = refl
append_none (x ∷ xs) = ap (λ (l : List ℕ). x ∷ l) (append_none xs)

sent : (bs : List ℕ) (s : Sys) → Sent s bs (list_run Rust s (sends bs))
sent [] s = record { cs = refl; buf = append_none s.buf; ram = refl }
sent (b ∷ bs) s =
    let r = sent bs (list_after Rust s (byte b)) in
    record { cs = r.cs; buf = r.buf ∙ append_assoc s.buf (b ∷ []) bs; ram = r.ram }

byte_steps : (bs : List ℕ) → Bytes bs → ByteSteps (sends bs)
byte_steps [] y = tt
byte_steps (b ∷ bs) y = (y 0, byte_steps bs (λ k. y (suc k)))

-- ---- exactly
module _ (m : List ℕ) (g : Good m) (t : Trans) (p : List ℕ) where
  -- the bytes, sent to a chip that has none yet over this array
  sent_left : (on : Bool) (f : Buf (length m) t p) (xs : List Step) (s : Sys) → ByteSteps xs
      → list_run Rust (default m) xs ≡ list_run Rust s (sends f.buf) → s.cs ≡ on → s.buf ≡ [] → s.ram ≡ m
      → Left m on t p
  sent_left on f xs s y e c none same =
      let r = sent f.buf s in
      let is = run_view Rust xs (default m) g ∙ ap (compact_board Rust) e in
      let buf : (list_run Rust s (sends f.buf)).buf ≡ f.buf = r.buf ∙ ap (λ (l : List ℕ). l ++ f.buf) none in
      record {
        steps = xs;
        bytes = y;
        cs = ap (λ (z : Board). z.chip.cs) is ∙ r.cs ∙ c;
        tx = ap (λ (z : Board). z.chip.tx) is ∙ rw (buf, r.ram, same) f.tx;
        page = ap (λ (z : Board). z.page) is ∙ ap page_of buf ∙ f.page;
      }

  reached : (on : Bool) → Shaped t p → reachable (length m) t p ≡ true → Left m on t p
  reached on shape ok = by on (buf_of (length m) t p (good_sized (length m) g.size) shape ok)
    where
      by : (on : Bool) → Buf (length m) t p → Left m on t p
      by true f =
          sent_left true f (cs true ∷ sends f.buf) (list_after Rust (default m) (cs true))
          (byte_steps f.buf f.bytes) refl refl refl refl
      by false f =
          sent_left false f (sends f.buf) (default m) (byte_steps f.buf f.bytes) refl refl refl refl

  -- steps that send bytes keep the shape as well
  module _ (on : Bool) (l : Left m on t p) where
    there : Reached (after_steps (made m) l.steps)
    there = run_reached l.steps (made m) l.bytes (made_reached Rust m)

    left_shaped : Shaped t p
    left_shaped = rw (← l.tx, ← l.page) there.shaped

    left_reachable : reachable (length m) t p ≡ true
    left_reachable = rw (← l.tx, ← l.page, ← run_long l.steps (made m)) there.trans

  pub reached_exactly : (on : Bool) → (Shaped t p × (reachable (length m) t p ≡ true)) ↔ Left m on t p
  reached_exactly on = (λ h. reached on h.0 h.1, λ l. (left_shaped on l, left_reachable on l))

-- ---- demand 2 from there on
pub as_rust_from : (b : Board) → b.chip.mode ≡ Rust → Good b.array → Reached b → FromRust b
as_rust_from b rust g r =
    let f = buf_of (length b.array) b.chip.tx b.page (good_sized (length b.array) g.size) r.shaped
    r.trans in
    let s : Sys = sys_with b f.buf in
    let fit : Fit s = record { good = g; bytes = f.bytes } in
    let is : b ≡ compact_board Rust s = sym (compact_is b f) ∙ ap (λ (e : Mode). compact_board e s) rust in
    record {
      sys = s;
      answered = λ xs y. ap (λ (w : Board). answers w xs) is ∙ answers_view Rust xs s g ∙ sym (rxs_is xs s fit y);
      left = λ xs y. ap (λ (w : Board). seen (after_steps w xs)) is ∙ ap seen (run_view Rust xs s g)
          ∙ ap seen_of (sym (ran_is xs s fit y));
    }
