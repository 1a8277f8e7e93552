-- Bytes copied over a part of a list are laid there.
use Rattle.std.proofs.Common.{ℕ, ◌+◌, ◌-◌, ◌≤◌, ◌≡◌, refl, sym, ◌∙◌, List, length, take, drop, append_assoc}
use Rattle.std.proofs.Math.Nat.{add-sub_cancel_left}
use Rattle.std.proofs.Math.Seq.{drop-drop}
use Rattle.std.proofs.lemmas.List.Edits.{sets-eq}
use borrow.Rule.Slice.PartMut.{put_mid}
use Rattle.saving.specs.Inner.{Laid}

-- the part from `at` on was lent, and came back as m
pub copied : (l m ys : List ℕ) (at : ℕ) → ys ≡ m → at + length m ≤ length l
    → Laid l (put_mid at (at + length m - at) l ys) at (at + length m) m
copied l m ys at e fits =
    record {
      laid =
          rw (e, add-sub_cancel_left at (length m), drop-drop)
          (sym (sets-eq m l at fits ∙ append_assoc (take at l) m (drop (at + length m) l)));
      behind = refl;
    }
