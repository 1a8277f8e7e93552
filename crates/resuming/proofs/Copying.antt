-- Bytes copied in from a part of a list.
use Rattle.std.proofs.Common.{ℕ, ◌+◌, ◌-◌, ◌≡◌, ap, ◌∙◌, List, length, take, drop}
use Rattle.std.proofs.Math.Nat.{add-sub_cancel_left}
use borrow.Rule.Slice.PartMut.{mid_of}

pub copied : (k l s : List ℕ) (at : ℕ) → k ≡ mid_of at (at + length l - at) s → k ≡ take (length l) (drop at s)
copied k l s at e = e ∙ ap (λ (n : ℕ). take n (drop at s)) (add-sub_cancel_left at (length l))
