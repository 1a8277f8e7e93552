-- What is copied from as many bytes is all of them; and how long a part of a list is.
use Rattle.std.proofs.Common.{◌≡◌, List, ℕ, ◌+◌, ◌-◌, ◌≤◌, ◌++◌, length, take, drop, append-nil, le_of_eq, sym, arith}
use Rattle.std.proofs.Common.{take_all, drop_of_length-le, length-take, length-drop}
use Rattle.std.proofs.Math.Nat.{add-sub_cancel_left}
use borrow.Rule.Slice.PartMut.{mid_of}

pub copied_whole : (to from : List ℕ) → length to ≡ length from
    → take (length to) from ++ drop (length from) to ≡ from
copied_whole to from n =
    rw (take_all (length to) from (le_of_eq (sym n)), drop_of_length-le to (le_of_eq n)) (append-nil from)

pub part_long : (at n : ℕ) (xs : List ℕ) → at + n ≤ length xs → length (mid_of at (at + n - at) xs) ≡ n
part_long at n xs fits =
    rw (add-sub_cancel_left at n) (omega (arith, length-take n (drop at xs), length-drop at xs))
