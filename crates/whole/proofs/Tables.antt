-- What holds of each of some tables of examples holds of the one table that they make.
use Rattle.std.proofs.Common.{List, [], ◌∷◌, ◌++◌}
use mathlib.Core.List.{flatten}
use Rattle.whole.specs.Table.{Example, All}

pub all_append : (xs ys : List Example) → All xs → All ys → All (xs ++ ys)
all_append [] ys h k = k
all_append (x ∷ xs) ys h k = (h.0, all_append xs ys h.1 k)

abbrev pub Each : List (List Example) → Type 0
Each [] = Unit {0}
Each (t ∷ ts) = All t × Each ts

pub all_flatten : (ts : List (List Example)) → Each ts → All (flatten ts)
unfolding flatten
all_flatten [] h = tt
all_flatten (t ∷ ts) h = all_append t (flatten ts) h.0 (all_flatten ts h.1)
