-- A table that a loop fills.
use Rattle.std.proofs.Common.{◌≡◌, ℕ, zero, suc, ◌+◌, ◌<◌, List, [], ◌∷◌, ◌++◌, length, take, drop, set, refl, ap}
use Rattle.std.proofs.Common.{append-nil, le_of_eq, le_refl, le_of_suc-le-suc, not-suc-le-zero, arith}
use Rattle.std.proofs.Common.{drop_of_length-le, take_all}
use Rattle.block.specs.Block.{table}

pub table_step : (f : ℕ → ℕ) (k i j : ℕ) (d : List ℕ) → i + k ≡ j → k < length d
    → set (take k (table f i (length d)) ++ drop k d) k (f j) ≡ take (suc k) (table f i (length d)) ++ drop (suc k) d
unfolding table
table_step f k i j [] e l = absurd (not-suc-le-zero l)
table_step f zero i j (x ∷ d) e l = let z : j ≡ i = omega arith in ap (λ (n : ℕ). f n ∷ d) z
table_step f (suc k) i j (x ∷ d) e l = ap (λ (t : List ℕ). f i ∷ t) (table_step f k (suc i) j d (omega arith)
    (le_of_suc-le-suc l))

pub table_long : (f : ℕ → ℕ) (i n : ℕ) → length (table f i n) ≡ n
unfolding table
table_long f i zero = refl
table_long f i (suc n) = ap suc (table_long f (suc i) n)

pub table_whole : (f : ℕ → ℕ) (d : List ℕ) → take (length d) (table f 0 (length d)) ++ drop (length d) d ≡ table f 0
    (length d)
table_whole f d =
    rw (drop_of_length-le d (le_refl (length d)), append-nil) (take_all (length d) (table f 0 (length d))
    (le_of_eq (table_long f 0 (length d))))
