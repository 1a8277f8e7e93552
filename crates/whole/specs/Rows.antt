-- Lists that are said place by place.
use Rattle.std.specs.Prelude.{ℕ, zero, suc, List, [], ◌∷◌, ◌++◌}

-- f of each number below n
unfoldable pub tabled : {A : Type 0} → (ℕ → A) → ℕ → List A
tabled f zero = []
tabled f (suc n) = tabled f n ++ (f n ∷ [])
