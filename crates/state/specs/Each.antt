-- What is the same of each timer, over their number: all of them in a list, any of them, one after the other.
use Rattle.std.specs.Prelude.{ℕ, zero, suc, ◌+◌, Bool, false, ◌||◌, List, [], ◌∷◌}

-- f of i and of the k - 1 numbers after it
abbrev pub list_of : {A : Type 0} → (ℕ → A) → ℕ → ℕ → List A
list_of f i zero = []
list_of f i (suc k) = f i ∷ list_of f (i + 1) k

abbrev pub any_of : (ℕ → Bool) → ℕ → ℕ → Bool
any_of f i zero = false
any_of f i (suc zero) = f i
any_of f i (suc (suc k)) = f i || any_of f (i + 1) (suc k)

-- from x on by f of each
abbrev pub through : {A : Type 0} → (ℕ → A → A) → ℕ → ℕ → A → A
through f i zero x = x
through f i (suc k) x = through f (i + 1) k (f i x)
