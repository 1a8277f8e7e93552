-- What meets a contract is the only thing that does.
use Rattle.std.proofs.Common.{◌≡◌, ℕ, sym, ap, ◌∙◌}
use lib.Ieee.{Float}
use Rattle.whole.specs.Cut.{Cut}

-- a contract that is an equation
pub unique : {A : Type 0} {d x y : A} → x ≡ d → y ≡ d → x ≡ y
unique p q = p ∙ sym q

-- what can be got back from its number is known by it
pub same_by_number : {A : Type 0} (number : A → ℕ) (of : ℕ → A) → ((a : A) → of (number a) ≡ a) → (a b : A)
    → number a ≡ number b → a ≡ b
same_by_number number of back a b e = sym (back a) ∙ ap of e ∙ back b

pub one_whole : (x : Float) (m n : ℕ) → Cut x m → Cut x n → m ≡ n
one_whole x m n p q = unique p.cast q.cast
