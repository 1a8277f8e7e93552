-- The test of the position, and one turn of the loop over the page.
use Prim.Native.Nat.{ℕ, ◌+◌, ◌-◌, ◌≤◌, ◌<◌}
use mathlib.Core.Path.{◌≡◌, sym, ap, ◌∙◌}
use mathlib.Core.Bool.{Bool, true, ◌&&◌}
use mathlib.Core.List.{List}
use native.Mathlib.Numerals.{add-one}
use native.Mathlib.Omega.{arith}
use lib.ListN.{get_or}
use lib.Dec.{leb}
use borrow.Author.Tests.{le-leb, lt-leb}
use Rattle.whole.proofs.Choice.{by_less}
use Rattle.flash.specs.declared.Trans.{Trans}
use Rattle.reach.specs.Reach.{slot_ok, page_ok}

pub within_low : (n pos : ℕ) → pos ≤ 4 → true ≡ leb pos (n + 4)
within_low n pos h = sym (le-leb pos (n + 4) (omega arith))

pub within_high : (n pos : ℕ) → 4 < pos → leb (pos - 4) n ≡ leb pos (n + 4)
within_high n pos h =
    by_less n (pos - 4)
    (λ l. lt-leb (pos - 4) n l ∙ sym (lt-leb pos (n + 4) (omega arith)))
    (λ l. le-leb (pos - 4) n l ∙ sym (le-leb pos (n + 4) (omega arith)))

pub page_next : (t : Trans) (p : List ℕ) (i : ℕ) (good here : Bool) → good ≡ page_ok t p i
    → here ≡ slot_ok t i (get_or p i 0) → (here && good) ≡ page_ok t p (i + 1)
unfolding page_ok
page_next t p i good here g h = rw (add-one, g, h)

pub page_end : (t : Trans) (p : List ℕ) (i : ℕ) (good : Bool) → good ≡ page_ok t p i → i ≤ 256 → 256 ≤ i
    → good ≡ page_ok t p 256
page_end t p i good g h l = let z : i ≡ 256 = omega arith in g ∙ ap (λ (k : ℕ). page_ok t p k) z
