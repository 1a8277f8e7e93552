-- The presses that wait, in the first places: what a saved session says of the presses.
use Rattle.std.specs.Prelude.{ℕ, zero, suc, ◌+◌, cond, List, [], ◌∷◌, Float, get_or}
use Rattle.std.specs.Float.{nan}
use Rattle.whole.specs.Forms.{nought}
use Rattle.whole.specs.Rows.{tabled}
use Rattle.keys.specs.Keys.{Buttons, buttons}
use Rattle.keys.specs.Script.{waits, places_of, waiting_in}
use Rattle.keys.specs.Within.{with_count}

-- of n presses from the i-th on, what l has of those that wait
unfoldable pub waiting_of : {A : Type 0} → List A → A → List Float → Float → ℕ → ℕ → List A
waiting_of l d starts now i zero = []
waiting_of l d starts now i (suc n) =
    cond (waits (get_or starts i nan) now) (get_or l i d ∷ waiting_of l d starts now (i + 1) n)
    (waiting_of l d starts now (i + 1) n)

-- 64 places, with d past the last
unfoldable pub padded : {A : Type 0} → List A → A → List A
padded l d = tabled (λ i. get_or l i d) 64

unfoldable pub closed_up : Buttons → Float → Buttons
closed_up b now =
    let n = places_of b.keys.count in
    buttons (padded (waiting_of b.starts nan b.starts now 0 n) nought)
    (padded (waiting_of b.codes 0 b.starts now 0 n) 0)
    (with_count b.keys (waiting_in b.starts now n))
