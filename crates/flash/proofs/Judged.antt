-- Each example of the table holds, over every array that is accepted.
use Rattle.std.proofs.Common.{◌≡◌, ℕ, List, refl, ◌∙◌}
use Rattle.whole.specs.Table.{All}
use Rattle.flash.specs.Xfer.{kind_of, answer_of}
use Rattle.flash.specs.Run.{Good, answers}
use Rattle.flash.specs.Table.{made, steps, identity, maker, table}
use Rattle.flash.specs.Rust.{default}
use Rattle.flash.specs.declared.Mode.TheVariants.{Rust}
use Rattle.flash.proofs.Whole.{list_answers}
use Rattle.flash.proofs.Runs.{answers_view}

-- the answers are worked out where the transaction is the whole list of its bytes
row : (m sent expected : List ℕ) → Good m → list_answers Rust (default m) (steps sent) ≡ expected
    → answers (made m) (steps sent) ≡ expected
row m sent expected g h = answers_view Rust (steps sent) (default m) g ∙ h

pub judged : (m : List ℕ) → Good m → All (table m)
unfolding kind_of answer_of
judged m g = (row m identity _ g refl, (row m maker _ g refl, tt))
