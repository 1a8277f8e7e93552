-- The judged example of the panel.
use Rattle.std.specs.Prelude.{List, [], ◌∷◌}
use Rattle.whole.specs.Table.{Example}
use Rattle.panel.specs.Colour.{parted}

abbrev pub table : List Example
table =
    record { given = (parted 0x8410).r ∷ (parted 0x8410).g ∷ (parted 0x8410).b ∷ []; expected = 131 ∷ 129 ∷ 131 ∷ [] }
    ∷ []
