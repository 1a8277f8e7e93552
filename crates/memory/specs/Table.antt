-- The judged examples of register accesses: a word and a half, each written over zero.
use Rattle.std.specs.Prelude.{List, [], ◌∷◌}
use Rattle.whole.specs.Table.{Example}
use Rattle.memory.specs.Access.{merged_of}

abbrev pub table : List Example
table =
    record { given = merged_of 0 0xC0100002 4 0x11223344 ∷ []; expected = 0x33440000 ∷ [] }
    ∷ record { given = merged_of 0 0xC0100003 2 0xBEEF ∷ []; expected = 0xEF000000 ∷ [] }
    ∷ []
