-- Each edge is refused or not as the table says.
use Rattle.std.proofs.Common.{refl}
use lib.Ieee.{of_bits}
use Rattle.whole.specs.Table.{All}
use Rattle.whole.specs.Edges.{edges}

pub judged : All edges
unfolding of_bits
judged = (
  refl,
  (
    refl,
    (
      refl,
      (
        refl,
        (
          refl,
          (refl, (refl, (refl, (refl, (refl, (refl, (refl, (refl, (refl, (refl, (refl, tt))))))))))),
        ),
      ),
    ),
  ),
)
