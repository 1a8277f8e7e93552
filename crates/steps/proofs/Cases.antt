-- One law for each way through a definition.
use Rattle.std.proofs.Common.{◌≡◌, ℕ, List, true, false, eq-eqb, ne_eqb}
use Rattle.steps.specs.declared.Output.TheVariants.{Nothing}
use Rattle.steps.specs.declared.Fed.{Fed}
use Rattle.steps.specs.declared.Session.{Session}
use Rattle.steps.specs.Machine.{World, world, world_output, with_output, grown, is_empty}
use Rattle.steps.specs.Inner.{fed_with}
use Rattle.steps.specs.Machine.{with_line, line_done, fed, finished}

-- nothing is said; docs/decisions/names.md names the law
pub no_output : {s : Session} {f : Fed} (p m : List ℕ) → f ≡ fed_with s Nothing
    → world_output f p m ≡ with_output Nothing (world s p m)
no_output p m e = rw e

-- ---- a byte
pub over_fed : (w : World) (c : ℕ) → w.session.over ≡ true → with_output Nothing w ≡ fed w c
unfolding fed
over_fed w c o = rw o

pub newline_fed : (w : World) (c : ℕ) → w.session.over ≡ false → c ≡ 10 → line_done w ≡ fed w c
unfolding fed
newline_fed w c o e = rw (o, eq-eqb _ _ e)

pub grown_fed : (w : World) (c : ℕ) {s : Session} → w.session.over ≡ false → (c ≡ 10 → ⊥)
    → s ≡ with_line w.session (grown w.session.line c)
    → with_output Nothing (world s w.page w.array) ≡ fed w c
unfolding fed
grown_fed w c o n s = rw (s, o, ne_eqb _ _ n)

-- ---- the end of the input
pub over_finished : (w : World) → w.session.over ≡ true → with_output Nothing w ≡ finished w
unfolding finished
over_finished w o = rw o

pub within_finished : (w : World) → w.session.over ≡ false → is_empty w.session.line ≡ false
    → line_done w ≡ finished w
unfolding finished
within_finished w o e = rw (o, e)
