use Rattle.std.proofs.Common.{◌∙◌, ap}
use Rattle.system.proofs.Banks.{state_fresh}
use Rattle.state.specs.Packed.{cells_of, floats_of}
use Rattle.state.specs.declared.Parts.{Parts}
use Rattle.system.proofs.wipe.reset.Goals as goal

pub returns : goal.returns
returns c = (
  state_fresh c.made.result c.clear.ensures c.fresh.ensures c.made.ensures
      c.empty_in.ensures c.clear-2.ensures (c.put_parts.ensures.2 ∙ c.fresh_parts.ensures),
  c.put_parts.ensures.0 ∙ ap (λ (x : Parts). cells_of x) c.fresh_parts.ensures,
  c.put_parts.ensures.1 ∙ ap (λ (x : Parts). floats_of x) c.fresh_parts.ensures,
)
