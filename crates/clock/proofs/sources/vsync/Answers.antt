use Rattle.std.proofs.Common.{ℕ, ap, ◌∙◌}
use Rattle.clock.specs.Sources.{signal_of}
use Rattle.clock.proofs.sources.vsync.Goals as goal

pub returns : goal.returns
returns c =
    let a = c.args in
    c.signal.ensures ∙ ap (λ (n : ℕ). signal_of n a.last a.status 0x2000) c.whole.ensures.cast
