use Rattle.std.proofs.Common.{ℕ, ap, ◌∙◌}
use Rattle.clock.specs.Sources.{signal_of}
use Rattle.clock.specs.declared.Signal.{Signal}
use Rattle.clock.proofs.sources.rtc_irq_advance.Goals as goal

pub returns : goal.returns
returns c =
    let a = c.args in
    ap (λ (s : Signal). record {
      irq = record { fired = s.seen; base = a.irq.base; set = a.irq.set };
      status = s.status;
    })
    (c.signal-s.ensures ∙ ap (λ (n : ℕ). signal_of n a.irq.fired a.status 2) c.whole.ensures.cast)
