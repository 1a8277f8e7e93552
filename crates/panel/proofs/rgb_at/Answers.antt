use Rattle.std.proofs.Common.{sym, ◌∙◌}
use Rattle.panel.proofs.Cases.{pixel_done, pixel_refused}
use Rattle.panel.proofs.rgb_at.Goals as goal

pub returns-then-framebuffer-eq-FRAMEBUFFER_SIZE : goal.returns-then-framebuffer-eq-FRAMEBUFFER_SIZE
returns-then-framebuffer-eq-FRAMEBUFFER_SIZE c = (cc) ∙ sym (pixel_done _ _ c.if-framebuffer-eq-FRAMEBUFFER_SIZE.true)

pub returns : goal.returns
returns c = sym (pixel_refused _ _ c.if-framebuffer-eq-FRAMEBUFFER_SIZE.false)
