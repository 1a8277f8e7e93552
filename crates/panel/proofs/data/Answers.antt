use Rattle.std.proofs.Common.{sym}
use Rattle.panel.proofs.Cases.{data_serves, data_refused}
use Rattle.panel.proofs.data.Goals as goal

pub returns-then-framebuffer-eq-FRAMEBUFFER_SIZE : goal.returns-then-framebuffer-eq-FRAMEBUFFER_SIZE
returns-then-framebuffer-eq-FRAMEBUFFER_SIZE c =
    data_serves _ _ _ _ _ c.if-framebuffer-eq-FRAMEBUFFER_SIZE.true
    c.«data».ensures

pub returns : goal.returns
returns c = sym (data_refused _ _ _ c.if-framebuffer-eq-FRAMEBUFFER_SIZE.false)
