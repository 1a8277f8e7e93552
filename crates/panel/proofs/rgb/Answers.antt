use Rattle.std.proofs.Common.{sym, ◌∙◌}
use Rattle.panel.proofs.Drawn.{whole_shown}
use Rattle.panel.proofs.Cases.{picture_serves, picture_no_room, picture_refused}
use Rattle.panel.proofs.rgb.Goals as goal

pub returns-then-out-eq-SCREEN_BYTES : goal.returns-then-out-eq-SCREEN_BYTES
returns-then-out-eq-SCREEN_BYTES c =
    let whole = c.if-framebuffer-eq-FRAMEBUFFER_SIZE.true in
    let room = c.if-out-eq-SCREEN_BYTES.true in
    picture_serves _ _ _ whole room (c.screen.ensures ∙ whole_shown _ _ whole room)

pub returns-else-out-eq-SCREEN_BYTES : goal.returns-else-out-eq-SCREEN_BYTES
returns-else-out-eq-SCREEN_BYTES c = sym (picture_no_room _ _ c.if-framebuffer-eq-FRAMEBUFFER_SIZE.true
    c.if-out-eq-SCREEN_BYTES.false)

pub returns-else-framebuffer-eq-FRAMEBUFFER_SIZE : goal.returns-else-framebuffer-eq-FRAMEBUFFER_SIZE
returns-else-framebuffer-eq-FRAMEBUFFER_SIZE c = sym (picture_refused _ _ c.if-framebuffer-eq-FRAMEBUFFER_SIZE.false)
