use Rattle.clock.proofs.Cases.{commands_latch, commands_put, commands_ask, commands_nothing}
use Rattle.clock.proofs.chip.rtc_command.Goals as goal

pub returns-then-at-eq21 : goal.returns-then-at-eq21
returns-then-at-eq21 c =
    let a = c.args in
    commands_latch a.latch _ a.game a.address a.word a.cmd _ c.if-cmd-ne0.true
    c.if-at-eq21.true
    c.latched.ensures

pub returns-then-cmd-ne0 : goal.returns-then-cmd-ne0
returns-then-cmd-ne0 c =
    let a = c.args in
    commands_put a.latch _ a.game a.address a.word a.cmd c.if-cmd-ne0.true c.if-at-eq21.false

pub returns-then-cmd-ne0-2 : goal.returns-then-cmd-ne0-2
returns-then-cmd-ne0-2 c =
    let a = c.args in
    commands_ask a.latch _ a.game a.address a.word a.cmd _ c.if-cmd-ne0.false
    c.if-cmd-ne0-2.true
    c.output-out.ensures

pub returns : goal.returns
returns c =
    let a = c.args in
    commands_nothing a.latch _ a.game a.address a.word a.cmd c.if-cmd-ne0.false c.if-cmd-ne0-2.false
