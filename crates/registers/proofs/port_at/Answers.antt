-- In each arm the slot is the arm's, and `port_at` computes; past all of them there is none.
use Rattle.std.proofs.Common.{lt-ltb}
use Rattle.registers.specs.Ports.{port_at}
use Rattle.registers.proofs.Cases.{past_missed}
use Rattle.registers.proofs.Slots.{port_past}
use Rattle.registers.proofs.port_at.Goals as goal

pub returns-then-s-lt48 : goal.returns-then-s-lt48
unfolding port_at
returns-then-s-lt48 c = rw (lt-ltb _ _ c.if-s-lt48.true) c.timer_port.ensures

pub returns-in_default : goal.returns-in_default
returns-in_default c = port_past _ (past_missed 28 48 _ _ c.if-s-lt48.false c.in_default.in_default-own.rest)
