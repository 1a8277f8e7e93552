use Rattle.std.proofs.Common.{arith}
use Rattle.memory.proofs.Cases.{place_ram, place_gpio, place_low, place_middle, place_sram, past_sram, place_high}
use Rattle.memory.proofs.Cases.{past_high, place_stray}
use Rattle.memory.proofs.locate.Goals as goal

pub returns-in-32 : goal.returns-in-32
returns-in-32 c = place_ram _ c.in-32.is

pub returns-in-192 : goal.returns-in-192
returns-in-192 c = place_gpio _ c.in-192.is c.if-addr-lt-GPIO_END.true

pub returns-in-192-2 : goal.returns-in-192-2
returns-in-192-2 c = place_low _ (omega arith) (omega arith)

pub returns-in-208 : goal.returns-in-208
returns-in-208 c = place_middle _ c.in-208.is

pub returns-in-248 : goal.returns-in-248
returns-in-248 c = place_sram _ (omega arith) (omega arith)

pub returns-in-255 : goal.returns-in-255
returns-in-255 c = place_high _ (omega arith) (omega arith)

pub returns-in_default : goal.returns-in_default
returns-in_default c = past_sram _ c.in-248.is c.if-addr-lt-SRAM_END.false

pub returns-in_default-2 : goal.returns-in_default-2
returns-in_default-2 c = past_high _ c.in-255.is c.if-addr-lt-REGISTERS_END.false

pub returns-in_default-3 : goal.returns-in_default-3
returns-in_default-3 c =
    place_stray _ (omega arith) (omega arith) (omega arith) (omega arith) (omega arith)
