-- What contracts of inner functions speak of. No public contract and no theorem that docs/PROMISES.md cites does, so
-- a reader may pass it over.
use Rattle.timer.specs.Events.{queue_of}
use Rattle.state.specs.declared.Parts.{Parts}
use Rattle.state.specs.Parts.{parts}
use Rattle.system.specs.declared.System.{System}
use Rattle.system.specs.System.{system_of}

-- what a state holds beside arrays
abbrev pub parts_of : System → Parts
parts_of s = parts s.devices s.queue.ring s.keys

abbrev pub with_parts : System → Parts → System
with_parts s x =
    system_of s.registers s.rtc s.page x.devices (queue_of s.queue.onsets s.queue.frequencies
    s.queue.duties x.ring)
    s.presses x.keys
