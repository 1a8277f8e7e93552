-- The whole state over the bank and the arrays that are lent beside it.
use Rattle.std.specs.Prelude.{ℕ, List, Float}
use Rattle.registers.specs.Words.{registers_of}
use Rattle.timer.specs.Events.{ring_of, queue_of}
use Rattle.keys.specs.Keys.{fresh_keys}
use Rattle.state.specs.declared.Parts.{Parts}
use Rattle.state.specs.Parts.{parts}
use Rattle.system.specs.declared.System.{System}
use Rattle.system.specs.System.{Machine, machine, system_of, presses, fresh_devices}

abbrev pub fresh_parts : Parts
fresh_parts = parts fresh_devices (ring_of 0 0) fresh_keys

-- the state that parts and lent lists make: the words; the RTC's registers; the page; the waiting events; the presses
abbrev pub state_in : List ℕ → List ℕ → List ℕ → List ℕ → List ℕ → List Float → List Float → List Float → List Float
    → List ℕ → Parts → System
state_in slots addresses values rtc page onsets frequencies duties starts codes x =
    system_of (registers_of slots addresses values) rtc page x.devices (queue_of onsets frequencies duties x.ring)
    (presses starts codes) x.keys

-- and the machine, with the four memories
abbrev pub machine_of : List ℕ → List ℕ → List ℕ → List ℕ → List ℕ → List Float → List Float → List Float → List Float
    → List ℕ → Parts → List ℕ → List ℕ → List ℕ → List ℕ → Machine
machine_of slots addresses values rtc page onsets frequencies duties starts codes x ram sram gpio fb =
    machine (state_in slots addresses values rtc page onsets frequencies duties starts codes x) ram sram gpio fb
