-- 01's numbers of the refusals, and of what a call answers.
use Rattle.std.specs.Prelude.{ℕ, Result, Ok, Err}
use Rattle.std.specs.Result.{result_unwrap_or}
use Rattle.map.specs.declared.refusals.Refusal.{Refusal}
use Rattle.map.specs.declared.refusals.Refusal.TheVariants.{BadTime, BadTurbo, KeysFull, RegistersFull, SoundFull}
use Rattle.map.specs.declared.refusals.Refusal.TheVariants.{StrayWrite, BadMemory, BadKey, BadSize, BadScript}
use Rattle.map.specs.declared.refusals.Refusal.TheVariants.{OutTooShort, NoEvent, NoNextTime, BadSave, SaveTooShort}
use Rattle.map.specs.Numbers.{DONE, BAD_TIME, BAD_TURBO, KEYS_FULL, REGISTERS_FULL, SOUND_FULL, STRAY_WRITE}
use Rattle.map.specs.Numbers.{BAD_MEMORY, BAD_KEY, BAD_SIZE, BAD_SCRIPT, OUT_TOO_SHORT, NO_EVENT, NO_NEXT_TIME}
use Rattle.map.specs.Numbers.{BAD_SAVE, SAVE_TOO_SHORT}

abbrev pub code_of : Refusal → ℕ
code_of BadTime = BAD_TIME
code_of BadTurbo = BAD_TURBO
code_of KeysFull = KEYS_FULL
code_of RegistersFull = REGISTERS_FULL
code_of SoundFull = SOUND_FULL
code_of StrayWrite = STRAY_WRITE
code_of BadMemory = BAD_MEMORY
code_of BadKey = BAD_KEY
code_of BadSize = BAD_SIZE
code_of BadScript = BAD_SCRIPT
code_of OutTooShort = OUT_TOO_SHORT
code_of NoEvent = NO_EVENT
code_of NoNextTime = NO_NEXT_TIME
code_of BadSave = BAD_SAVE
code_of SaveTooShort = SAVE_TOO_SHORT

-- 0 where a call is done
abbrev pub number_of : {A : Type 0} → Result A Refusal → ℕ
number_of (Ok x) = DONE
number_of (Err r) = code_of r

-- what a call answers, or what stands there where it is refused
abbrev pub value_or : {A : Type 0} → Result A Refusal → A → A
value_or r d = result_unwrap_or r d
