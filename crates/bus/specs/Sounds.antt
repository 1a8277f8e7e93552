-- The timers' control words and the buzzer: timer_write_ctrl, sound_update.
use Rattle.std.specs.Prelude.{ℕ, Bool, true, false, cond, List, get_or, eqb, Err, None, Ok, Some}
use Rattle.map.specs.Refusals.{code_of}
use Rattle.map.specs.Numbers.{SOUND_TIMER, SOUND_CONTROL, SOUND_RELOAD, SOUND_COMPARE, DONE}
use Rattle.registers.specs.Words.{own_at, own_with}
use Rattle.timer.specs.declared.Event.{Event}
use Rattle.timer.specs.declared.Queue.{Queue}
use Rattle.timer.specs.declared.Timer.{Timer}
use Rattle.timer.specs.declared.Tone.{Tone}
use Rattle.timer.specs.declared.Written.{Written}
use Rattle.timer.specs.Sound.{Sounded}
use Rattle.timer.specs.Timers.{written_of}
use Rattle.timer.specs.Sound.{tone_of, sounded_of}
use Rattle.timer.specs.Events.{put_of}
use Rattle.state.specs.Parts.{none, timer_with, with_clocks, with_tone}
use Rattle.state.specs.declared.Devices.{Devices}
use Rattle.bus.specs.World.{OwnOut, own_out, answer, own_done}

abbrev pub timer_set : Devices → ℕ → Timer → Devices
timer_set d n t = with_clocks d (timer_with d.clocks n t)

-- the buzzer by timer 4's control, reload and compare words, once one of them is v
unfoldable pub sound_of : List ℕ → Tone → ℕ → Bool → ℕ → ℕ → Sounded
sound_of slots tone clock full word v =
    sounded_of tone full
    (tone_of clock
    (cond (eqb word SOUND_CONTROL) v (own_at slots SOUND_CONTROL))
    (cond (eqb word SOUND_RELOAD) v (own_at slots SOUND_RELOAD))
    (cond (eqb word SOUND_COMPARE) v (own_at slots SOUND_COMPARE)))

-- the word is stored and the devices are the next ones, with the new tone; or nothing changes
abbrev pub sounding : Sounded → List ℕ → Devices → Devices → ℕ → ℕ → OwnOut
sounding (Err r) slots d next word v = own_out slots (answer (code_of r) d)
sounding (Ok None) slots d next word v = own_done (own_with slots word v) next
sounding (Ok (Some tone)) slots d next word v = own_out (own_with slots word v)
    (record { refusal = DONE; event = true; devices = with_tone next tone })

unfoldable pub sound_written : List ℕ → Devices → Devices → ℕ → Bool → ℕ → ℕ → OwnOut
sound_written slots d next clock full word v = sounding (sound_of slots d.tone clock full word v) slots d next word v

abbrev pub control_written : Written → List ℕ → Devices → ℕ → Bool → ℕ → ℕ → OwnOut
control_written x slots d clock full n word =
    cond (eqb n SOUND_TIMER) (sound_written slots d (timer_set d n x.timer) clock full word x.control)
    (own_done (own_with slots word x.control) (timer_set d n x.timer))

-- the control word of timer n
unfoldable pub timer_written : List ℕ → Devices → ℕ → Bool → ℕ → ℕ → ℕ → ℕ → OwnOut
timer_written slots d clock full n word old new =
    control_written (written_of (get_or d.clocks.timers n none) d.clocks.times.now new old)
    slots d clock full n word

-- ---- the sound queue

-- the event of a change: from the devices' time on, their tone
abbrev pub sound_now : Devices → Event
sound_now d = record { time = d.clocks.times.now; frequency = d.tone.frequency; duty = d.tone.duty }

-- the queue after a write that made an event, or none
abbrev pub noted : Queue → Devices → Bool → Queue
noted q d true = (put_of q (sound_now d)).queue
noted q d false = q
