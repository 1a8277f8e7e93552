-- What each call answers and leaves, by the definitions of the crates below.
use Rattle.std.specs.Prelude.{ℕ, Bool, List, Float, replicate, Err, Ok, Result}
use Rattle.map.specs.declared.refusals.Refusal.{Refusal}
use Rattle.map.specs.Refusals.{code_of, number_of, value_or}
use Rattle.map.specs.Numbers.{DONE}
use Rattle.clock.specs.Times.{Paced}
use Rattle.clock.specs.Times.{paced_of}
use Rattle.timer.specs.Events as events
use Rattle.timer.specs.declared.Event.{Event}
use Rattle.timer.specs.Events.{TakeOutcome, nothing}
use Rattle.keys.specs.declared.Held.{Held}
use Rattle.keys.specs.Live as live
use Rattle.keys.specs.Script as script
use Rattle.keys.specs.Within.{with_count, with_applied}
use Rattle.time.specs.Next.{NextTime}
use Rattle.time.specs.Irq as irq
use Rattle.time.specs.Advance as move
use Rattle.time.specs.Next as next
use Rattle.bus.specs.World.{Out}
use Rattle.bus.specs.Write as write
use Rattle.time.specs.Clocks.{clock_in}
use Rattle.bus.specs.Read as read
use Rattle.bus.specs.Read.{ReadOut}
use Rattle.system.specs.declared.System.{System}
use Rattle.system.specs.declared.Counters.{Counters}
use Rattle.bus.specs.Sounds.{noted}
use Rattle.system.specs.System.{Machine, machine, Left, left, presses, with_slots, with_clocks, with_times, with_keys}
use Rattle.system.specs.System.{with_presses, with_queue, world_in, with_world, fresh_system}

-- 01's number, and the later state
pub record Changed : Type 0 where
  pub refusal : ℕ
  pub system : System

-- with the word that was read
pub record Read : Type 0 where
  pub refusal : ℕ
  pub value : ℕ
  pub system : System

-- with the event that was taken
pub record Taken : Type 0 where
  pub refusal : ℕ
  pub event : Event
  pub system : System

-- what a call answers on the state s: where it refuses, s stays, beside the word 0 or an event of zeros
abbrev pub changed_by : System → Result System Refusal → Changed
changed_by s r = record { refusal = number_of r; system = value_or r s }

abbrev pub read_by : System → Result (ℕ × System) Refusal → Read
read_by s r = record { refusal = number_of r; value = (value_or r (0, s)).0; system = (value_or r (0, s)).1 }

abbrev pub taken_by : System → Result (Event × System) Refusal → Taken
taken_by s r =
    record { refusal = number_of r; event = (value_or r (nothing, s)).0; system = (value_or r (nothing, s)).1 }

abbrev pub changed : ℕ → System → Changed
changed n s = record { refusal = n; system = s }

-- ---- reads and writes

abbrev pub reading : System → ReadOut → Read
reading s x = record { refusal = x.got.refusal; value = x.got.value; system = with_slots s x.slots }

unfoldable pub read_of : System → List ℕ → List ℕ → List ℕ → ℕ → ℕ → Read
read_of s ram sram gpio a n = reading s (read.read_of s.registers ram sram gpio s.devices a n)

abbrev pub writing : Machine → Out → Left
writing m x = left (with_world m x.world (noted m.system.queue x.world.devices x.event)) x.refusal

unfoldable pub write_of : Machine → ℕ → ℕ → ℕ → Left
write_of m a n v = writing m (write.write_of (world_in m) (events.full_of m.system.queue.ring) a n v)

-- ---- time

-- the state, the GPIO memory and 01's number
pub record Moved : Type 0 where
  pub changed : Changed
  pub gpio : List ℕ

abbrev pub moved : Changed → List ℕ → Moved
moved c gpio = record { changed = c; gpio = gpio }

abbrev pub moving : System → move.Outcome → Moved
moving s x =
    moved (changed x.refusal (with_keys (with_clocks (with_slots s x.slots) x.clocks)
    (with_applied s.keys x.applied))) x.gpio

unfoldable pub advance_of : System → List ℕ → List ℕ → Float → Moved
advance_of s sram gpio to =
    moving s (move.advance_of s.registers.slots gpio s.presses.starts s.presses.codes s.devices.clocks
    s.keys (clock_in sram) to)

unfoldable pub next_of : System → List ℕ → NextTime
next_of s sram = next.next_of s.registers.slots s.presses.starts s.devices.clocks s.keys (clock_in sram)

abbrev pub pacing : System → Paced → Changed
pacing s (Ok t) = changed DONE (with_times s t)
pacing s (Err r) = changed (code_of r) s

unfoldable pub turbo_of : System → Float → Changed
turbo_of s to = pacing s (paced_of s.devices.clocks.times to)

unfoldable pub pending_of : System → ℕ
pending_of s = irq.pending_of s.registers.slots s.devices.clocks.timers

unfoldable pub wanted_of : System → Bool
wanted_of s = irq.wanted_of s.registers.slots s.devices.clocks.timers

abbrev pub taking : System → TakeOutcome → Taken
taking s x = record { refusal = x.refusal; event = x.event; system = with_queue s x.queue }

unfoldable pub take_of : System → Taken
take_of s = taking s (events.take_of s.queue)

-- ---- keys

unfoldable pub live_of : System → ℕ → Bool → Changed
live_of s key down = changed (live.live_of s.keys key down).refusal
    (with_keys s (live.live_of s.keys key down).keys)

unfoldable pub hold_of : System → ℕ → Float → Changed
hold_of s key until = changed (live.hold_of s.keys key until).refusal
    (with_keys s (live.hold_of s.keys key until).keys)

abbrev pub pressing : System → script.Outcome → Changed
pressing s x =
    changed x.refusal (with_presses (with_keys s (with_count s.keys x.script.count))
    (presses x.script.starts x.script.codes))

unfoldable pub press_of : System → ℕ → Float → Changed
press_of s key at =
    pressing s (script.press_of (script.script s.presses.starts s.presses.codes s.keys.count) key at
    s.devices.clocks.times.now)

unfoldable pub held_of : System → Held
held_of s = live.held_of s.presses.starts s.presses.codes s.keys s.devices.clocks.times.now

-- ---- counters, wipe

abbrev pub counters_of : System → Counters
counters_of s = record {
  frames = s.devices.panel.pen.frames;
  writes = s.devices.flash.writes;
  off =
      s.devices.off;
}

-- of memories of these lengths
unfoldable pub wiped_of : ℕ → ℕ → ℕ → ℕ → Machine
wiped_of ram sram gpio fb = machine fresh_system (replicate ram 0) (replicate sram 0) (replicate gpio 0)
    (replicate fb 0)
