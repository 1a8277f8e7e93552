-- Every operation keeps the limits, refused or not, whatever it is given; so they hold after any operations from a
-- wipe on.
use Prim.Native.Nat.{ℕ}
use mathlib.Core.List.{List, [], ◌∷◌}
use lib.ListN.{length}
use Rattle.system.specs.System.{Machine}
use Rattle.system.specs.Calls.{wiped_of}
use Rattle.system.specs.Steps.{Op, read, write, advance, next_event, pending, turbo, live, hold, press}
use Rattle.system.specs.Steps.{take_event, counters, pixel, wipe}
use Rattle.system.specs.Steps.{peek8, peek32, poke, keys_held, irq_wanted, carry_on, step, after}
use Rattle.system.specs.Limits.{WithinLimits}
use Rattle.system.proofs.Kept.{fresh_limits, read_limits, live_limits, hold_limits, press_limits, take_limits}
use Rattle.system.proofs.Kept.{turbo_limits, advance_limits}
use Rattle.system.proofs.Writes.{write_limits}
use Rattle.system.proofs.FlashKept.{ram_flash}
use Rattle.system.proofs.Normal.{normal_limits}
use Rattle.system.proofs.Lengths.{step_lengths}

pub step_limits : (m : Machine) (o : Op) → WithinLimits m → WithinLimits (step m o).machine
unfolding step
step_limits m (read a n) w = read_limits m w a n
step_limits m (write a n v) w = write_limits m w a n v
step_limits m (advance t) w = advance_limits m t w
step_limits m next_event w = w
step_limits m pending w = w
step_limits m (turbo t) w = turbo_limits m w t
step_limits m (live k down) w = live_limits m w k down
step_limits m (hold k t) w = hold_limits m w k t
step_limits m (press k t) w = press_limits m w k t
step_limits m take_event w = take_limits m w
step_limits m counters w = w
step_limits m (pixel k) w = w
step_limits m wipe w = fresh_limits (length m.ram) (length m.sram) (length m.gpio) (length m.fb)
step_limits m (peek8 a) w = w
step_limits m (peek32 a) w = w
step_limits m (poke a bytes) w = record {
  registers = w.registers;
  others = w.others;
  clocks = w.clocks;
  rtc = w.rtc;
  tone = w.tone;
  queue = w.queue;
  events = w.events;
  keys = w.keys;
  panel = w.panel;
  flash = ram_flash m.system.devices.flash m.system.page m.ram _ (step_lengths m (poke a bytes)).ram
      w.flash;
}
step_limits m keys_held w = w
step_limits m irq_wanted w = w
step_limits m carry_on w = normal_limits m w

pub after_limits : (m : Machine) (os : List Op) → WithinLimits m → WithinLimits (after m os)
unfolding after
after_limits m [] w = w
after_limits m (o ∷ os) w = after_limits (step m o).machine os (step_limits m o w)

-- over memories of any lengths
pub run_limits : (ram sram gpio fb : ℕ) (os : List Op) → WithinLimits (after (wiped_of ram sram gpio fb) os)
run_limits ram sram gpio fb os = after_limits (wiped_of ram sram gpio fb) os (fresh_limits ram sram gpio fb)
