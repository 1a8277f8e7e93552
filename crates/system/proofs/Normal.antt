-- A machine that is saved and resumed at once is the same but for period counts and places, and keeps the limits.
use mathlib.Core.Path.{refl}
use Rattle.memory.proofs.Stored.{load_fits}
use Rattle.timer.specs.Canonical.{Canonical}
use Rattle.timer.proofs.Straight.{straight_canonical, straight_waiting, straight_events}
use Rattle.keys.specs.Closed.{closed_up}
use Rattle.keys.proofs.Closed.{closed_starts, closed_codes, closed_within}
use Rattle.time.specs.Clocks.{clock_in}
use Rattle.time.specs.Resync.{clocks_resynced}
use Rattle.time.proofs.Limits.{resynced_within}
use Rattle.time.proofs.Recount.{resync_start, resync_pending}
use Rattle.system.specs.System.{Machine, buttons_in}
use Rattle.system.specs.Normal.{system_normal, normal, CarriedOn}
use Rattle.system.specs.Limits.{WithinLimits}

pub normal_limits : (m : Machine) → WithinLimits m → WithinLimits (normal m)
unfolding normal system_normal clocks_resynced
normal_limits m w = record {
  registers = w.registers;
  others = w.others;
  clocks = resynced_within m.system.registers.slots m.system.devices.clocks
      (clock_in m.sram) (load_fits m.sram 0x90A4 4) w.clocks;
  rtc = w.rtc;
  tone = w.tone;
  queue = straight_canonical m.system.queue;
  events = straight_events m.system.queue w.events;
  keys = closed_within (buttons_in m.system) m.system.devices.clocks.times.now w.keys;
  panel = w.panel;
  flash = w.flash;
}

pub normal_same : (m : Machine) → Canonical m.system.queue → CarriedOn m (normal m)
unfolding normal system_normal clocks_resynced closed_up
normal_same m good = record {
  registers = refl;
  rtc = refl;
  page = refl;
  flash = refl;
  panel = refl;
  latch = refl;
  tone = refl;
  off = refl;
  times = refl;
  irq = refl;
  vsync = refl;
  converting = refl;
  started = resync_start m.system.registers.slots m.system.devices.clocks.timers
      m.system.devices.clocks.times.now (clock_in m.sram);
  pending = resync_pending m.system.registers.slots m.system.devices.clocks.timers
      m.system.devices.clocks.times.now (clock_in m.sram);
  events = straight_waiting m.system.queue good;
  press_times = closed_starts (buttons_in m.system) m.system.devices.clocks.times.now;
  press_keys = closed_codes (buttons_in m.system) m.system.devices.clocks.times.now;
  live = refl;
  holds = refl;
  applied = refl;
  ram = refl;
  sram = refl;
  gpio = refl;
  fb = refl;
}
