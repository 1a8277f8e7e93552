-- What the state holds beside arrays, and the same with one part replaced.
use Rattle.std.specs.Prelude.{ℕ, Bool, false, List, set, Float}
use Rattle.std.specs.Float.{nan}
use Rattle.flash.specs.declared.Chip.{Chip}
use Rattle.flash.specs.declared.Trans.{Trans}
use Rattle.panel.specs.declared.Panel.{Panel}
use Rattle.panel.specs.declared.Pen.{Pen}
use Rattle.panel.specs.Lcd.{with_pen}
use Rattle.clock.specs.declared.Times.{Times}
use Rattle.clock.specs.declared.Latch.{Latch}
use Rattle.clock.specs.declared.RtcIrq.{RtcIrq}
use Rattle.timer.specs.declared.Timer.{Timer}
use Rattle.timer.specs.declared.Tone.{Tone}
use Rattle.timer.specs.declared.Ring.{Ring}
use Rattle.keys.specs.declared.Keys.{Keys}
use Rattle.keys.specs.Within.{with_count, with_applied}
use Rattle.keys.specs.Live.{held_with, holds_with, with_live, with_holds}
use Rattle.state.specs.declared.Clocks.{Clocks}
use Rattle.state.specs.declared.Devices.{Devices}
use Rattle.state.specs.declared.Parts.{Parts}

-- stands for a timer past the sixth, which there is none of
abbrev pub none : Timer
none = record { start = nan; seen = 0; pending = false }

-- ---- the clocks

abbrev pub clocks_of : Times → List Timer → RtcIrq → ℕ → Bool → Clocks
clocks_of t ts i n b = record { times = t; timers = ts; irq = i; vsync = n; converting = b }

abbrev pub turbo_with : Times → Float → Times
turbo_with t turbo = record { now = t.now; game = t.game; turbo = turbo }

abbrev pub times_with : Clocks → Times → Clocks
times_with c times = clocks_of times c.timers c.irq c.vsync c.converting

abbrev pub timers_with : Clocks → List Timer → Clocks
timers_with c timers = clocks_of c.times timers c.irq c.vsync c.converting

abbrev pub timer_with : Clocks → ℕ → Timer → Clocks
timer_with c n t = timers_with c (set c.timers n t)

abbrev pub irq_with : Clocks → RtcIrq → Clocks
irq_with c irq = clocks_of c.times c.timers irq c.vsync c.converting

abbrev pub vsync_with : Clocks → ℕ → Clocks
vsync_with c n = clocks_of c.times c.timers c.irq n c.converting

abbrev pub converting_with : Clocks → Bool → Clocks
converting_with c converting = clocks_of c.times c.timers c.irq c.vsync converting

-- ---- the devices

-- what a transfer changes of the flash: its answer and the transaction
abbrev pub sent_with : Chip → ℕ → Trans → Chip
sent_with c rx tx = record { mode = c.mode; cs = c.cs; wel = c.wel; writes = c.writes; rx = rx; tx = tx }

abbrev pub devices_of : Chip → Panel → Clocks → Latch → Tone → Bool → Devices
devices_of f p c l t o = record { flash = f; panel = p; clocks = c; latch = l; tone = t; off = o }

abbrev pub with_flash : Devices → Chip → Devices
with_flash d x = devices_of x d.panel d.clocks d.latch d.tone d.off

abbrev pub with_panel : Devices → Panel → Devices
with_panel d x = devices_of d.flash x d.clocks d.latch d.tone d.off

abbrev pub with_clocks : Devices → Clocks → Devices
with_clocks d x = devices_of d.flash d.panel x d.latch d.tone d.off

abbrev pub with_latch : Devices → Latch → Devices
with_latch d x = devices_of d.flash d.panel d.clocks x d.tone d.off

abbrev pub with_tone : Devices → Tone → Devices
with_tone d x = devices_of d.flash d.panel d.clocks d.latch x d.off

abbrev pub with_off : Devices → Bool → Devices
with_off d x = devices_of d.flash d.panel d.clocks d.latch d.tone x

-- ---- all parts

abbrev pub parts : Devices → Ring → Keys → Parts
parts d q k = record { devices = d; ring = q; keys = k }

abbrev pub devices_put : Parts → Devices → Parts
devices_put x d = parts d x.ring x.keys

abbrev pub flash_put : Parts → Chip → Parts
flash_put x c = devices_put x (with_flash x.devices c)

abbrev pub sent_put : Parts → ℕ → Trans → Parts
sent_put x rx tx = flash_put x (sent_with x.devices.flash rx tx)

abbrev pub panel_put : Parts → Panel → Parts
panel_put x p = devices_put x (with_panel x.devices p)

abbrev pub pen_put : Parts → Pen → Parts
pen_put x p = panel_put x (with_pen x.devices.panel p)

abbrev pub clocks_put : Parts → Clocks → Parts
clocks_put x c = devices_put x (with_clocks x.devices c)

abbrev pub times_put : Parts → Times → Parts
times_put x t = clocks_put x (times_with x.devices.clocks t)

abbrev pub turbo_put : Parts → Float → Parts
turbo_put x turbo = times_put x (turbo_with x.devices.clocks.times turbo)

abbrev pub timers_put : Parts → List Timer → Parts
timers_put x ts = clocks_put x (timers_with x.devices.clocks ts)

abbrev pub timer_put : Parts → ℕ → Timer → Parts
timer_put x n t = clocks_put x (timer_with x.devices.clocks n t)

abbrev pub irq_put : Parts → RtcIrq → Parts
irq_put x t = clocks_put x (irq_with x.devices.clocks t)

abbrev pub vsync_put : Parts → ℕ → Parts
vsync_put x n = clocks_put x (vsync_with x.devices.clocks n)

abbrev pub converting_put : Parts → Bool → Parts
converting_put x b = clocks_put x (converting_with x.devices.clocks b)

abbrev pub latch_put : Parts → Latch → Parts
latch_put x t = devices_put x (with_latch x.devices t)

abbrev pub tone_put : Parts → Tone → Parts
tone_put x t = devices_put x (with_tone x.devices t)

abbrev pub off_put : Parts → Bool → Parts
off_put x b = devices_put x (with_off x.devices b)

abbrev pub ring_put : Parts → Ring → Parts
ring_put x q = parts x.devices q x.keys

abbrev pub keys_put : Parts → Keys → Parts
keys_put x k = parts x.devices x.ring k

abbrev pub count_put : Parts → ℕ → Parts
count_put x n = keys_put x (with_count x.keys n)

-- key 0, 1 or 2; there is no other
abbrev pub live_put : Parts → ℕ → Bool → Parts
live_put x key down = keys_put x (with_live x.keys (held_with x.keys.live key down))

abbrev pub hold_put : Parts → ℕ → Float → Parts
hold_put x key until = keys_put x (with_holds x.keys (holds_with x.keys.holds key until))

abbrev pub applied_put : Parts → ℕ → Parts
applied_put x n = keys_put x (with_applied x.keys n)
