-- Every operation in one definition: what it is given, what it answers, what it leaves. Demand 2's definition of the
-- whole.
use Rattle.std.specs.Prelude.{ℕ, ◌+◌, ◌*◌, Bool, List, [], ◌∷◌, Float, length}
use Rattle.whole.specs.Forms.{nought}
use Rattle.whole.specs.Forms.{bit}
use Rattle.panel.specs.declared.Colours.{Colours}
use Rattle.panel.specs.Colour.{pixel_at}
use Rattle.keys.specs.declared.Held.{Held}
use Rattle.time.specs.Next.{NextTime}
use Rattle.block.specs.Block.{Plain, plain, peek_of, peeked32, laid_of}
use Rattle.system.specs.declared.System.{System}
use Rattle.system.specs.Calls.{Changed}
use Rattle.system.specs.Calls.{Read}
use Rattle.system.specs.Calls.{Taken}
use Rattle.system.specs.declared.Counters.{Counters}
use Rattle.system.specs.System.{Machine, machine, Left}
use Rattle.system.specs.Normal.{normal}
use Rattle.system.specs.Calls.{Moved, read_of, write_of, advance_of, next_of, turbo_of, pending_of, wanted_of, take_of}
use Rattle.system.specs.Calls.{live_of, hold_of, press_of, held_of, counters_of, wiped_of}

-- read and write: address, size, value; keys: the key, and whether it is down or its time; carryOn: saved and resumed
-- at once, which within the limits is never refused
pub data Op : Type 0 where
  read : ℕ → ℕ → Op
  write : ℕ → ℕ → ℕ → Op
  advance : Float → Op
  next_event : Op
  pending : Op
  turbo : Float → Op
  live : ℕ → Bool → Op
  hold : ℕ → Float → Op
  press : ℕ → Float → Op
  take_event : Op
  counters : Op
  pixel : ℕ → Op
  wipe : Op
  peek8 : ℕ → Op
  peek32 : ℕ → Op
  poke : ℕ → List ℕ → Op
  keys_held : Op
  irq_wanted : Op
  carry_on : Op

-- 01's number, three whole numbers and three floats; what an operation does not answer is zero
pub record Outcome : Type 0 where
  pub machine : Machine
  pub refusal : ℕ
  pub a : ℕ
  pub b : ℕ
  pub c : ℕ
  pub x : Float
  pub y : Float
  pub z : Float

abbrev pub words : Machine → ℕ → ℕ → ℕ → ℕ → Outcome
words m n a b c = record { machine = m; refusal = n; a = a; b = b; c = c; x = nought; y = nought; z = nought }

abbrev pub plainly : Machine → ℕ → Outcome
plainly m n = words m n 0 0 0

abbrev pub floats : Machine → ℕ → Float → Float → Float → Outcome
floats m n x y z = record { machine = m; refusal = n; a = 0; b = 0; c = 0; x = x; y = y; z = z }

-- ---- an answer over the machine

abbrev pub with_system : Machine → System → Machine
with_system m s = machine s m.ram m.sram m.gpio m.fb

abbrev pub by_change : Machine → Changed → Outcome
by_change m x = plainly (with_system m x.system) x.refusal

abbrev pub by_read : Machine → Read → Outcome
by_read m x = words (with_system m x.system) x.refusal x.value 0 0

abbrev pub by_left : Left → Outcome
by_left x = plainly x.machine x.refusal

abbrev pub by_move : Machine → Moved → Outcome
by_move m x = plainly (machine x.changed.system m.ram m.sram x.gpio m.fb) x.changed.refusal

abbrev pub by_next : Machine → NextTime → Outcome
by_next m x = floats m x.refusal x.time nought nought

abbrev pub by_taken : Machine → Taken → Outcome
by_taken m x = floats (with_system m x.system) x.refusal x.event.time x.event.frequency x.event.duty

abbrev pub by_counters : Machine → Counters → Outcome
by_counters m x = words m 0 x.frames x.writes (bit x.off)

-- r * 65536 + g * 256 + b
abbrev pub by_colours : Machine → Colours → Outcome
by_colours m x = words m 0 (x.r * 65536 + x.g * 256 + x.b) 0 0

abbrev pub by_held : Machine → Held → Outcome
by_held m x = words m 0 (bit x.a + bit x.b * 2 + bit x.c * 4) 0 0

abbrev pub by_poke : Machine → Plain → Outcome
by_poke m x = plainly (machine m.system x.ram x.sram x.gpio m.fb) 0

-- ---- one operation

unfoldable pub step : Machine → Op → Outcome
step m (read a n) = by_read m (read_of m.system m.ram m.sram m.gpio a n)
step m (write a n v) = by_left (write_of m a n v)
step m (advance t) = by_move m (advance_of m.system m.sram m.gpio t)
step m next_event = by_next m (next_of m.system m.sram)
step m pending = words m 0 (pending_of m.system) 0 0
step m (turbo t) = by_change m (turbo_of m.system t)
step m (live k down) = by_change m (live_of m.system k down)
step m (hold k t) = by_change m (hold_of m.system k t)
step m (press k t) = by_change m (press_of m.system k t)
step m take_event = by_taken m (take_of m.system)
step m counters = by_counters m (counters_of m.system)
step m (pixel k) = by_colours m (pixel_at m.fb k)
step m wipe = plainly (wiped_of (length m.ram) (length m.sram) (length m.gpio) (length m.fb)) 0
step m (peek8 a) = words m 0 (peek_of m.system.registers m.ram m.sram m.gpio a) 0 0
step m (peek32 a) = words m 0 (peeked32 m.system.registers m.ram m.sram m.gpio a) 0 0
step m (poke a bytes) = by_poke m (laid_of (plain m.ram m.sram m.gpio) a bytes)
step m keys_held = by_held m (held_of m.system)
step m irq_wanted = words m 0 (bit (wanted_of m.system)) 0 0
step m carry_on = plainly (normal m) 0

-- the machine after operations
unfoldable pub after : Machine → List Op → Machine
after m [] = m
after m (o ∷ os) = after (step m o).machine os
