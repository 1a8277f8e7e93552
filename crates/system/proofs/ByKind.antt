-- What holds of every kind of operation holds of every operation.
use Prim.Native.Nat.{ℕ}
use mathlib.Core.Path.{◌≡◌, refl}
use mathlib.Core.List.{List}
use lib.ListN.{length}
use Rattle.std.specs.Prelude.{Err, Ok}
use Rattle.clock.specs.Times.{Paced}
use Rattle.clock.specs.Times.{paced_of}
use Rattle.block.specs.Block.{plain, laid_of}
use Rattle.system.specs.System.{Machine, with_times}
use Rattle.system.specs.Calls.{read_of, write_of, advance_of, turbo_of, pacing, take_of, live_of, hold_of, press_of}
use Rattle.system.specs.Calls.{wiped_of}
use Rattle.system.specs.Steps.{Op, read, write, advance, next_event, pending, turbo, live, hold, press}
use Rattle.system.specs.Steps.{take_event, counters, pixel, wipe, peek8, peek32, poke, keys_held, irq_wanted}
use Rattle.system.specs.Steps.{carry_on, by_poke, with_system, step}
use Rattle.system.specs.Normal.{system_normal, normal}
use Rattle.system.specs.Carried.{board_in, screen_in, Kind, writes, lays, wipes, other, kind_of}

-- a turbo that is taken, or refused
by_pace : (m : Machine) (P : Machine → Type 0) → ((x : Machine) → board_in x ≡ board_in m → screen_in x ≡ screen_in
    m → P x)
    → (p : Paced) → P (with_system m (pacing m.system p).system)
by_pace m P f (Ok t) = f (with_system m (with_times m.system t)) refl refl
by_pace m P f (Err r) = f m refl refl

-- an operation that is no write, no poke and no wipe leaves flash and panel as they were
pub by_kind : (m : Machine) (P : Kind → Machine → Type 0) → ((x : Machine) → board_in x ≡ board_in m
    → screen_in x ≡ screen_in m → P other x)
    → ((a n v : ℕ) → P (writes a n v) (write_of m a n v).machine)
    → ((a : ℕ) (bytes : List ℕ) → P (lays a bytes)
    (by_poke m (laid_of (plain m.ram m.sram m.gpio) a bytes)).machine)
    → P wipes (wiped_of (length m.ram) (length m.sram) (length m.gpio) (length m.fb))
    → (o : Op) → P (kind_of o) (step m o).machine
unfolding step read_of advance_of turbo_of live_of hold_of press_of take_of system_normal normal
by_kind m P f g l w (read a n) = f (step m (read a n)).machine refl refl
by_kind m P f g l w (write a n v) = g a n v
by_kind m P f g l w (advance t) = f (step m (advance t)).machine refl refl
by_kind m P f g l w next_event = f (step m next_event).machine refl refl
by_kind m P f g l w pending = f (step m pending).machine refl refl
by_kind m P f g l w (turbo t) = by_pace m (P other) f (paced_of m.system.devices.clocks.times t)
by_kind m P f g l w (live k down) = f (step m (live k down)).machine refl refl
by_kind m P f g l w (hold k t) = f (step m (hold k t)).machine refl refl
by_kind m P f g l w (press k t) = f (step m (press k t)).machine refl refl
by_kind m P f g l w take_event = f (step m take_event).machine refl refl
by_kind m P f g l w counters = f (step m counters).machine refl refl
by_kind m P f g l w (pixel k) = f (step m (pixel k)).machine refl refl
by_kind m P f g l w wipe = w
by_kind m P f g l w (peek8 a) = f (step m (peek8 a)).machine refl refl
by_kind m P f g l w (peek32 a) = f (step m (peek32 a)).machine refl refl
by_kind m P f g l w (poke a bytes) = l a bytes
by_kind m P f g l w keys_held = f (step m keys_held).machine refl refl
by_kind m P f g l w irq_wanted = f (step m irq_wanted).machine refl refl
by_kind m P f g l w carry_on = f (step m carry_on).machine refl refl
