-- What a live call answers and leaves: 7 where a memory has another length than a unit's; else what the bus's
-- operation does, by the one definition of all operations.
use Rattle.std.specs.Prelude.{ℕ, ◌≡◌, Bool, cond, List, ◌≢◌, eqb, Float, length, get_or}
use Rattle.map.specs.Numbers.{DONE, BAD_MEMORY}
use Rattle.whole.specs.Forms.{nought, bit}
use Rattle.block.specs.Block as block
use Rattle.block.specs.Block.{Block}
use Rattle.panel.specs.Entries.{Picture, picture_of}
use Rattle.clock.specs.Day as day
use Rattle.clock.specs.Rtc as rtc
use Rattle.timer.specs.declared.Event.{Event}
use Rattle.timer.specs.Events.{BulkOutcome, bulk_of}
use Rattle.state.specs.Packed.{cells_of, floats_of}
use Rattle.system.specs.System.{Machine, with_queue}
use Rattle.system.specs.Bank.{fresh_parts}
use Rattle.system.specs.Steps.{Op, Outcome, step, plainly, with_system}
use Rattle.runner.specs.Script.{bad_memory}

-- the number in an array of one, and the time
abbrev pub only : List ℕ → ℕ
only l = get_or l 0 0

abbrev pub only_time : List Float → Float
only_time l = get_or l 0 nought

-- ---- calls that are lent the memories

-- a machine's memories are not a unit's
abbrev pub notAUnit : Machine → Bool
notAUnit m = bad_memory m.ram m.sram m.gpio m.fb

unfoldable pub called : Machine → Op → Outcome
called m o = cond (notAUnit m) (plainly m BAD_MEMORY) (step m o)

-- what a wipe leaves of the bank's words: the fresh ones, or all as they were where it is refused
pub record Zeroed (n : ℕ) (l : List ℕ) (f : List Float) (l' : List ℕ) (f' : List Float) : Type 0 where
  pub fresh : n ≡ DONE → (l' ≡ cells_of fresh_parts) × (f' ≡ floats_of fresh_parts)
  pub still : n ≢ DONE → (l' ≡ l) × (f' ≡ f)

-- ---- read_block: 01's number, 1 where the bytes lie in one memory or one page of stray space, and the bytes

pub record BlockSeen : Type 0 where
  pub refusal : ℕ
  pub whole : ℕ
  pub bytes : List ℕ

abbrev pub block_seen : ℕ → ℕ → List ℕ → BlockSeen
block_seen n w l = record { refusal = n; whole = w; bytes = l }

abbrev pub seen_of : Block → BlockSeen
seen_of b = block_seen DONE (bit b.whole) b.bytes

unfoldable pub block_of : Machine → ℕ → List ℕ → BlockSeen
block_of m a l =
    cond (notAUnit m) (block_seen BAD_MEMORY 0 l)
    (seen_of (block.read_of m.system.registers m.ram m.sram m.gpio a (length l)))

-- ---- the screen: 01's number, and the bytes

abbrev pub screen_seen : ℕ → List ℕ → Picture
screen_seen n l = record { refusal = n; out = l }

unfoldable pub screen_of : Machine → List ℕ → Picture
screen_of m l = cond (notAUnit m) (screen_seen BAD_MEMORY l) (picture_of m.fb l)

-- ---- what the clocks say, at the machine's own game time

abbrev pub tod_of : Machine → ℕ
tod_of m = day.tod_of m.system.devices.clocks.irq m.system.devices.clocks.times.game

abbrev pub ticks_of : Machine → ℕ
ticks_of m = rtc.ticks_of m.system.devices.latch m.system.devices.clocks.times.game

abbrev pub alarm_seen : ℕ → ℕ → ℕ × ℕ
alarm_seen on ticks = (on, ticks)

-- 1 and the ticks, or 0 and 0 where no alarm is on
abbrev pub alarm_of : Machine → ℕ × ℕ
alarm_of m = rtc.alarm_values (rtc.alarm_of m.system.rtc)

-- ---- sound events in bulk

-- how many were taken, the later machine, and the later records
pub record TookMany : Type 0 where
  pub count : ℕ
  pub machine : Machine
  pub records : List Event

abbrev pub took_many : ℕ → Machine → List Event → TookMany
took_many n m ys = record { count = n; machine = m; records = ys }

abbrev pub bulk_taken : Machine → BulkOutcome → TookMany
bulk_taken m b = took_many b.bulk.count (with_system m (with_queue m.system b.bulk.queue)) b.records

-- where none is taken nothing changes
abbrev pub many_taken : Machine → List Event → BulkOutcome → TookMany
many_taken m ys b = cond (eqb b.bulk.count 0) (took_many 0 m ys) (bulk_taken m b)

unfoldable pub take_many : Machine → List Event → TookMany
take_many m ys = many_taken m ys (bulk_of m.system.queue ys)
