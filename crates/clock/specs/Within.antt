-- What holds of the clocks within the limits. Every operation keeps it, so whatever runs over them may carry it along.
use Rattle.std.specs.Prelude.{◌≡◌, ℕ, ◌^◌, ◌<◌, T, List, length, from_bits, slice_index, Float}
use Rattle.std.specs.Float.{binary64}
use Rattle.std.specs.Float.Ieee.{fits, mul, div, le, to_unsigned}
use Rattle.whole.specs.Bounds.{AtMost}
use Rattle.whole.specs.Limits.{good_time, good_turbo}
use Rattle.clock.specs.declared.Times.{Times}
use Rattle.clock.specs.declared.Latch.{Latch}
use Rattle.clock.specs.declared.RtcIrq.{RtcIrq}

-- now and turbo are accepted ones, and game time is at most 2 ^ 31
pub record Within (s : Times) : Type 0 where
  pub now_good : T (good_time s.now)
  pub turbo_good : T (good_turbo s.turbo)
  pub game_limit : AtMost s.game (2 ^ 31)
  pub game_fits : T (fits binary64 s.game)

-- neither time goes back
pub record Later (s t : Times) : Type 0 where
  pub now_later : T (le s.now t.now)
  pub game_later : T (le s.game t.game)

-- a game time that has been: not after game time
pub record Past (then game : Float) : Type 0 where
  pub limit : AtMost then (2 ^ 31)
  pub before : T (le then game)

-- the RTC's 256 registers are bytes, six of them were latched, and that was not after game time; it puts out a byte
pub record Latched (regs : List ℕ) (latch : Latch) (game : Float) : Type 0 where
  pub size : length regs ≡ 256
  pub bytes : (i : ℕ) → slice_index regs i < 2 ^ 8
  pub base : latch.base < 2 ^ 48
  pub since : Past latch.since game
  pub out : latch.out < 2 ^ 8

-- the time of day was set to one, and not after game time
pub record DaySet (irq : RtcIrq) (game : Float) : Type 0 where
  pub base : irq.base < 86400
  pub set : Past irq.set game

-- the ticks that were signalled are the whole seconds of game time
abbrev pub SecondsSeen : ℕ → Float → Type 0
SecondsSeen fired game = fired ≡ to_unsigned 64 (div binary64 game (from_bits binary64 0x3FF0_0000_0000_0000))

-- the vertical syncs that were signalled are the whole sixtieths of time
abbrev pub SyncsSeen : ℕ → Float → Type 0
SyncsSeen last now = last ≡ to_unsigned 64 (mul binary64 now (from_bits binary64 0x404E_0000_0000_0000))
